-- `open_stores` meets its contract, by the file's holder: the client itself, nobody, or another client, which is recovered first.
use Rattle.volume.specs.Volumes.{view}
use Rattle.stores.proofs.MadeLaws.{made_none}
use Rattle.transaction.proofs.OpenLaws.{own_plan, free_plan, holder_client, open_cut, recovered_formed, open_more}
use Rattle.transaction.proofs.open.open_stores.Goals as goal

pub returns-then-holder-k : goal.returns-then-holder-k
returns-then-holder-k c =
    λ t free. rw (own_plan (view c.args.v.now) t c.args.k c.args.f (cc), c.new-start.ensures) made_none

pub returns-then-holder-eq0 : goal.returns-then-holder-eq0
returns-then-holder-eq0 c =
    λ t free. rw (free_plan (view c.args.v.now) t c.args.k c.args.f (λ e. c.if-holder-k.false (cc)) (cc))
    (rw c.new-start.ensures at c.claim.ensures)

pub recover-requires : goal.recover-requires
recover-requires c =
    (c.requires.0, holder_client c.requires.0 c.requires.1 c.requires.2 (cc) c.if-holder-k.false c.if-holder-eq0.false)

pub returns-in_err-run : goal.returns-in_err-run
returns-in_err-run c =
    open_cut c.requires.0 c.requires.1 c.requires.2 (cc) c.if-holder-k.false c.if-holder-eq0.false
    c.from_residual.ensures.1 (rw c.new-start.ensures at c.in_err-run.ensures.updates_made)

pub claim-requires-2 : goal.claim-requires-2
claim-requires-2 c =
    recovered_formed c.requires.0 c.requires.1 c.requires.2 (cc) c.if-holder-k.false c.if-holder-eq0.false
    c.in_ok-run.ensures.updates_made c.in_ok-run.ensures.all_made

pub returns : goal.returns
returns c =
    open_more c.requires.0 c.requires.1 c.requires.2 (cc) c.if-holder-k.false c.if-holder-eq0.false
    (rw c.new-start.ensures at c.in_ok-run.ensures.updates_made) c.in_ok-run.ensures.all_made c.claim-2.ensures
