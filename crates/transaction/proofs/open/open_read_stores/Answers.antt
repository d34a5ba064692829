-- `open_read_stores` meets its contract, by the file's holder: the client itself, nobody, or another client, which is recovered.
use Rattle.volume.specs.Volumes.{view}
use Rattle.stores.proofs.MadeLaws.{made_none}
use Rattle.transaction.proofs.OpenLaws.{own_read_plan, free_read_plan, holder_client, open_read_made}
use Rattle.transaction.proofs.open.open_read_stores.Goals as goal

pub returns-then-holder-k : goal.returns-then-holder-k
returns-then-holder-k c =
    λ t free unread. rw (own_read_plan (view c.args.v.now) t c.args.k c.args.f (cc), c.new-start.ensures) made_none

pub returns-then-holder-eq0 : goal.returns-then-holder-eq0
returns-then-holder-eq0 c =
    λ t free unread. rw (free_read_plan (view c.args.v.now) t c.args.k c.args.f (λ e. c.if-holder-k.false (cc)) (cc), c.new-start.ensures) made_none

pub recover-requires : goal.recover-requires
recover-requires c =
    (c.requires.0, holder_client c.requires.0 c.requires.1 c.requires.2 (cc) c.if-holder-k.false c.if-holder-eq0.false)

pub returns : goal.returns
returns c =
    open_read_made c.requires.0 c.requires.1 c.requires.2 (cc) c.if-holder-k.false c.if-holder-eq0.false
    (rw c.new-start.ensures at c.recover.ensures.updates_made)
