-- `begin_stores` meets its contract: recovery, then the open record.
use Rattle.volume.specs.Volumes.{view}
use Rattle.stores.proofs.MadeLaws.{all_table, made_more, made_cut}
use Rattle.transaction.proofs.BeginLaws.{begin_plan_lem}
use Rattle.transaction.proofs.begin.begin_stores.Goals as goal

pub returns-in_err-run : goal.returns-in_err-run
returns-in_err-run c =
    λ t off. rw (begin_plan_lem (view c.args.v.now) t c.args.k off)
    (made_cut _ c.from_residual.ensures.1 (rw c.new-start.ensures at c.in_err-run.ensures.updates_made))

pub put_empty_record-requires : goal.put_empty_record-requires
put_empty_record-requires c =
    let w = c.in_ok-run.ensures.all_made in
    (w.formed, rw (all_table _ w) c.requires.1)

pub returns : goal.returns
returns c =
    λ t off. rw (begin_plan_lem (view c.args.v.now) t c.args.k off)
    (made_more (rw c.new-start.ensures at c.in_ok-run.ensures.updates_made) (all_table _ c.in_ok-run.ensures.all_made) c.put_empty_record.ensures)
