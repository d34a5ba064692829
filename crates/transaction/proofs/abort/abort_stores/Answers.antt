-- `abort_stores` meets its contract: the record is open, so recovery undoes it.
use Rattle.volume.specs.Volumes.{view}
use Rattle.transaction.proofs.CommitLaws.{abort_plan}
use Rattle.transaction.proofs.abort.abort_stores.Goals as goal

pub returns : goal.returns
returns c =
    λ t. rw (abort_plan (view c.args.v.now) t c.args.k c.requires.2) (rw c.new-start.ensures at c.recover.ensures.updates_made)
