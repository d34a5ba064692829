-- `write_again` meets its contract: the page is all that the plan stores.
use Rattle.volume.specs.Volumes.{view}
use Rattle.transaction.proofs.WriteStoreLaws.{again_plan}
use Rattle.transaction.proofs.write.write_again.Goals as goal

pub returns : goal.returns
returns c =
    λ t k p e found same. rw (again_plan (view c.args.v.now) t k c.args.f p c.args.slot c.args.src.now e found same) (rw c.new-start.ensures at c.put_slot.ensures)
