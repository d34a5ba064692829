-- `put_slot` meets its contract: the store is made if the run goes on.
use Rattle.stores.proofs.MadeLaws.{put_made, put_short}
use Rattle.stores.proofs.put_slot.Goals as goal

pub returns-in_err-run : goal.returns-in_err-run
returns-in_err-run c = put_short _ c.from_residual.ensures.1 c.in_err-run.ensures

pub returns : goal.returns
returns c = put_made _ c.in_ok-run.ensures c.store_slot.ensures
