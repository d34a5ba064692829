-- `put_record` meets its contract: the store is made if the run goes on.
use Rattle.stores.proofs.MadeLaws.{put_made, put_short}
use Rattle.stores.proofs.put_record.Goals as goal

pub returns-in_err-next : goal.returns-in_err-next
returns-in_err-next c = λ x e. put_short _ c.from_residual.ensures.1 c.in_err-next.ensures

pub returns : goal.returns
returns c = λ x e. put_made _ c.in_ok-next.ensures (c.store_record.ensures x e)
