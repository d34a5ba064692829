-- `set_state` meets its contract, by the law of a stored state.
use Rattle.sector.proofs.EditLaws.{record_state}
use Rattle.sector.proofs.build.set_state.Goals as goal

pub returns : goal.returns
returns c = record { buf_after = λ r q. rw q (record_state r c.args.state) }
