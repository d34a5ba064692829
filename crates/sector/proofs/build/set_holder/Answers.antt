-- `set_holder` meets its contract, by the law of a stored holder.
use Rattle.sector.proofs.EditLaws.{header_holder}
use Rattle.sector.proofs.build.set_holder.Goals as goal

pub returns : goal.returns
returns c = record { buf_after = λ x h q. rw q (header_holder x h c.args.k) }
