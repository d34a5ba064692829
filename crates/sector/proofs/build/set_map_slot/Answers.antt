-- `set_map_slot` meets its contract, by the law of a stored map byte.
use Rattle.sector.proofs.EditLaws.{header_map}
use Rattle.sector.proofs.build.set_map_slot.Goals as goal

pub returns : goal.returns
returns c = record { buf_after = λ x h q low. rw q (header_map x h c.args.p c.args.slot low) }
