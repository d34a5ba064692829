-- `empty_record` meets its contract: three bytes stored in a sector of zeros make the encoding of a record without entries.
use Rattle.sector.proofs.EditLaws.{record_empty}
use Rattle.sector.proofs.fresh.empty_record.Goals as goal

pub returns : goal.returns
returns c = rw c.zeros.ensures (record_empty c.args.state)
