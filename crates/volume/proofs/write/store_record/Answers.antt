-- `store_record` meets its contract: the record's sector is inside a well-formed volume, and becomes src.
use Rattle.volume.specs.Places.{record_place}
use Rattle.volume.proofs.ReadLaws.{placed}
use Rattle.volume.proofs.write.store_record.Goals as goal

pub store-requires : goal.store-requires
store-requires c =
    placed c.args.v.now c.requires.0.tabled (record_place c.args.k) _ (c.requires.1.low, c.requires.1.high) c.from.ensures
