-- `record` meets its contract: the record's sector is inside a well-formed volume.
use Rattle.volume.specs.Places.{record_place}
use Rattle.volume.proofs.ReadLaws.{placed}
use Rattle.volume.proofs.read.VolumeClient.record.Goals as goal

pub part-requires : goal.part-requires
part-requires c =
    let x = c.args.self in
    placed x.volume.bytes.now x.volume.formed.tabled (record_place x.number) _ (x.listed.low, x.listed.high) c.from.ensures
