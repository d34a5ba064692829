-- `header` meets its contract: the header's sector is inside a volume whose table is well formed.
use Rattle.volume.specs.Places.{header_place}
use Rattle.volume.proofs.ReadLaws.{placed}
use Rattle.volume.proofs.read.VolumeFile.header.Goals as goal

pub part-requires : goal.part-requires
part-requires c =
    let x = c.args.self in
    placed x.volume.bytes.now x.volume.formed (header_place x.number) _ x.listed c.header_sector.ensures.0
