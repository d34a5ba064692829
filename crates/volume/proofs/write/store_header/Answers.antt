-- `store_header` meets its contract: the header's sector is inside a well-formed volume, and becomes src.
use Rattle.volume.specs.Places.{header_place}
use Rattle.volume.proofs.ReadLaws.{placed}
use Rattle.volume.proofs.write.store_header.Goals as goal

pub store-requires : goal.store-requires
store-requires c =
    placed c.args.v.now c.requires.0.tabled (header_place c.args.f) _ c.requires.1 (rw (c.header_sector-s.ensures.0, c.file.ensures.0, c.file.ensures.1))
