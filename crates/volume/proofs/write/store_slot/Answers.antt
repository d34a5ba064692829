-- `store_slot` meets its contract: the slot's sector is inside a well-formed volume, and becomes src.
use Rattle.volume.specs.Places.{slot_place}
use Rattle.volume.proofs.ReadLaws.{placed}
use Rattle.volume.proofs.write.store_slot.Goals as goal

pub store-requires : goal.store-requires
store-requires c =
    placed c.args.v.now c.requires.0.tabled (slot_place c.args.f c.args.r) _ (c.requires.1, c.requires.2)
    (rw (c.header_sector.ensures.0, c.file.ensures.0, c.file.ensures.1, c.from.ensures))
