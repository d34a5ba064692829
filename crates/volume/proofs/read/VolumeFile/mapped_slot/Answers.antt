-- `mapped_slot` meets its contract: the byte read is the view's field.
use mathlib.Core.Path.{◌∙◌}
use native.Mathlib.Omega.{arith}
use Rattle.volume.proofs.ReadLaws.{few_pages, map_in_lem}
use Rattle.volume.proofs.read.VolumeFile.mapped_slot.Goals as goal

pub map_slot-requires : goal.map_slot-requires
map_slot-requires c =
    let x = c.args.self in
    omega (arith, few_pages x.volume.bytes.now x.volume.formed x.number x.listed, c.from.ensures, c.requires)

pub returns : goal.returns
returns c =
    let x = c.args.self in
    c.map_slot.ensures
    ∙ rw (c.header.ensures, c.from.ensures) (map_in_lem x.volume.bytes.now x.number c.args.p (record { file = x.listed; below = c.requires }))
