-- `map` meets its contract: the bytes read are the view's map.
use mathlib.Core.Path.{◌∙◌}
use native.Mathlib.Omega.{arith}
use Rattle.volume.proofs.ReadLaws.{few_pages, map_is}
use Rattle.volume.proofs.read.VolumeFile.map.Goals as goal

pub map-requires : goal.map-requires
map-requires c =
    let x = c.args.self in
    rw c.shape.ensures (omega (arith, few_pages x.volume.bytes.now x.volume.formed x.number x.listed))

pub returns : goal.returns
returns c =
    let x = c.args.self in
    c.map.ensures ∙ rw (c.header.ensures, c.shape.ensures) (map_is x.volume.bytes.now x.number x.listed)
