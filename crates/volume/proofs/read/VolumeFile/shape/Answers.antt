-- `shape` meets its contract: the bytes read are the view's fields.
use mathlib.Core.Path.{◌∙◌}
use native.Mathlib.Omega.{arith}
use Rattle.volume.proofs.ReadLaws.{few_files, file_in_lem}
use Rattle.volume.proofs.read.VolumeFile.shape.Goals as goal

pub file-requires : goal.file-requires
file-requires c =
    let x = c.args.self in
    omega (arith, few_files x.volume.bytes.now x.volume.formed, c.from.ensures, x.listed.low, x.listed.high)

pub returns : goal.returns
returns c =
    let x = c.args.self in
    c.file.ensures ∙ rw (c.table.ensures, c.from.ensures) (file_in_lem x.volume.bytes.now x.volume.formed x.number x.listed)
