-- `header_sector` meets its contract: the number read is the header's sector.
use mathlib.Core.Path.{◌≡◌, ◌∙◌}
use native.Mathlib.Omega.{arith}
use Rattle.volume.specs.Places.{header_sector}
use Rattle.volume.specs.Volumes.{view}
use Rattle.volume.proofs.ReadLaws.{few_files, few_headers, header_sector_in_lem}
use Rattle.volume.proofs.read.VolumeFile.header_sector.Goals as goal

pub file_header-requires : goal.file_header-requires
file_header-requires c =
    let x = c.args.self in
    omega (arith, few_files x.volume.bytes.now x.volume.formed, c.from.ensures, x.listed.low, x.listed.high)

pub returns : goal.returns
returns c =
    let x = c.args.self in
    let e : c.file_header.result ≡ header_sector (view c.args.self.volume.bytes.now).table c.args.self.number
    = c.file_header.ensures.0 ∙ rw (c.table.ensures, c.from.ensures) (header_sector_in_lem x.volume.bytes.now x.volume.formed x.number x.listed) in
    (e, rw e (few_headers x.volume.bytes.now x.volume.formed x.number x.listed))
