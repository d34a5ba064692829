-- `holder` meets its contract: the byte read is the view's field.
use mathlib.Core.Path.{ap, ◌∙◌}
use Rattle.sector.specs.Decoding.{holder_in}
use Rattle.volume.proofs.ReadLaws.{holder_in_lem}
use Rattle.volume.proofs.read.VolumeFile.holder.Goals as goal

pub returns : goal.returns
returns c =
    let x = c.args.self in
    c.header_holder.ensures ∙ ap holder_in c.header.ensures ∙ holder_in_lem x.volume.bytes.now x.number x.listed
