-- `state` meets its contract: the byte read is the view's field.
use mathlib.Core.Path.{ap, ◌∙◌}
use Rattle.sector.specs.Decoding.{state_in}
use Rattle.volume.proofs.ReadLaws.{state_in_lem}
use Rattle.volume.proofs.read.VolumeClient.state.Goals as goal

pub returns : goal.returns
returns c =
    let x = c.args.self in
    c.record_state.ensures ∙ ap state_in c.record.ensures ∙ state_in_lem x.volume.bytes.now x.volume.formed x.number x.listed
