-- `entry_count` meets its contract: the byte read is the number of the view's entries.
use mathlib.Core.Path.{ap, ◌∙◌}
use Rattle.sector.specs.Decoding.{count_in}
use Rattle.volume.proofs.ReadLaws.{count_in_lem, few_entries}
use Rattle.volume.proofs.read.VolumeClient.entry_count.Goals as goal

pub returns : goal.returns
returns c =
    let x = c.args.self in
    let e = c.record_count.ensures ∙ ap count_in c.record.ensures ∙ count_in_lem x.volume.bytes.now x.volume.formed x.number x.listed in
    (e, rw e (few_entries x.volume.bytes.now x.volume.formed x.number x.listed))
