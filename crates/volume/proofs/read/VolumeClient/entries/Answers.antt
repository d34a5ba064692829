-- `entries` meets its contract: the walk is over the view's entries.
use mathlib.Core.Path.{sym, ap, ◌∙◌}
use Rattle.sector.specs.Contents.{Record}
use Rattle.sector.specs.Decoding.{decode_record}
use Rattle.volume.proofs.AccessLaws.{record_is}
use Rattle.volume.proofs.ReadLaws.{count_in_lem, few_entries}
use Rattle.volume.proofs.read.VolumeClient.entries.Goals as goal

pub of-requires : goal.of-requires
of-requires c =
    let x = c.args.self in
    rw (c.record.ensures, count_in_lem x.volume.bytes.now x.volume.formed x.number x.listed) (few_entries x.volume.bytes.now x.volume.formed x.number x.listed)

pub returns : goal.returns
returns c =
    let x = c.args.self in
    c.of.ensures
    ∙ ap (λ d. (decode_record d).entries) c.record.ensures
    ∙ sym (ap (λ (r : Record). r.entries) (record_is x.volume.bytes.now x.number x.listed.low x.listed.high))
