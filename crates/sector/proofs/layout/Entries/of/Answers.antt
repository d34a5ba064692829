-- `Entries::of` meets its contract: the bytes from the items on hold as many entries as the record says.
use mathlib.Core.Path.{refl, ◌∙◌}
use Rattle.sector.proofs.WalkLaws.{entries_of}
use Rattle.sector.proofs.layout.Entries.of.Goals as goal

pub returns : goal.returns
returns c =
    let count = c.from.ensures ∙ c.record_count.ensures in
    entries_of c.args.d.now c.from.result _ c.told-d (rw count c.requires) count refl
