-- `is_sound` meets its contract: the tests of `sound_test`, in order. Each asks for what those before it have shown.
use mathlib.Core.Path.{refl, sym, ◌∙◌}
use native.Mathlib.Omega.{arith}
use Rattle.sector.specs.Sectors.{sector}
use Rattle.soundness.proofs.SoundLaws.{records_inside, tested, table_tested, sound_last}
use Rattle.soundness.proofs.is_sound.Goals as goal

pub part-table-requires : goal.part-table-requires
part-table-requires c =
    let v = c.args.v.now in
    let k = table_tested v (sector v 0) refl (sym c.if-not-table_is_sound_in.ensures) in
    (k.long, omega arith)

pub invariant_of-records_are_sound : goal.invariant_of-records_are_sound
invariant_of-records_are_sound c =
    record { sound = (table_tested c.args.v.now _ c.part-table.ensures (sym c.if-not-table_is_sound_in.ensures)).table }

pub records_are_sound-requires : goal.records_are_sound-requires
records_are_sound-requires c =
    let k = table_tested c.args.v.now _ c.part-table.ensures (sym c.if-not-table_is_sound_in.ensures) in
    records_inside c.args.v.now _ k.table k.size

pub invariant_of-headers_are_sound : goal.invariant_of-headers_are_sound
invariant_of-headers_are_sound c =
    let v = c.args.v.now in
    let tb = c.part-table.result.now in
    let k = table_tested v tb c.part-table.ensures (sym c.if-not-table_is_sound_in.ensures) in
    record { tested = tested v tb k.table k.size (sym c.if-not-records_are_sound.ensures) }

pub returns : goal.returns
returns c =
    c.headers_are_sound.ensures
    ∙ sound_last c.args.v.now _ c.part-table.ensures (sym c.if-not-table_is_sound_in.ensures) (sym c.if-not-records_are_sound.ensures)
