-- `tabled_volume`: where the table is sound, it is well formed.
use Rattle.std.proofs.Common.{◌∙◌, sym}
use Rattle.volume.proofs.WellFormedLaws.{table_formed}
use Rattle.soundness.proofs.tabled_volume.Goals as goal

pub invariant_of-result : goal.invariant_of-result
invariant_of-result c = record { formed = table_formed c.args.v.now (sym c.table_is_sound_in.ensures ∙ c.if-table_is_sound_in.true) }
