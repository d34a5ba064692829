-- `table_is_sound_in` meets its contract: the tests of `table_test`, in order.
use mathlib.Core.Path.{sym}
use Rattle.soundness.proofs.SoundLaws.{table_last}
use Rattle.soundness.proofs.table_is_sound_in.Goals as goal

pub returns : goal.returns
returns c =
    rw c.table_sectors.ensures.0 (table_last c.args.v.now _ c.part-table.ensures c.if-v-lt-SIZE.false (sym c.if-not-table_is_sound.ensures))
