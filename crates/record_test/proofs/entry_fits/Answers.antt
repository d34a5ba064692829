-- `entry_fits` meets its contract: whether there is the entry's file, and then the tests of its page and its slot.
use mathlib.Core.Path.{◌∙◌}
use Rattle.record_test.proofs.RecordLaws.{entry_last}
use Rattle.record_test.proofs.entry_fits.Goals as goal

pub returns : goal.returns
returns c =
    rw c.file-x.ensures (entry_last c.args.table.bytes.now c.args.e _ _ c.from-f.ensures (c.from.ensures ∙ c.table_files.ensures) c.if-not-here.false)
