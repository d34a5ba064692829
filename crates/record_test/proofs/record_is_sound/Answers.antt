-- `record_is_sound` meets its contract: it is a record, so it has at most 62 entries, and then its numbers.
use mathlib.Core.Path.{sym}
use Rattle.sector.specs.Decoding.{decode_table}
use Rattle.sector.proofs.EncodedLaws.{record_few}
use Rattle.record_test.proofs.RecordLaws.{no_record, record_last}
use Rattle.record_test.proofs.record_is_sound.Goals as goal

pub returns-then-not-is_record : goal.returns-then-not-is_record
returns-then-not-is_record c = sym (no_record _ _ (sym c.if-not-is_record.ensures))

pub of-requires : goal.of-requires
of-requires c = record_few c.args.d.now c.told-d (sym c.if-not-is_record.ensures)

pub returns : goal.returns
returns c =
    rw (c.state_fits.ensures, c.entries_fit.ensures, c.of.ensures)
    (record_last (decode_table c.args.table.bytes.now) c.args.d.now c.told-d (sym c.if-not-is_record.ensures))
