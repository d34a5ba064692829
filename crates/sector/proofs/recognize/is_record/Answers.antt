-- `is_record` meets its contract: the number of entries, the frame, and the last bytes of the entries, by `record_is`.
use mathlib.Core.Path.{◌≡◌, sym, ◌∙◌}
use native.Mathlib.Omega.{arith}
use borrow.Author.Tests.{leb-true}
use Rattle.sector.specs.Decoding.{count_in}
use Rattle.lists.proofs.TestLaws.{all_no, all_last, final, ◌then◌}
use Rattle.sector.proofs.EncodedLaws.{record_is, record_many}
use Rattle.sector.proofs.recognize.is_record.Goals.{then-n-le-ENTRIES, else-n-le-ENTRIES}
use Rattle.sector.proofs.recognize.is_record.Goals as goal

pub returns-then-has_frame : goal.returns-then-has_frame
returns-then-has_frame c =
    let count : c.from-n.result ≡ count_in c.args.d.now = c.from-n.ensures ∙ c.record_count.ensures in
    elim c.if-n-le-ENTRIES.branch [
      | then-n-le-ENTRIES w ↦ c.entries_closed.ensures ∙ sym (record_is c.args.d.now c.told-d _ count w.if-n-le-ENTRIES.true ∙ all_last (sym w.has_frame.ensures ∙ sym w.value-is ∙ c.if-has_frame.true then final))
      | else-n-le-ENTRIES w ↦ absurd (omega (arith, w.if-n-le-ENTRIES.false, leb-true _ _ (sym w.value-is ∙ c.if-has_frame.true)))
    ]

pub returns-else-has_frame : goal.returns-else-has_frame
returns-else-has_frame c =
    let count : c.from-n.result ≡ count_in c.args.d.now = c.from-n.ensures ∙ c.record_count.ensures in
    elim c.if-n-le-ENTRIES.branch [
      | then-n-le-ENTRIES w ↦ c.if-has_frame.false ∙ sym (record_is c.args.d.now c.told-d _ count w.if-n-le-ENTRIES.true ∙ all_no _ 0 (sym w.has_frame.ensures ∙ sym w.value-is ∙ c.if-has_frame.false))
      | else-n-le-ENTRIES w ↦ c.if-has_frame.false ∙ sym (record_many c.args.d.now c.told-d (rw count at w.if-n-le-ENTRIES.false))
    ]
