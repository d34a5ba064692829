-- `entries_fit` meets its contract. The loop keeps that the entries that are left decide, by the sectors in the two sets.
use Rattle.sector.specs.Walks.{entries_left}
use Rattle.record_test.proofs.RecordLaws.{Left}
use Rattle.record_test.proofs.entries_fit.Given as goal

abbrev pub invariant-loop-e : goal.invariant-loop-e
invariant-loop-e l =
    Left l.table.bytes.now (entries_left l.entries) (entries_left l.e-iterator) l.pages.words l.slots.words
