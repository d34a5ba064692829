-- `take_given` meets its contract: what is taken, or is left of the entries, stays the same.
use Rattle.std.proofs.Common.{◌≡◌, ◌||◌, ℕ}
use Rattle.lists.specs.Lists.{any}
use Rattle.sector.specs.Entries.{gives_slot}
use Rattle.sector.specs.Walks.{entries_left}
use Rattle.volume.specs.Volumes.{view}
use Rattle.byteset.specs.Set.{has_byte}
use Rattle.slots.proofs.take_given.Given as goal

abbrev pub invariant-loop-e : goal.invariant-loop-e
invariant-loop-e l = record {
  taken : (y : ℕ) → (has_byte l.taken.words y || any (gives_slot l.f y) (entries_left l.e-iterator)) ≡ (has_byte l.initial.taken.words y || any (gives_slot l.f y) ((view l.c.volume.bytes.now).records l.c.number).entries);
}
