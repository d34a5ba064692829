-- `take_mapped` meets its contract: what is taken, or is left of the map, stays the same.
use Rattle.std.proofs.Common.{◌≡◌, ◌||◌, ℕ, drop}
use Rattle.lists.specs.Lists.{member}
use Rattle.volume.specs.Volumes.{view}
use Rattle.byteset.specs.Set.{has_byte}
use Rattle.slots.proofs.take_mapped.Given as goal

abbrev pub invariant-loop-r : goal.invariant-loop-r
invariant-loop-r l = record {
  taken : (y : ℕ) → (has_byte l.taken.words y || member y (drop l.r-index ((view l.x.volume.bytes.now).headers l.x.number).map)) ≡ (has_byte l.initial.taken.words y || member y ((view l.x.volume.bytes.now).headers l.x.number).map);
}
