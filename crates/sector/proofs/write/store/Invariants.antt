-- The invariant of `store`: up to `i` the part has the source's bytes, from there on its own (`paste`).
use mathlib.Core.Path.{◌≡◌}
use lib.Seq.{paste}
use lib.ListN.{length}
use Rattle.sector.proofs.write.store.Given as goal

abbrev pub invariant-loop-i : goal.invariant-loop-i
invariant-loop-i l = (length l.part ≡ 256) × (l.part ≡ paste l.initial.part 0 l.src l.i)
