-- `lowest_missing` meets its contract. The invariant: every byte below the words that are left is passed over, and of the next
-- word `before` has the bits below the start. So the lowest clear bit of the next word that has one is the byte sought, or it is
-- past n.
use mathlib.Core.Path.{◌≡◌}
use mathlib.Core.Bool.{true}
use Prim.Native.Nat.{ℕ, ◌+◌, ◌*◌, ◌<◌}
use lib.Dec.{ltb}
use Rattle.byteset.specs.Bits.{has_bit}
use Rattle.byteset.specs.Set.{passes_over}
use Rattle.byteset.proofs.BitSet+4.lowest_missing.Given as goal

abbrev pub invariant-loop-i : goal.invariant-loop-i
invariant-loop-i l =
    ((y : ℕ) → y < 64 * l.i → passes_over l.start l.self.words y ≡ true)
    × ((j : ℕ) → j < 64 → has_bit l.before j ≡ ltb (64 * l.i + j) l.start)
