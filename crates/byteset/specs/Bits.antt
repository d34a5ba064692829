-- The bits of a word.
use Rattle.std.specs.Prelude.{Bool, not, ℕ, ◌-◌, ◌^◌, eqb}
use Rattle.std.specs.Int.Bits.{bit_and, bit_or}
use Rattle.lists.specs.Lists.{when◌then◌else◌}

-- Bit k of the word is set.
abbrev pub has_bit : ℕ → ℕ → Bool
has_bit w k = not (eqb (bit_and w (2 ^ k)) 0)

-- The word with bit k set.
unfoldable pub with_bit : ℕ → ℕ → ℕ
with_bit w k = bit_or w (2 ^ k)

-- The word with bit k clear.
unfoldable pub without_bit : ℕ → ℕ → ℕ
without_bit w k = when has_bit w k then w - 2 ^ k else w
