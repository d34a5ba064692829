-- A set of numbers in words of 64 bits: number x is bit x % 64 of word x / 64. Four words hold any byte.
use Rattle.std.specs.Prelude.{◌≡◌, Bool, true, false, ◌||◌, List, [], ◌∷◌, ℕ, ◌/◌, ◌%◌, ◌^◌, ◌≤◌, ◌<◌, ltb, get_or, set}
use Rattle.std.specs.Int.Bits.{bit_or}
use Rattle.lists.specs.Lists.{member}
use Rattle.byteset.specs.Bits.{has_bit}

-- The empty set.
abbrev pub no_bytes : List ℕ
no_bytes = 0 ∷ 0 ∷ 0 ∷ 0 ∷ []

-- Byte x is in the set.
unfoldable pub has_byte : List ℕ → ℕ → Bool
has_byte s x = has_bit (get_or s (x / 64) 0) (x % 64)

-- The set with byte x in it.
unfoldable pub with_byte : List ℕ → ℕ → List ℕ
with_byte s x = set s (x / 64) (bit_or (get_or s (x / 64) 0) (2 ^ (x % 64)))

-- The set has the members of the list, and no others.
abbrev pub Holds : List ℕ → List ℕ → Type 0
Holds s m = (y : ℕ) → has_byte s y ≡ member y m

-- A search from `start` on passes over byte x: it is in the set or below `start`.
abbrev pub passes_over : (start : ℕ) → List ℕ → ℕ → Bool
passes_over start s x = has_byte s x || ltb x start

-- r is the lowest number below n at which the test fails, or n where it fails at none.
abbrev pub LowestFailing : (ℕ → Bool) → ℕ → ℕ → Type 0
LowestFailing t n r = (r ≤ n) × ((j : ℕ) → j < r → t j ≡ true) × (r < n → t r ≡ false)
