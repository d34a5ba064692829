-- The lowest byte from a start on that is not in a set is the lowest clear bit of the first word that has one, where the bits
-- before the start count as set: the ones below it are the ones at the end of the word.
use mathlib.Core.Path.{◌≡◌, refl, sym, ap, ◌∙◌}
use mathlib.Core.Bool.{true, false}
use mathlib.Core.List.{List}
use mathlib.Core.Logic.{◌≢◌}
use Prim.Native.Nat.{ℕ, ◌+◌, ◌*◌, ◌-◌, ◌/◌, ◌%◌, ◌^◌, ◌<◌, ◌≤◌}
use native.Mathlib.Omega.{arith}
use borrow.Author.Tests.{ltb-true, ltb-false, lt-ltb}
use lib.Bits.{bit_or}
use lib.Count.{count_trailing_zeros}
use lib.Dec.{ltb}
use lib.ListN.{get_or}
use Rattle.std.specs.Int.{trailing_ones, w64}
use Rattle.std.proofs.lemmas.Nat.Bits.{bit_at_ones, bit_at_ones_above, bit_at-trailing_ones}
use Rattle.lists.proofs.CaseLaws.{by_test, by_equal}
use Rattle.lists.proofs.TestLaws.{ltb_same}
use Rattle.byteset.specs.Bits.{has_bit}
use Rattle.byteset.specs.Set.{has_byte, passes_over, LowestFailing}
use Rattle.byteset.proofs.BitLaws.{bit_is, bit_or_lem}

-- ------------------------------------------------------------------ the bits before a start
-- The word 2 ^ k - 1 has the bits below k.
bits_below : (k j : ℕ) → has_bit (2 ^ k - 1) j ≡ ltb j k
bits_below k j = bit_is (2 ^ k - 1) j ∙ by_test (ltb j k)
    (λ e. rw (e, bit_at_ones k j (ltb-true _ _ e))) (λ e. rw (e, bit_at_ones_above k j (ltb-false _ _ e)))

-- In the word of `start` they are the bytes before it.
pub start_bits : (start j : ℕ) → has_bit (2 ^ (start % 64) - 1) j ≡ ltb (64 * (start / 64) + j) start
start_bits start j =
    bits_below (start % 64) j ∙ ltb_same j (start % 64) (64 * (start / 64) + j) start (λ h. omega arith) (λ h. omega arith)

-- ------------------------------------------------------------------ the lowest clear bit
-- The ones at the end of a word: the bits below them are set, and the next one is clear, unless all are ones.
all_ones : trailing_ones w64 18446744073709551615 ≡ 64
unfolding count_trailing_zeros
all_ones = refl

pub ones_below : (w : ℕ) → w < 2 ^ 64 → LowestFailing (has_bit w) 64 (trailing_ones w64 w)
ones_below w h = by_equal (w + 1) (2 ^ 64) full free
  where
    full : w + 1 ≡ 2 ^ 64 → LowestFailing (has_bit w) 64 (trailing_ones w64 w)
    full e =
        let m : w ≡ 18446744073709551615 = omega (arith, e) in
        let n : trailing_ones w64 w ≡ 64 = ap (trailing_ones w64) m ∙ all_ones in
        rw n (omega arith, λ j l. ap (λ (x : ℕ). has_bit x j) m ∙ bits_below 64 j ∙ lt-ltb j 64 l, λ (l : 64 < 64). absurd (omega arith))

    free : w + 1 ≢ 2 ^ 64 → LowestFailing (has_bit w) 64 (trailing_ones w64 w)
    free n =
        let f = bit_at-trailing_ones w64 w (omega (arith, n, h)) in
        (omega (arith, f.0), λ j l. bit_is w j ∙ rw (f.2 j l), λ l. bit_is w (trailing_ones w64 w) ∙ rw f.1)

-- All bytes below the word with index i are passed over. Of this word b has the bits below the start, and with them the n lowest
-- are set.
module _ (start : ℕ) (s : List ℕ) (i b n : ℕ) (below : (y : ℕ) → y < 64 * i → passes_over start s y ≡ true)
    (before : (j : ℕ) → j < 64 → has_bit b j ≡ ltb (64 * i + j) start) (ones : LowestFailing (has_bit (bit_or (get_or s i 0) b)) 64 n) where
  word_bit : (j : ℕ) → j < 64 → has_bit (bit_or (get_or s i 0) b) j ≡ passes_over start s (64 * i + j)
  unfolding has_byte
  word_bit j h =
      let word : (64 * i + j) / 64 ≡ i = omega arith in
      let bit : (64 * i + j) % 64 ≡ j = omega arith in
      bit_or_lem (get_or s i 0) b j ∙ rw (before j h, word, bit)

  pub word_taken : (y : ℕ) → y < 64 * i + n → passes_over start s y ≡ true
  word_taken y h = by_test (ltb y (64 * i)) (λ e. below y (ltb-true _ _ e)) (λ e.
      let le : 64 * i ≤ y = ltb-false _ _ e in
      let few : n ≤ 64 = ones.0 in
      let at : y ≡ 64 * i + (y - 64 * i) = omega arith in
      ap (passes_over start s) at ∙ sym (word_bit (y - 64 * i) (omega arith)) ∙ ones.1 (y - 64 * i) (omega arith))

  pub word_free : n < 64 → passes_over start s (64 * i + n) ≡ false
  word_free h = sym (word_bit n h) ∙ ones.2 h
