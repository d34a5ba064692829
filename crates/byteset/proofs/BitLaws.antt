-- The bits of a word: of an or, of a word with one bit, and of a word's half. A bit that was set is set, one that was cleared is
-- clear, and every other one is as before.
-- Bit k of a word w is the library's `bit_at`, which isn't 0. An or of two words is an or of their bits, and 2 ^ i has bit i alone.
-- Clearing a bit goes by halves.
use mathlib.Core.Path.{◌≡◌, refl, sym, ap, ◌∙◌}
use mathlib.Core.Bool.{true, false, not, ◌||◌, or-false, true≢false}
use mathlib.Core.Logic.{◌≢◌}
use Prim.Native.Nat.{ℕ, zero, suc, ◌+◌, ◌*◌, ◌-◌, ◌/◌, ◌%◌, ◌^◌, ◌<◌, ◌≤◌}
use native.Mathlib.Nat.{pow-suc}
use native.Mathlib.Omega.{arith}
use borrow.Author.Tests.{ne_eqb, ltb-true, ltb-false}
use lib.Bits.{bit_or, or_shr, or_mod}
use lib.Dec.{eqb, ltb}
use lib.Pow.{pow_pos}
use Rattle.std.specs.Int.{bit_at}
use Rattle.std.proofs.lemmas.Nat.Bits.{and_pow, bit_at_lowest, bit_at-suc, bit_at-pow_same, bit_at-pow_other, bit_at_above}
use Rattle.lists.proofs.CaseLaws.{by_test, by_equal}
use Rattle.lists.proofs.SearchLaws.{or_true}
use Rattle.lists.proofs.TestLaws.{not_and, or_zero}
use Rattle.byteset.specs.Bits.{has_bit, with_bit, without_bit}

-- ------------------------------------------------------------------ each bit by itself
product_zero : (b p : ℕ) → 0 < p → eqb (b * p) 0 ≡ eqb b 0
product_zero zero p h = let z : 0 * p ≡ 0 = omega arith in rw z
product_zero (suc b) p h =
    let z : suc b * p ≡ p + b * p = omega arith in
    ne_eqb _ _ (λ (q : suc b * p ≡ 0). omega (arith, z, q, h)) ∙ sym (ne_eqb (suc b) 0 (λ (q : suc b ≡ 0). omega (arith, q)))

pub bit_is : (w k : ℕ) → has_bit w k ≡ not (eqb (bit_at w k) 0)
bit_is w k = ap (λ (x : ℕ). not (eqb x 0)) (and_pow w k) ∙ ap not (product_zero (bit_at w k) (2 ^ k) (pow_pos k))

pub bit_or_lem : (w v k : ℕ) → has_bit (bit_or w v) k ≡ (has_bit w k || has_bit v k)
bit_or_lem w v k =
    let q : bit_or w v / 2 ^ k % 2 ≡ bit_or (w / 2 ^ k % 2) (v / 2 ^ k % 2) = ap (λ (x : ℕ). x % 2) (or_shr w v k) ∙ or_mod (w / 2 ^ k) (v / 2 ^ k) 1 in
    rw (bit_is (bit_or w v) k, q, or_zero (w / 2 ^ k % 2) (v / 2 ^ k % 2), bit_is w k, bit_is v k) (not_and (eqb (w / 2 ^ k % 2) 0) (eqb (v / 2 ^ k % 2) 0))

pub bit_same : (w k : ℕ) → has_bit (bit_or w (2 ^ k)) k ≡ true
bit_same w k = bit_or_lem w (2 ^ k) k ∙ or_true (has_bit w k) _ (bit_is (2 ^ k) k ∙ rw (bit_at-pow_same k))

pub bit_other : (w i k : ℕ) → i ≢ k → has_bit (bit_or w (2 ^ i)) k ≡ has_bit w k
bit_other w i k n = bit_or_lem w (2 ^ i) k ∙ rw (bit_is (2 ^ i) k, bit_at-pow_other i k (λ e. n (sym e))) (or-false (has_bit w k))

-- A word of i bits has none from i on.
pub none_above : (w i j : ℕ) → w < 2 ^ i → i ≤ j → has_bit w j ≡ false
none_above w i j small h = bit_is w j ∙ rw (bit_at_above w i j small h)

-- A word with bit i is at least 2 ^ i.
pub has_le : (w i : ℕ) → has_bit w i ≡ true → 2 ^ i ≤ w
has_le w i e = by_test (ltb w (2 ^ i))
    (λ l. absurd (true≢false (sym e ∙ bit_is w i ∙ rw (bit_at_above w i i (ltb-true _ _ l) (omega arith))))) (λ l. ltb-false _ _ l)

-- ------------------------------------------------------------------ by halves
-- The lowest bit, and those above it in the word's half.
pub bit_low : (w : ℕ) → has_bit w 0 ≡ not (eqb (w % 2) 0)
bit_low w = bit_is w 0 ∙ rw (bit_at_lowest w)

pub bit_half : (w j : ℕ) → has_bit w (suc j) ≡ has_bit (w / 2) j
bit_half w j = bit_is w (suc j) ∙ rw (bit_at-suc w j) (sym (bit_is (w / 2) j))

-- The lowest bit is set where the word is odd.
odd_is : (w : ℕ) → has_bit w 0 ≡ true → w % 2 ≡ 1
odd_is w e = by_equal (w % 2) 0 (λ z. absurd (true≢false (sym e ∙ bit_low w ∙ rw z))) (λ n. omega (arith, n))

-- A bit that is set is taken out.
taken_same : (w i : ℕ) → has_bit w i ≡ true → has_bit (w - 2 ^ i) i ≡ false
taken_same w zero e =
    let o : w % 2 ≡ 1 = odd_is w e in
    let z : (w - 2 ^ 0) % 2 ≡ 0 = omega (arith, o) in
    bit_low (w - 2 ^ 0) ∙ rw z
taken_same w (suc i) e =
    let p : 2 ^ suc i ≡ 2 ^ i * 2 = pow-suc 2 i in
    let half : (w - 2 ^ suc i) / 2 ≡ w / 2 - 2 ^ i = omega (arith, p) in
    bit_half (w - 2 ^ suc i) i ∙ rw half (taken_same (w / 2) i (sym (bit_half w i) ∙ e))

taken_other : (w i j : ℕ) → has_bit w i ≡ true → j ≢ i → has_bit (w - 2 ^ i) j ≡ has_bit w j
taken_other w zero zero e n = absurd (n refl)
taken_other w zero (suc j) e n =
    let o : w % 2 ≡ 1 = odd_is w e in
    let half : (w - 2 ^ 0) / 2 ≡ w / 2 = omega (arith, o) in
    bit_half (w - 2 ^ 0) j ∙ rw half (sym (bit_half w j))
taken_other w (suc i) zero e n =
    let p : 2 ^ suc i ≡ 2 ^ i * 2 = pow-suc 2 i in
    let le : 2 ^ suc i ≤ w = has_le w (suc i) e in
    let low : (w - 2 ^ suc i) % 2 ≡ w % 2 = omega (arith, p, le) in
    bit_low (w - 2 ^ suc i) ∙ rw low (sym (bit_low w))
taken_other w (suc i) (suc j) e n =
    let p : 2 ^ suc i ≡ 2 ^ i * 2 = pow-suc 2 i in
    let half : (w - 2 ^ suc i) / 2 ≡ w / 2 - 2 ^ i = omega (arith, p) in
    bit_half (w - 2 ^ suc i) j
    ∙ rw half (taken_other (w / 2) i j (sym (bit_half w i) ∙ e) (λ z. n (ap suc z)) ∙ sym (bit_half w j))

-- ------------------------------------------------------------------ a bit set, a bit cleared
module _ (w i : ℕ) where
  pub with_same : has_bit (with_bit w i) i ≡ true
  unfolding with_bit
  with_same = bit_same w i

  pub with_other : (j : ℕ) → j ≢ i → has_bit (with_bit w i) j ≡ has_bit w j
  unfolding with_bit
  with_other j n = bit_other w i j (λ e. n (sym e))

  pub without_same : has_bit (without_bit w i) i ≡ false
  unfolding without_bit
  without_same = by_test (has_bit w i) (λ e. rw e (taken_same w i e)) (λ e. rw e e)

  pub without_other : (j : ℕ) → j ≢ i → has_bit (without_bit w i) j ≡ has_bit w j
  unfolding without_bit
  without_other j n = by_test (has_bit w i) (λ e. rw e (taken_other w i j e n)) (λ e. rw e)
