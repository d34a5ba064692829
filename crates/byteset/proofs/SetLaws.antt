-- A set of numbers in words: a number that was put in is there, and every other one is as before.
use mathlib.Core.Path.{◌≡◌, refl, sym, ap}
use mathlib.Core.Bool.{Bool, true, false, ◌||◌}
use mathlib.Core.List.{List}
use mathlib.Core.Logic.{◌≢◌}
use Prim.Native.Nat.{ℕ, ◌/◌, ◌%◌, ◌^◌, ◌<◌}
use native.Mathlib.Omega.{arith}
use borrow.Author.Tests.{eqb-true, eqb-false, eq-eqb, ne_eqb}
use lib.Bits.{bit_or}
use lib.Dec.{eqb}
use lib.ListN.{length, length-set, get_or, set, replicate}
use lib.Seq.{get_or-set_same, get_or-set_other}
use Rattle.lists.proofs.ListLaws.{zeros_at}
use Rattle.byteset.specs.Bits.{has_bit}
use Rattle.byteset.specs.Set.{no_bytes, has_byte, with_byte}
use Rattle.byteset.proofs.BitLaws.{bit_same, bit_other}

-- A set whose words are zero has nothing in it.
pub has_zeros : (n y : ℕ) → has_byte (replicate n 0) y ≡ false
unfolding has_byte
has_zeros n y = rw (zeros_at n (y / 64))

pub has_none : (y : ℕ) → has_byte no_bytes y ≡ false
has_none y = has_zeros 4 y

pub length_with : (s : List ℕ) (x : ℕ) → length (with_byte s x) ≡ length s
unfolding with_byte
length_with s x = length-set s (x / 64) _

pub has_with : (s : List ℕ) (x y : ℕ) → x / 64 < length s → has_byte (with_byte s x) y ≡ (eqb y x || has_byte s y)
unfolding has_byte with_byte
has_with s x y h = go (eqb (y / 64) (x / 64)) refl (eqb (y % 64) (x % 64)) refl
  where
    go : (a : Bool) → eqb (y / 64) (x / 64) ≡ a → (b : Bool) → eqb (y % 64) (x % 64) ≡ b
        → has_bit (get_or (set s (x / 64) (bit_or (get_or s (x / 64) 0) (2 ^ (x % 64)))) (y / 64) 0) (y % 64)
        ≡ (eqb y x || has_bit (get_or s (y / 64) 0) (y % 64))
    go false p b q =
        let n : y / 64 ≢ x / 64 = eqb-false _ _ p in
        let m : y ≢ x = λ (e : y ≡ x). n (ap (λ (k : ℕ). k / 64) e) in
        rw (get_or-set_other, ne_eqb y x m)
    go true p true q =
        let e1 : y / 64 ≡ x / 64 = eqb-true _ _ p in
        let e2 : y % 64 ≡ x % 64 = eqb-true _ _ q in
        let e : y ≡ x = omega (arith, e1, e2) in
        rw (e1, e2, get_or-set_same, eq-eqb y x e) (bit_same (get_or s (x / 64) 0) (x % 64))
    go true p false q =
        let e1 : y / 64 ≡ x / 64 = eqb-true _ _ p in
        let n : y % 64 ≢ x % 64 = eqb-false _ _ q in
        let m : y ≢ x = λ (e : y ≡ x). n (ap (λ (k : ℕ). k % 64) e) in
        rw (e1, get_or-set_same, ne_eqb y x m) (bit_other (get_or s (x / 64) 0) (x % 64) (y % 64) (λ (e : x % 64 ≡ y % 64). n (sym e)))
