-- Digits written one byte after the other: what is left to write decides. And the digits at the front are what the definition
-- says.
use mathlib.Core.Path.{◌≡◌, refl}
use mathlib.Core.List.{[], ◌∷◌}
use Prim.Native.Nat.{ℕ, suc, ◌+◌, ◌*◌, ◌/◌, ◌%◌, ◌≤◌, ◌<◌}
use native.Mathlib.Nat.{zero-add}
use native.Mathlib.Omega.{arith}
use borrow.Author.Tests.{le-ltb, lt-ltb}
use lib.ListN.{length, drop, get_or, set, drop_of_length-le, take, length-take}
use lib.Seq.{sets, sets-eq, length-sets}
use Rattle.sector.specs.Contents.{Bytes}
use Rattle.lists.proofs.TestLaws.{drop_next}
use Rattle.text.specs.Writes.{ToPrint}
use Rattle.script.specs.Texts.{hex_digit, hex_text, in_hex}

pub hex_length : (l : Bytes) → length (hex_text l) ≡ 2 * length l
unfolding hex_text
hex_length [] = refl
hex_length (b ∷ l) = omega (arith, hex_length l)

module _ (l o : Bytes) (i : ℕ) where
  pub hex_more : i < length l
      → sets (set (set o (2 * i) (hex_digit (get_or l i 0 / 16))) (2 * i + 1) (hex_digit (get_or l i 0 % 16))) (2 * (i + 1)) (hex_text (drop (i + 1) l))
      ≡ sets o (2 * i) (hex_text (drop i l))
  unfolding hex_text
  hex_more h =
      let a : 2 * i + 1 ≡ suc (2 * i) = omega arith in
      let b : 2 * (i + 1) ≡ suc (suc (2 * i)) = omega arith in
      rw (drop_next l i 0 h, a, b)

  pub hex_done : length l ≤ i → sets o (2 * i) (hex_text (drop i l)) ≡ o
  unfolding hex_text
  hex_done h = rw (drop_of_length-le l h)

pub no_hex : (l o : Bytes) → length o / 2 < length l → ◌≡◌ {A = ToPrint} (record { count = 0; out = o }) (in_hex l o)
unfolding in_hex
no_hex l o h = rw (lt-ltb _ _ h)

pub in_hex_lem : (l o p : Bytes) → length l ≤ length o / 2 → p ≡ sets o 0 (hex_text l)
    → ◌≡◌ {A = ToPrint} (record { count = 2 * length l; out = p }) (in_hex l o)
unfolding in_hex
in_hex_lem l o p h e =
    let fits : 0 + length (hex_text l) ≤ length o = omega (arith, hex_length l) in
    rw (le-ltb _ _ h, e, sets-eq (hex_text l) o 0 fits, zero-add (length (hex_text l)), ← hex_length l)

pub hex_fits : (l o p : Bytes) → length l ≤ length o / 2 → p ≡ sets o 0 (hex_text l)
    → (2 * length l ≤ length p) × (2 * length l ≡ length (take (2 * length l) p))
hex_fits l o p h e =
    let n : length p ≡ length o = rw (e) (length-sets o 0 (hex_text l)) in
    (omega arith, omega (arith, length-take (2 * length l) p))
