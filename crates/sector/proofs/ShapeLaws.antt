-- The files of a list of pairs, one after the other: their number, and those from index i on. Each by the pairs of the list.
use mathlib.Core.Path.{◌≡◌, refl}
use mathlib.Core.List.{[], ◌∷◌}
use Prim.Native.Nat.{ℕ, zero, suc, ◌+◌, ◌*◌, ◌/◌, ◌<◌}
use native.Mathlib.Nat.{not-suc-le-zero}
use native.Mathlib.Omega.{arith}
use lib.ListN.{length, drop}
use Rattle.sector.specs.Contents.{Bytes}
use Rattle.sector.specs.Shapes.{files_of, pair_at}

pub files_count : (l : Bytes) → length (files_of l) ≡ length l / 2
unfolding files_of
files_count [] = refl
files_count (p ∷ []) = refl
files_count (p ∷ r ∷ l) = omega (arith, files_count l)

pub files_from_lem : (l : Bytes) (i : ℕ) → i < length l / 2 → drop i (files_of l) ≡ pair_at l i ∷ drop (i + 1) (files_of l)
unfolding files_of
files_from_lem [] i h = absurd (not-suc-le-zero {n = 0} (omega arith))
files_from_lem (p ∷ []) i h = absurd (not-suc-le-zero {n = 0} (omega arith))
files_from_lem (p ∷ r ∷ l) zero h = refl
files_from_lem (p ∷ r ∷ l) (suc i) h =
    let e : 2 * suc i ≡ suc (suc (2 * i)) = omega arith in
    let e1 : suc (suc (2 * i)) + 1 ≡ suc (suc (2 * i + 1)) = omega arith in
    let e2 : suc i + 1 ≡ suc (i + 1) = omega arith in
    rw (e, e1, e2) (files_from_lem l i (omega arith))
