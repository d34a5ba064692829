-- What the walks `a..b` and `a..=b` yield, for `all` and the like over them: the numbers of `from`. Of `a..=b` as many as there are
-- from a to b, one less after each.
use mathlib.Core.Path.{◌≡◌, refl, sym, ap, subst}
use mathlib.Core.Bool.{Bool, true, false}
use mathlib.Core.List.{List, [], ◌∷◌}
use Prim.Native.Nat.{ℕ, zero, suc, ◌+◌, ◌-◌}
use native.Mathlib.Numerals.{add-one}
use native.Mathlib.Omega.{arith}
use lib.ListN.{length}
use Rattle.std.specs.declared.ops.Range.{Range}
use Rattle.std.specs.declared.ops.RangeInclusive.{RangeInclusive}
use Rattle.std.specs.List.{range_with_len}
use Rattle.std.specs.Prelude.{Some}
use Rattle.std.specs.Range.{range_inclusive_len}
use Rattle.std.proofs.iter.Yields.{nat_range_steps}
use Rattle.std.proofs.iter.runs.Sources.{nat_range_inclusive_steps}
use Rattle.std.proofs.lemmas.Iterator.{YieldsList, YieldsList-from_range}
use Rattle.std.proofs.lemmas.Iterator.Consumers.{YieldsList-from_shown}
use Rattle.lists.specs.Lists.{from}

as_from : (n a : ℕ) → range_with_len a n ≡ from a n
as_from zero a = refl
as_from (suc n) a = rw (← add-one a) (ap (λ (l : List ℕ). a ∷ l) (as_from n (a + 1)))

pub yields_below : {s : Range ℕ} (a n b : ℕ) → s ≡ record { start = a; end = b } → b ≡ a + n → YieldsList nat_range_steps (λ x. x) s (from a n)
yields_below {s} a n b e q = subst (YieldsList nat_range_steps (λ x. x) s) (as_from n a) (YieldsList-from_range a b n e (omega (arith, q)))

abbrev count_left : RangeInclusive ℕ → ℕ
count_left s = range_inclusive_len (λ x y. y - x) s.start s.end s.exhausted

abbrev numbers_left : RangeInclusive ℕ → List ℕ
numbers_left s = from s.start (count_left s)

one : (a n : ℕ) (l : List ℕ) → n ≡ 1 → l ≡ [] → from a n ≡ a ∷ l
one a n l e f = rw (e, f)

one_more : (a n b m : ℕ) → n ≡ m + 1 → b ≡ a + 1 → from a n ≡ a ∷ from b m
one_more a n b m e f = rw (e, f, add-one m, add-one a)

one_given : (s : RangeInclusive ℕ) (x : ℕ) (t : RangeInclusive ℕ) → nat_range_inclusive_steps s (Some x) t → numbers_left s ≡ x ∷ numbers_left t
one_given s x t p = rw p.1.0 (go t.exhausted refl)
  where
    go : (b : Bool) → t.exhausted ≡ b → numbers_left s ≡ s.start ∷ numbers_left t
    go true e = one s.start (count_left s) (numbers_left t) (omega (arith, p.1.1, ap (range_inclusive_len (λ x y. y - x) t.start t.end) e)) (rw e)
    go false e = one_more s.start (count_left s) t.start (count_left t) (sym p.1.1) (p.1.2 e)

pub yields_inclusive : {s : RangeInclusive ℕ} (a n : ℕ) → s.start ≡ a → s.exhausted ≡ false → s.end + 1 ≡ a + n → YieldsList nat_range_inclusive_steps (λ x. x) s (from a n)
yields_inclusive {s} a n first fresh last =
    let count : count_left s ≡ n = rw fresh (omega arith) in
    subst (YieldsList nat_range_inclusive_steps (λ x. x) s) (rw (count, first))
    (YieldsList-from_shown nat_range_inclusive_steps (λ x. x) numbers_left (λ s t p. ap (λ n. length (from s.start n)) p.1.0) one_given s)
