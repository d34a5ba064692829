-- How many numbers of a range pass a test. Those that pass and those that don't are all of them, by induction on the list; and of
-- a list without doubles, each number below R, as many numbers below R are in it as it is long: one element more is one number
-- more that passes.
use mathlib.Core.Path.{◌≡◌, refl, ap}
use mathlib.Core.Bool.{Bool, true, false, not, ◌||◌}
use mathlib.Core.List.{List, [], ◌∷◌}
use Prim.Native.Nat.{ℕ, zero, suc, ◌+◌, ◌-◌, ◌≤◌, ◌<◌}
use native.Mathlib.Nat.{not-suc-le-zero}
use native.Mathlib.Omega.{arith}
use borrow.Author.Tests.{eq-eqb, ne_eqb, ltb-true, not-true}
use lib.Dec.{eqb, ltb}
use lib.ListN.{length}
use Rattle.lists.specs.Lists.{when◌then◌else◌, every, any, filter, distinct, member, from}
use Rattle.lists.proofs.ListLaws.{and_left, and_right}
use Rattle.lists.proofs.CaseLaws.{by_equal}
use Rattle.lists.proofs.SearchLaws.{from_length, filter_none}

-- The elements that pass are so many.
abbrev count : (ℕ → Bool) → List ℕ → ℕ
count t l = length (filter t l)

-- One element more, which passes as another one does.
one_more : (x : ℕ) (l m : List ℕ) (n : ℕ) → length l ≡ n + length m → (b : Bool)
    → length (when b then x ∷ l else l) ≡ n + length (when b then x ∷ m else m)
one_more x l m n e true = omega (arith, e)
one_more x l m n e false = e

-- Those that pass and those that don't together are all.
pub count_both : (t : ℕ → Bool) (l : List ℕ) → count t l + count (λ r. not (t r)) l ≡ length l
count_both t [] = refl
count_both t (x ∷ l) = go (t x) (count_both t l)
  where
    go : (b : Bool) → count t l + count (λ r. not (t r)) l ≡ length l
        → length (when b then x ∷ filter t l else filter t l) + length (when not b then x ∷ filter (λ r. not (t r)) l else filter (λ r. not (t r)) l) ≡ suc (length l)
    go true h = omega (arith, h)
    go false h = omega (arith, h)

-- Tests with one answer at each of these numbers.
count_same : (t q : ℕ → Bool) (n a : ℕ) → ((i : ℕ) → a ≤ i → i < a + n → t i ≡ q i) → count t (from a n) ≡ 0 + count q (from a n)
count_same t q zero a h = refl
count_same t q (suc n) a h = rw (h a (omega arith) (omega arith))
    (one_more a _ _ 0 (count_same t q n (suc a) (λ i lo hi. h i (omega arith) (omega arith))) (q a))

-- One number more passes.
count_one : (t : ℕ → Bool) (x n a : ℕ) → a ≤ x → x < a + n → t x ≡ false → count (λ r. eqb r x || t r) (from a n) ≡ 1 + count t (from a n)
count_one t x zero a lo hi e = absurd (not-suc-le-zero {n = 0} (omega arith))
count_one t x (suc n) a lo hi e = by_equal a x
    (λ q. rw (q, eq-eqb x x refl, e) (omega (arith, count_same (λ r. eqb r x || t r) t n (suc x) (λ i l h. rw (ne_eqb i x (omega arith))))))
    (λ q. rw (ne_eqb a x q) (one_more a _ _ 1 (count_one t x n (suc a) (omega arith) (omega arith) e) (t a)))

-- Of a list of different numbers below R, as many are found below R as it is long.
pub count_members : (R : ℕ) (m : List ℕ) → every (λ r. ltb r R) m ≡ true → distinct eqb m ≡ true
    → count (λ r. member r m) (from 0 R) ≡ length m
count_members R [] low new = ap length (filter_none (λ r. member r []) R 0 (λ i lo hi. refl))
count_members R (x ∷ m) low new =
    let rest = count_members R m (and_right (ltb x R) _ low) (and_right (not (any (eqb x) m)) _ new) in
    let more = count_one (λ r. member r m) x R 0 (omega arith) (omega (arith, ltb-true x R (and_left (ltb x R) _ low)))
    (not-true _ (and_left (not (any (eqb x) m)) _ new)) in
    omega (arith, rest, more)

-- The others are the rest.
pub count_others : (R : ℕ) (m : List ℕ) → every (λ r. ltb r R) m ≡ true → distinct eqb m ≡ true
    → R - length m ≡ count (λ r. not (member r m)) (from 0 R)
count_others R m low new = omega (arith, count_both (λ r. member r m) (from 0 R), count_members R m low new, from_length R 0)
