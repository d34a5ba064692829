-- Lists of tests, and loops that test.
-- One test that fails makes the list of tests fail; where all before the last hold, the list is the last one. A loop keeps that
-- the result is decided by what is left to test, `drop i xs` or the numbers from i on: a turn takes its first element off.
use mathlib.Core.Path.{◌≡◌, refl, sym, ap, ◌∙◌}
use mathlib.Core.Bool.{Bool, true, false, not, ◌&&◌, ◌||◌, and-true, and-false, true≢false, or-false}
use mathlib.Core.List.{List, [], ◌∷◌}
use Prim.Native.Nat.{ℕ, zero, suc, ◌+◌, ◌-◌, ◌<◌, ◌≤◌, ◌*◌}
use native.Mathlib.Numerals.{add-one}
use native.Mathlib.Omega.{arith}
use borrow.Author.Tests.{eqb-true, eq-eqb, ltb-true, ltb-false, lt-ltb, ne_eqb}
use lib.Bits.{bit_or, or_add_and, and_le_l, and_le_r}
use lib.Dec.{eqb, ltb}
use lib.ListN.{length, get_or, drop, drop_of_length-le}
use lib.Seq.{drop-cons}
use Rattle.lists.specs.Lists.{all, every, any, from}
use Rattle.lists.proofs.ListLaws.{and_left, and_right, and_both, all_nil, all_cons, every_all, every_from}
use Rattle.lists.proofs.CaseLaws.{by_test, or_turn}

-- Tests that hold together are equal.
pub iff : (a b : Bool) → (a ≡ true → b ≡ true) → (b ≡ true → a ≡ true) → a ≡ b
iff true b f g = sym (f refl)
iff false true f g = g refl
iff false false f g = refl

pub ltb_same : (a b c d : ℕ) → (a < b → c < d) → (c < d → a < b) → ltb a b ≡ ltb c d
ltb_same a b c d to back = iff _ _ (λ e. lt-ltb c d (to (ltb-true a b e))) (λ e. lt-ltb a b (back (ltb-true c d e)))

pub not_or : (a b : Bool) → not (a || b) ≡ (not a && not b)
not_or true b = refl
not_or false b = refl

pub not_and : (a b : Bool) → not (a && b) ≡ (not a || not b)
not_and true b = refl
not_and false b = refl

pub and_swap : (a b c d : Bool) → ((a && b) && (c && d)) ≡ ((a && c) && (b && d))
and_swap true true c d = refl
and_swap true false true d = refl
and_swap true false false d = refl
and_swap false b c d = refl

-- An or is zero only where both numbers are, since or and and together are the sum.
pub or_zero : (a b : ℕ) → eqb (bit_or a b) 0 ≡ (eqb a 0 && eqb b 0)
or_zero a b = iff _ _ to back
  where
    to : eqb (bit_or a b) 0 ≡ true → (eqb a 0 && eqb b 0) ≡ true
    to e =
        let z : bit_or a b ≡ 0 = eqb-true _ _ e in
        and_both _ _
        (eq-eqb a 0 (omega (arith, or_add_and a b, and_le_l a b, and_le_r a b)))
        (eq-eqb b 0 (omega (arith, or_add_and a b, and_le_l a b, and_le_r a b)))

    back : (eqb a 0 && eqb b 0) ≡ true → eqb (bit_or a b) 0 ≡ true
    back e =
        let za : a ≡ 0 = eqb-true a 0 (and_left (eqb a 0) _ e) in
        let zb : b ≡ 0 = eqb-true b 0 (and_right (eqb a 0) _ e) in
        rw (za, zb)

-- A sum is zero only where both numbers are; the second may be multiplied by n.
pub sum_zero : (a b n : ℕ) → 0 < n → eqb (a + n * b) 0 ≡ (eqb a 0 && eqb b 0)
sum_zero zero zero n h = let z : 0 + n * 0 ≡ 0 = omega arith in rw z
sum_zero zero (suc b) n h =
    let z : n * suc b ≡ n + n * b = omega arith in
    ne_eqb (0 + n * suc b) 0 (λ q. omega (arith, z, q, h)) ∙ sym (ne_eqb (suc b) 0 (λ q. omega (arith, q)))
sum_zero (suc a) b n h = ne_eqb (suc a + n * b) 0 (λ q. omega (arith, q)) ∙ sym (rw (ne_eqb (suc a) 0 (λ q. omega (arith, q))) refl)

-- ------------------------------------------------------------------ a list of tests
-- Test i fails.
pub all_no : (bs : List Bool) (i : ℕ) → get_or bs i true ≡ false → all bs ≡ false
unfolding all
all_no [] i e = absurd (true≢false e)
all_no (b ∷ bs) zero e = rw e
all_no (b ∷ bs) (suc i) e = rw (all_no bs i e) (and-false b)

-- Each of the tests holds: `p also q also none`.
infixr 1 ◌also◌
pub data Each : List Bool → Type 0 where
  none : Each []
  ◌also◌ : {b : Bool} {bs : List Bool} → b ≡ true → Each bs → Each (b ∷ bs)

pub all_of : {bs : List Bool} → Each bs → all bs ≡ true
all_of none = all_nil
all_of (◌also◌ {bs = bs} p h) = all_cons bs p (all_of h)

-- Each test before the last one holds: `p then q then final`.
infixr 1 ◌then◌
pub data Before : Bool → List Bool → Type 0 where
  final : {b : Bool} → Before b []
  ◌then◌ : {b c : Bool} {bs : List Bool} → b ≡ true → Before c bs → Before b (c ∷ bs)

abbrev pub last : Bool → List Bool → Bool
last b [] = b
last b (c ∷ bs) = last c bs

pub all_last : {b : Bool} {bs : List Bool} → Before b bs → all (b ∷ bs) ≡ last b bs
unfolding all
all_last {b} final = and-true b
all_last (p then h) = rw p (all_last h)

-- ------------------------------------------------------------------ a loop over a list, by index
-- The element that a turn takes off.
pub drop_next : {A : Type 0} (xs : List A) (i : ℕ) (z : A) → i < length xs → drop i xs ≡ get_or xs i z ∷ drop (i + 1) xs
drop_next xs i z h = rw (add-one i) (drop-cons xs i z h)

-- The same where the length and the element are known by other names, and the end.
pub next_of : {A : Type 0} (xs : List A) (n i : ℕ) (z x : A) → length xs ≡ n → i < n → get_or xs i z ≡ x → drop i xs ≡ x ∷ drop (i + 1) xs
next_of {A} xs n i z x len h e = drop_next xs i z (rw len h) ∙ ap (λ (y : A). y ∷ drop (i + 1) xs) e

pub none_of : {A : Type 0} (xs : List A) (n i : ℕ) → length xs ≡ n → n ≤ i → drop i xs ≡ []
none_of xs n i len h = drop_of_length-le xs {i = i} (rw len h)

module _ {A : Type 0} (xs : List A) (i : ℕ) (x : A) (next : drop i xs ≡ x ∷ drop (i + 1) xs) (w : Bool) where
  pub every_more : (t : A → Bool) → t x ≡ true → w ≡ every t (drop i xs) → w ≡ every t (drop (i + 1) xs)
  every_more t e q = q ∙ rw (next, e)

  pub every_fails : (t : A → Bool) → t x ≡ false → w ≡ every t (drop i xs) → w ≡ false
  every_fails t e q = q ∙ rw (next, e)

  -- A set is filled: a turn takes what the test says of x, and b is what is taken then.
  pub taken_more : (t : A → Bool) (a b : Bool) → (a || any t (drop i xs)) ≡ w → b ≡ (t x || a) → (b || any t (drop (i + 1) xs)) ≡ w
  taken_more t a b q e = rw e (or_turn (t x) a (any t (drop (i + 1) xs))) ∙ sym (ap (λ (l : List A). a || any t l) next) ∙ q

pub taken_done : {A : Type 0} (xs : List A) (i : ℕ) → drop i xs ≡ [] → (t : A → Bool) (w a : Bool) → (a || any t (drop i xs)) ≡ w → a ≡ w
taken_done {A} xs i end t w a q = sym (or-false a) ∙ sym (ap (λ (l : List A). a || any t l) end) ∙ q

-- ------------------------------------------------------------------ a loop over the numbers from i on, below n
module _ (t : ℕ → Bool) (w : Bool) (n i : ℕ) (q : w ≡ every t (from i (n - i))) where
  pub numbers_more : i < n → t i ≡ true → w ≡ every t (from (i + 1) (n - (i + 1)))
  numbers_more h e = let m : n - i ≡ suc (n - (i + 1)) = omega arith in q ∙ rw (m, e, add-one i)

  pub numbers_done : n ≤ i → w ≡ true
  numbers_done h = let m : n - i ≡ 0 = omega arith in q ∙ rw m

-- Where it begins: n numbers, below m.
pub numbers_none : (t : ℕ → Bool) (i n m : ℕ) → m ≡ i + n → every t (from i n) ≡ every t (from i (m - i))
numbers_none t i n m e = let k : m - i ≡ n = omega arith in rw k

-- Where every number from a + m on passes, the m before them decide.
pub every_front : (t : ℕ → Bool) (n m a : ℕ) → m ≤ n → ((i : ℕ) → a + m ≤ i → i < a + n → t i ≡ true) → every t (from a n) ≡ every t (from a m)
every_front t n m a h rest = iff _ _ (λ e. every_all t m a (λ i lo hi. every_from t n a e i lo (omega (arith, hi, h)))) (λ e. every_all t n a (whole e))
  where
    whole : every t (from a m) ≡ true → (i : ℕ) → a ≤ i → i < a + n → t i ≡ true
    whole e i lo hi =
        by_test (ltb i (a + m)) (λ q. every_from t m a e i lo (ltb-true _ _ q)) (λ q. rest i (ltb-false _ _ q) hi)

-- Two tests of each number, together or one after the other.
pub every_both : (t a b : ℕ → Bool) (n i : ℕ) → ((k : ℕ) → i ≤ k → k < i + n → t k ≡ (a k && b k))
    → every t (from i n) ≡ (every a (from i n) && every b (from i n))
every_both t a b zero i h = refl
every_both t a b (suc n) i h =
    rw (h i (omega arith) (omega arith), every_both t a b n (suc i) (λ k lo hi. h k (omega arith) (omega arith)))
    (and_swap (a i) (b i) (every a (from (suc i) n)) (every b (from (suc i) n)))
