-- What a test that holds says of its parts, and what makes it hold: &&, ||, and the tests over lists; and parts of lists. Each by the clauses of
-- the test; a list's elements are taken one after the other, and `go` has the two values of the first one's test.
use mathlib.Core.Path.{◌≡◌, refl, sym}
use mathlib.Core.Bool.{Bool, true, false, ◌&&◌, ◌||◌, and_assoc, true≢false, false≢true}
use mathlib.Core.List.{List, [], ◌∷◌, ◌++◌, map}
use mathlib.Core.Option.{some}
use mathlib.Core.Logic.{◌≢◌}
use Prim.Native.Nat.{ℕ, zero, suc, ◌+◌, ◌≤◌, ◌<◌}
use native.Mathlib.Nat.{not-suc-le-zero, le_of_suc-le-suc}
use native.Mathlib.Omega.{arith}
use borrow.Author.Tests.{leb-true, le-leb, eqb-true, eqb-false, eq-eqb}
use lib.Dec.{eqb, leb}
use lib.ListN.{length, get_or, set, take, drop, replicate, length-drop}
use lib.Seq.{sets, take-append-le, drop-append-le, drop-append-add}
use Rattle.lists.specs.Lists.{when◌then◌else◌, between, all, every, filter, find, member, same, from}

-- ------------------------------------------------------------------ two tests
pub and_left : (a b : Bool) → (a && b) ≡ true → a ≡ true
and_left true b e = refl
and_left false b e = e

pub and_right : (a b : Bool) → (a && b) ≡ true → b ≡ true
and_right true b e = e
and_right false b e = absurd (false≢true e)

pub and_both : (a b : Bool) → a ≡ true → b ≡ true → (a && b) ≡ true
and_both a b p q = rw (p, q)

pub or_right : (a b : Bool) → (a || b) ≡ true → a ≡ false → b ≡ true
or_right a b e p = rw p at e

pub or_none : (a b : Bool) → (a || b) ≡ false → (a ≡ false) × (b ≡ false)
or_none true b e = absurd (true≢false e)
or_none false b e = (refl, e)

-- From a test with both values anything follows.
pub no_both : {X : Type 0} (b : Bool) → b ≡ true → b ≡ false → X
no_both b p q = absurd (true≢false (rw p at q))

pub between_true : (a x b : ℕ) → between a x b ≡ true → (a ≤ x) × (x ≤ b)
between_true a x b e = (leb-true a x (and_left (leb a x) (leb x b) e), leb-true x b (and_right (leb a x) (leb x b) e))

pub le_between : (a x b : ℕ) → a ≤ x → x ≤ b → between a x b ≡ true
le_between a x b p q = and_both (leb a x) (leb x b) (le-leb a x p) (le-leb x b q)

-- ------------------------------------------------------------------ a list of tests
pub all_nil : all [] ≡ true
unfolding all
all_nil = refl

pub all_cons : {b : Bool} (bs : List Bool) → b ≡ true → all bs ≡ true → all (b ∷ bs) ≡ true
unfolding all
all_cons {b} bs p q = and_both b (all bs) p q

-- One of the tests.
pub all_at : (bs : List Bool) (i : ℕ) → all bs ≡ true → get_or bs i true ≡ true
unfolding all
all_at [] i e = refl
all_at (b ∷ bs) zero e = and_left b (all bs) e
all_at (b ∷ bs) (suc i) e = all_at bs i (and_right b (all bs) e)

-- The test holds at each index.
pub every_at : {A : Type 0} (t : A → Bool) (xs : List A) (i : ℕ) (d : A) → every t xs ≡ true → i < length xs → t (get_or xs i d) ≡ true
every_at t [] i d e h = absurd (not-suc-le-zero h)
every_at t (x ∷ xs) zero d e h = and_left (t x) _ e
every_at t (x ∷ xs) (suc i) d e h = every_at t xs i d (and_right (t x) _ e) (le_of_suc-le-suc h)

-- ------------------------------------------------------------------ the numbers from a on
pub every_from : (t : ℕ → Bool) (n a : ℕ) → every t (from a n) ≡ true → (i : ℕ) → a ≤ i → i < a + n → t i ≡ true
every_from t zero a e i lo hi = absurd (not-suc-le-zero {n = 0} (omega arith))
every_from t (suc n) a e i lo hi = go (every_from t n (suc a) (and_right (t a) _ e) i) (eqb a i) refl
  where
    go : (suc a ≤ i → i < suc a + n → t i ≡ true) → (b : Bool) → eqb a i ≡ b → t i ≡ true
    go ih true q = rw (← eqb-true a i q) (and_left (t a) _ e)
    go ih false q = let ne : a ≢ i = eqb-false a i q in ih (omega arith) (omega arith)

pub every_all : (t : ℕ → Bool) (n a : ℕ) → ((i : ℕ) → a ≤ i → i < a + n → t i ≡ true) → every t (from a n) ≡ true
every_all t zero a h = refl
every_all t (suc n) a h =
    and_both (t a) _ (h a (omega arith) (omega arith)) (every_all t n (suc a) (λ i lo hi. h i (omega arith) (omega arith)))

pub member_from : (n a i : ℕ) → a ≤ i → i < a + n → member i (from a n) ≡ true
member_from zero a i lo hi = absurd (not-suc-le-zero {n = 0} (omega arith))
member_from (suc n) a i lo hi = go (member_from n (suc a) i) (eqb i a) refl
  where
    go : (suc a ≤ i → i < suc a + n → member i (from (suc a) n) ≡ true)
        → (b : Bool) → eqb i a ≡ b → (b || member i (from (suc a) n)) ≡ true
    go ih true q = refl
    go ih false q = let ne : i ≢ a = eqb-false i a q in ih (omega arith) (omega arith)

-- ------------------------------------------------------------------ every element
-- Functions that agree where the test holds.
pub map_every : {A B : Type 0} (t : A → Bool) (g h : A → B) → ((x : A) → t x ≡ true → g x ≡ h x)
    → (xs : List A) → every t xs ≡ true → map g xs ≡ map h xs
map_every t g h p [] e = refl
map_every t g h p (x ∷ xs) e = λ i. p x (and_left (t x) _ e) i ∷ map_every t g h p xs (and_right (t x) _ e) i

pub every_filter : {A : Type 0} (t : A → Bool) (xs : List A) → every t (filter t xs) ≡ true
every_filter t [] = refl
every_filter t (x ∷ xs) = go (every_filter t xs) (t x) refl
  where
    go : every t (filter t xs) ≡ true → (b : Bool) → t x ≡ b → every t (when b then x ∷ filter t xs else filter t xs) ≡ true
    go ih true e = and_both (t x) _ e ih
    go ih false e = ih

-- What holds at every element holds at every one that is left.
pub every_sub : {A : Type 0} (t q : A → Bool) (xs : List A) → every q xs ≡ true → every q (filter t xs) ≡ true
every_sub t q [] e = refl
every_sub t q (x ∷ xs) e = go (every_sub t q xs (and_right (q x) _ e)) (t x)
  where
    go : every q (filter t xs) ≡ true → (b : Bool) → every q (when b then x ∷ filter t xs else filter t xs) ≡ true
    go ih true = and_both (q x) _ (and_left (q x) _ e) ih
    go ih false = ih

-- The test fails at a number that is not left.
pub member_filter : (t : ℕ → Bool) (i : ℕ) (xs : List ℕ) → member i xs ≡ true → member i (filter t xs) ≡ false → t i ≡ false
member_filter t i [] e n = absurd (false≢true e)
member_filter t i (x ∷ xs) e n = go (member_filter t i xs) (eqb i x) refl (t x) refl e n
  where
    go : (member i xs ≡ true → member i (filter t xs) ≡ false → t i ≡ false) → (b : Bool) → eqb i x ≡ b → (c : Bool) → t x ≡ c
        → (b || member i xs) ≡ true → member i (when c then x ∷ filter t xs else filter t xs) ≡ false → t i ≡ false
    go ih true q true r e n = no_both (eqb i x) q (or_none (eqb i x) _ n).0
    go ih true q false r e n = rw (eqb-true i x q) r
    go ih false q false r e n = ih e n
    go ih false q true r e n = ih e (or_none (eqb i x) _ n).1

-- What is found passes the test, and has what every element has.
pub find_has : {A : Type 0} (t q : A → Bool) (xs : List A) (x : A) → find t xs ≡ some x → every q xs ≡ true
    → (t x ≡ true) × (q x ≡ true)
find_has t q [] x e a = let z : ◌≡◌ {A = ℕ} 0 1 = cc in absurd (not-suc-le-zero {n = 0} (omega arith))
find_has t q (y ∷ ys) x e a = go (λ p. find_has t q ys x p (and_right (q y) _ a)) (t y) refl e
  where
    go : (find t ys ≡ some x → (t x ≡ true) × (q x ≡ true)) → (b : Bool) → t y ≡ b → (when b then some y else find t ys) ≡ some x
        → (t x ≡ true) × (q x ≡ true)
    go ih true p e = let yx : y ≡ x = cc in (rw (← yx) p, rw (← yx) (and_left (q y) _ a))
    go ih false p e = ih e

-- ------------------------------------------------------------------ equal lists
pub same_equal : (a b : List ℕ) → same a b ≡ true → a ≡ b
same_equal [] [] e = refl
same_equal [] (y ∷ ys) e = absurd (false≢true e)
same_equal (x ∷ xs) [] e = absurd (false≢true e)
same_equal (x ∷ xs) (y ∷ ys) e =
    λ i. eqb-true x y (and_left (eqb x y) _ e) i ∷ same_equal xs ys (and_right (eqb x y) _ e) i

pub same_refl : (a : List ℕ) → same a a ≡ true
same_refl [] = refl
same_refl (x ∷ xs) = and_both (eqb x x) _ (eq-eqb x x refl) (same_refl xs)

pub same_self : (x : ℕ) (b : Bool) → (eqb x x && b) ≡ b
same_self x b = rw (eq-eqb x x refl)

pub same_append : (a l z : List ℕ) → same l (a ++ z) ≡ (same (take (length a) l) a && same (drop (length a) l) z)
same_append [] l z = refl
same_append (x ∷ a) [] z = refl
same_append (x ∷ a) (y ∷ l) z = rw (same_append a l z) (sym (and_assoc (eqb y x) _ _))

pub same_take : (n : ℕ) (l z : List ℕ) → same l (take n l ++ z) ≡ same (drop n l) z
same_take zero l z = refl
same_take (suc n) [] z = refl
same_take (suc n) (x ∷ l) z = rw (same_self x _) (same_take n l z)

-- ------------------------------------------------------------------ elements set one after the other
pub sets_append : {A : Type 0} (d e b : List A) (at : ℕ) → sets b at (d ++ e) ≡ sets (sets b at d) (at + length d) e
sets_append [] e b at = let z : at + 0 ≡ at = omega arith in rw z
sets_append (x ∷ d) e b at =
    let s : at + suc (length d) ≡ suc at + length d = omega arith in
    rw s (sets_append d e (set b at x) (suc at))

-- ------------------------------------------------------------------ parts of a list
module _ {A : Type 0} where
  -- What stands behind the first part is not seen in it.
  pub part_front : (a x : List A) (n m : ℕ) → n + m ≤ length a → take m (drop n (a ++ x)) ≡ take m (drop n a)
  part_front a x n m h =
      let h1 : n ≤ length a = omega arith in
      let h2 : m ≤ length (drop n a) = simp length-drop (omega arith) in
      rw (drop-append-le n a x h1, take-append-le m (drop n a) x h2)

  -- What stands before the last part is passed over.
  pub part_behind : (a x : List A) (n m : ℕ) → length a ≡ n → drop (n + m) (a ++ x) ≡ drop m x
  part_behind a x n m h = rw (← h) (drop-append-add a x m)

pub zeros_at : (n i : ℕ) → ◌≡◌ {A = ℕ} (get_or (replicate n 0) i 0) 0
zeros_at zero i = refl
zeros_at (suc n) zero = refl
zeros_at (suc n) (suc i) = zeros_at n i
