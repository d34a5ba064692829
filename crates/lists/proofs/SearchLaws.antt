-- Laws of searching a list (any, find, member, distinct), of a list with one element set or one more at its end, and of the
-- numbers from a on.
-- Each by induction on the list; `go` has the values of the first element's test.
use mathlib.Core.Path.{◌≡◌, refl, sym, ap, ◌∙◌}
use mathlib.Core.Bool.{Bool, true, false, not, ◌&&◌, ◌||◌, true≢false, false≢true}
use mathlib.Core.List.{List, [], ◌∷◌, ◌++◌, map}
use mathlib.Core.Logic.{◌≢◌}
use mathlib.Core.Option.{Option, none, some, none-ne-some}
use Prim.Native.Nat.{ℕ, zero, suc, ◌+◌, ◌≤◌, ◌<◌}
use native.Mathlib.Nat.{add-zero, not-suc-le-zero, le_of_suc-le-suc}
use native.Mathlib.Omega.{arith}
use borrow.Author.Tests.{leb-true, eqb-false, eq-eqb, ne_eqb, not-true}
use lib.Dec.{eqb, leb}
use lib.ListN.{length, get_or, set, drop, get_elem?}
use Rattle.lists.specs.Lists.{when◌then◌else◌, first, every, any, filter, find, distinct, member, from}
use Rattle.lists.proofs.ListLaws.{and_left, and_right, and_both, or_none, no_both}
use Rattle.lists.proofs.CaseLaws.{by_equal, if_test}

-- ------------------------------------------------------------------ two tests
pub or_true : (a b : Bool) → b ≡ true → (a || b) ≡ true
or_true true b e = refl
or_true false b e = e

pub or_false : (a b : Bool) → a ≡ false → b ≡ false → (a || b) ≡ false
or_false a b p q = rw (p, q)

-- None is something: from that anything follows.
pub none_some : {A X : Type 0} (x : A) → none ≡ some x → X
none_some x e = absurd (none-ne-some x e)

-- ------------------------------------------------------------------ every element
module _ {A : Type 0} where
  pub every_implies : (q t : A → Bool) → ((x : A) → q x ≡ true → t x ≡ true) → (xs : List A) → every q xs ≡ true → every t xs ≡ true
  every_implies q t h [] e = refl
  every_implies q t h (x ∷ xs) e = and_both (t x) _ (h x (and_left (q x) _ e)) (every_implies q t h xs (and_right (q x) _ e))

  pub every_both : (q u : A → Bool) (xs : List A) → every q xs ≡ true → every u xs ≡ true → every (λ x. q x && u x) xs ≡ true
  every_both q u [] e d = refl
  every_both q u (x ∷ xs) e d =
      and_both (q x && u x) _ (and_both (q x) (u x) (and_left (q x) _ e) (and_left (u x) _ d))
      (every_both q u xs (and_right (q x) _ e) (and_right (u x) _ d))

  -- The test holds at no element.
  pub any_none : (t : A → Bool) (xs : List A) → any t xs ≡ false → every (λ x. not (t x)) xs ≡ true
  any_none t [] e = refl
  any_none t (x ∷ xs) e =
      let h = or_none (t x) (any t xs) e in
      and_both (not (t x)) _ (rw h.0) (any_none t xs h.1)

  -- ------------------------------------------------------------------ finding an element
  pub find_none : (t : A → Bool) (xs : List A) → every (λ x. not (t x)) xs ≡ true → find t xs ≡ none
  find_none t [] e = refl
  find_none t (x ∷ xs) e = rw (not-true (t x) (and_left (not (t x)) _ e)) (find_none t xs (and_right (not (t x)) _ e))

  pub none_found : (t : A → Bool) (xs : List A) → find t xs ≡ none → every (λ x. not (t x)) xs ≡ true
  none_found t [] e = refl
  none_found t (x ∷ xs) e = go (none_found t xs) (t x) refl e
    where
      go : (find t xs ≡ none → every (λ y. not (t y)) xs ≡ true) → (b : Bool) → t x ≡ b → (when b then some x else find t xs) ≡ none
          → (not (t x) && every (λ y. not (t y)) xs) ≡ true
      go ih true q e = none_some x (sym e)
      go ih false q e = and_both (not (t x)) _ (rw q) (ih e)

  -- An element found is one of the list.
  pub find_any : (t q : A → Bool) (xs : List A) (x : A) → find t xs ≡ some x → q x ≡ true → any q xs ≡ true
  find_any t q [] x e h = none_some x e
  find_any t q (y ∷ ys) x e h = go (λ w. find_any t q ys x w h) (t y) e (q y) refl
    where
      go : (find t ys ≡ some x → any q ys ≡ true) → (b : Bool) → (when b then some y else find t ys) ≡ some x
          → (c : Bool) → q y ≡ c → (c || any q ys) ≡ true
      go ih b e true w = refl
      go ih true e false w = let z : y ≡ x = cc in no_both (q y) (rw z h) w
      go ih false e false w = ih e

  -- Of two elements found that are alike, where no two elements of the list are, both are the same.
  pub find_same : (r : A → A → Bool) (t u : A → Bool) (xs : List A) (x y : A) → find t xs ≡ some x → find u xs ≡ some y
      → r x y ≡ true → r y x ≡ true → distinct r xs ≡ true → x ≡ y
  find_same r t u [] x y e d p q h = none_some x e
  find_same r t u (z ∷ zs) x y e d p q h = go (λ e d. find_same r t u zs x y e d p q (and_right (not (any (r z) zs)) _ h)) (t z) (u z) e d
    where
      away : any (r z) zs ≡ false
      away = not-true _ (and_left (not (any (r z) zs)) _ h)

      go : (find t zs ≡ some x → find u zs ≡ some y → x ≡ y) → (b c : Bool) → (when b then some z else find t zs) ≡ some x
          → (when c then some z else find u zs) ≡ some y → x ≡ y
      go ih true true e d = cc
      go ih true false e d = let k : z ≡ x = cc in no_both _ (find_any u (r z) zs y d (rw k p)) away
      go ih false true e d = let k : z ≡ y = cc in no_both _ (find_any t (r z) zs x e (rw k q)) away
      go ih false false e d = ih e d

  -- ------------------------------------------------------------------ two tests, two lists
  pub every_append : (t : A → Bool) (xs ys : List A) → every t xs ≡ true → every t ys ≡ true → every t (xs ++ ys) ≡ true
  every_append t [] ys e d = d
  every_append t (x ∷ xs) ys e d = and_both (t x) _ (and_left (t x) _ e) (every_append t xs ys (and_right (t x) _ e) d)

  pub filter_both : (q t : A → Bool) (xs : List A) → filter q (filter t xs) ≡ filter (λ x. q x && t x) xs
  filter_both q t [] = refl
  filter_both q t (x ∷ xs) = go (filter_both q t xs) (q x) refl (t x)
    where
      go : filter q (filter t xs) ≡ filter (λ y. q y && t y) xs → (b : Bool) → q x ≡ b → (c : Bool)
          → filter q (when c then x ∷ filter t xs else filter t xs)
          ≡ (when b && c then x ∷ filter (λ y. q y && t y) xs else filter (λ y. q y && t y) xs)
      go ih true e true = rw e (ap (λ (l : List A). x ∷ l) ih)
      go ih false e true = rw e ih
      go ih true e false = ih
      go ih false e false = ih

  -- ------------------------------------------------------------------ one element more
  pub every_end : (t : A → Bool) (xs : List A) (x : A) → every t xs ≡ true → t x ≡ true → every t (xs ++ (x ∷ [])) ≡ true
  every_end t xs x e h = every_append t xs (x ∷ []) e (and_both (t x) true h refl)

  any_end : (t : A → Bool) (xs : List A) (x : A) → any t xs ≡ false → t x ≡ false → any t (xs ++ (x ∷ [])) ≡ false
  any_end t [] x e h = or_false (t x) false h refl
  any_end t (y ∷ ys) x e h = let d = or_none (t y) (any t ys) e in or_false (t y) _ d.0 (any_end t ys x d.1 h)

  pub distinct_end : (r : A → A → Bool) (xs : List A) (x : A) → distinct r xs ≡ true → every (λ y. not (r y x)) xs ≡ true
      → distinct r (xs ++ (x ∷ [])) ≡ true
  distinct_end r [] x e h = refl
  distinct_end r (y ∷ ys) x e h =
      and_both (not (any (r y) (ys ++ (x ∷ [])))) _
      (rw (any_end (r y) ys x (not-true _ (and_left (not (any (r y) ys)) _ e)) (not-true _ (and_left (not (r y x)) _ h))))
      (distinct_end r ys x (and_right (not (any (r y) ys)) _ e) (and_right (not (r y x)) _ h))

  -- The one found first, else the new one.
  abbrev pub or_found : Option A → Option A → Option A
  or_found none o = o
  or_found (some x) o = some x

  pub find_end : (t : A → Bool) (xs : List A) (x : A) → find t (xs ++ (x ∷ [])) ≡ or_found (find t xs) (when t x then some x else none)
  find_end t [] x = refl
  find_end t (y ∷ ys) x = go (find_end t ys x) (t y)
    where
      go : find t (ys ++ (x ∷ [])) ≡ or_found (find t ys) (when t x then some x else none) → (b : Bool)
          → (when b then some y else find t (ys ++ (x ∷ []))) ≡ or_found (when b then some y else find t ys) (when t x then some x else none)
      go ih true = refl
      go ih false = ih

-- ------------------------------------------------------------------ the first test that holds
-- None does: each test fails, if none of the numbers is 0.
pub first_none : (xs : List (ℕ × Bool)) (i : ℕ) → every (λ x. leb 1 x.0) xs ≡ true → first xs ≡ 0 → (get_or xs i (0, false)).1 ≡ false
unfolding first
first_none [] i e z = refl
first_none ((n, true) ∷ xs) i e z =
    let lt : 1 ≤ n = leb-true 1 n (and_left (leb 1 n) _ e) in
    absurd (not-suc-le-zero {n = 0} (omega arith))
first_none ((n, false) ∷ xs) zero e z = refl
first_none ((n, false) ∷ xs) (suc i) e z = first_none xs i (and_right (leb 1 n) _ e) z

-- Two parts: where one test of the first part holds it decides, else the second part does.
pub first_refuses : (n : ℕ) (xs ys : List (ℕ × Bool)) → 1 ≤ n → n ≡ first xs → n ≡ first (xs ++ ys)
unfolding first
first_refuses n [] ys pos e = absurd (not-suc-le-zero {n = 0} (omega arith))
first_refuses n ((m, true) ∷ xs) ys pos e = e
first_refuses n ((m, false) ∷ xs) ys pos e = first_refuses n xs ys pos e

pub first_accepts : (n : ℕ) (xs ys : List (ℕ × Bool)) → every (λ x. leb 1 x.0) xs ≡ true → 0 ≡ first xs → n ≡ first ys
    → n ≡ first (xs ++ ys)
unfolding first
first_accepts n [] ys pos z e = e
first_accepts n ((m, true) ∷ xs) ys pos z e = absurd (not-suc-le-zero {n = 0} (omega (arith, leb-true 1 m (and_left (leb 1 m) _ pos))))
first_accepts n ((m, false) ∷ xs) ys pos z e = first_accepts n xs ys (and_right (leb 1 m) _ pos) z e

-- ------------------------------------------------------------------ a list of marks
pub no_mark : (l : List Bool) (i : ℕ) → any (λ b. b) l ≡ false → get_or l i false ≡ false
no_mark [] i e = refl
no_mark (true ∷ l) i e = absurd (true≢false e)
no_mark (false ∷ l) zero e = refl
no_mark (false ∷ l) (suc i) e = no_mark l i e

-- ------------------------------------------------------------------ numbers in a list
-- The first of them, or none.
pub none_first : (xs : List ℕ) → none ≡ get_elem? xs 0 → eqb (length xs) 0 ≡ true
none_first [] e = refl
none_first (x ∷ xs) e = none_some x e

pub some_first : (xs : List ℕ) (r : ℕ) → some r ≡ get_elem? xs 0 → (eqb (length xs) 0 ≡ false) × (r ≡ get_or xs 0 0)
some_first [] r e = none_some r (sym e)
some_first (x ∷ xs) r e = (ne_eqb (suc (length xs)) 0 (λ (q : suc (length xs) ≡ 0). omega arith), cc)

pub first_append : (xs ys : List ℕ) (r : ℕ) → get_elem? xs 0 ≡ some r → get_elem? (xs ++ ys) 0 ≡ some r
first_append [] ys r e = none_some r e
first_append (x ∷ xs) ys r e = e

-- A list with a member isn't empty.
pub member_some : (i : ℕ) (xs : List ℕ) → member i xs ≡ true → eqb (length xs) 0 ≡ false
member_some i [] e = absurd (false≢true e)
member_some i (x ∷ xs) e = ne_eqb (length (x ∷ xs)) 0 (omega arith)

pub not_member : (m : List ℕ) (r i : ℕ) → member r m ≡ false → i < length m → get_or m i 0 ≢ r
not_member [] r i e h = absurd (not-suc-le-zero h)
not_member (x ∷ m) r zero e h = λ q. no_both (eqb r x) (eq-eqb r x (sym q)) (or_none (eqb r x) (member r m) e).0
not_member (x ∷ m) r (suc i) e h = not_member m r i (or_none (eqb r x) (member r m) e).1 (le_of_suc-le-suc h)

-- ------------------------------------------------------------------ one number set
pub every_set : (t : ℕ → Bool) (m : List ℕ) (i x : ℕ) → every t m ≡ true → t x ≡ true → every t (set m i x) ≡ true
every_set t [] i x e h = refl
every_set t (y ∷ m) zero x e h = and_both (t x) _ h (and_right (t y) _ e)
every_set t (y ∷ m) (suc i) x e h = and_both (t y) _ (and_left (t y) _ e) (every_set t m i x (and_right (t y) _ e) h)

pub member_set : (m : List ℕ) (i x y : ℕ) → member x m ≡ false → eqb x y ≡ false → member x (set m i y) ≡ false
member_set [] i x y h n = refl
member_set (z ∷ m) zero x y h n = or_false (eqb x y) _ n (or_none (eqb x z) (member x m) h).1
member_set (z ∷ m) (suc i) x y h n =
    let d = or_none (eqb x z) (member x m) h in
    or_false (eqb x z) _ d.0 (member_set m i x y d.1 n)

pub distinct_set : (m : List ℕ) (i y : ℕ) → distinct eqb m ≡ true → member y m ≡ false → distinct eqb (set m i y) ≡ true
distinct_set [] i y e h = refl
distinct_set (z ∷ m) zero y e h =
    and_both (not (member y m)) _ (rw (or_none (eqb y z) (member y m) h).1) (and_right (not (member z m)) _ e)
distinct_set (z ∷ m) (suc i) y e h =
    let d = or_none (eqb y z) (member y m) h in
    let n : eqb z y ≡ false = ne_eqb z y (λ q. eqb-false y z d.0 (sym q)) in
    and_both (not (member z (set m i y))) _ (rw (member_set m i z y (not-true _ (and_left (not (member z m)) _ e)) n))
    (distinct_set m i y (and_right (not (member z m)) _ e) d.1)

-- ------------------------------------------------------------------ the numbers from a on
pub from_length : (n a : ℕ) → length (from a n) ≡ n
from_length zero a = refl
from_length (suc n) a = ap suc (from_length n (suc a))

pub from_at : (n a i : ℕ) → i < n → get_or (from a n) i 0 ≡ a + i
from_at zero a i h = absurd (not-suc-le-zero h)
from_at (suc n) a zero h = omega arith
from_at (suc n) a (suc i) h = from_at n (suc a) i (le_of_suc-le-suc h) ∙ omega arith

from_above : (n a i : ℕ) → i < a → member i (from a n) ≡ false
from_above zero a i h = refl
from_above (suc n) a i h = rw (ne_eqb i a (omega arith)) (from_above n (suc a) i (omega arith))

pub from_below : (n a i : ℕ) → a + n ≤ i → member i (from a n) ≡ false
from_below zero a i h = refl
from_below (suc n) a i h = rw (ne_eqb i a (omega arith)) (from_below n (suc a) i (omega arith))

pub from_distinct : (n a : ℕ) → distinct eqb (from a n) ≡ true
from_distinct zero a = refl
from_distinct (suc n) a = and_both (not (member a (from (suc a) n))) _ (rw (from_above n (suc a) a (omega arith))) (from_distinct n (suc a))

-- What has these numbers, one after the other, and what comes behind.
module _ {A : Type 0} (g : ℕ → A) where
  pub numbered_at : (z : A) (n a i : ℕ) (l : List A) → i < n → get_or (map g (from a n) ++ l) i z ≡ g (a + i)
  numbered_at z zero a i l h = absurd (not-suc-le-zero h)
  numbered_at z (suc n) a zero l h = rw (add-zero a)
  numbered_at z (suc n) a (suc i) l h = let e : a + suc i ≡ suc a + i = omega arith in rw e (numbered_at z n (suc a) i l (le_of_suc-le-suc h))

  pub numbered_behind : (n a : ℕ) (l : List A) → drop n (map g (from a n) ++ l) ≡ l
  numbered_behind zero a l = refl
  numbered_behind (suc n) a l = numbered_behind n (suc a) l

-- A test that holds at none of the numbers, at one of them, and at r as the first.
module _ (t : ℕ → Bool) where
  pub filter_none : (n a : ℕ) → ((i : ℕ) → a ≤ i → i < a + n → t i ≡ false) → filter t (from a n) ≡ []
  filter_none zero a h = refl
  filter_none (suc n) a h = rw (h a (omega arith) (omega arith)) (filter_none n (suc a) (λ i lo hi. h i (omega arith) (omega arith)))

  pub filter_one : (n a j : ℕ) → a ≤ j → j < a + n → t j ≡ true
      → ((i : ℕ) → a ≤ i → i < a + n → i ≢ j → t i ≡ false) → filter t (from a n) ≡ j ∷ []
  filter_one zero a j lo hi e h = absurd (not-suc-le-zero {n = 0} (omega arith))
  filter_one (suc n) a j lo hi e h = by_equal a j
      (λ q. rw (q, e) (ap (λ (l : List ℕ). j ∷ l) (filter_none n (suc j) (λ i l u. h i (omega arith) (omega arith) (omega arith)))))
      (λ q. rw (h a (omega arith) (omega arith) q)
      (filter_one n (suc a) j (omega arith) (omega arith) e (λ i l u. h i (omega arith) (omega arith))))

  -- The first is the lowest.
  pub filter_least : (n a i : ℕ) → a ≤ i → i < a + n → t i ≡ true → get_or (filter t (from a n)) 0 0 ≤ i
  filter_least zero a i lo hi e = absurd (not-suc-le-zero {n = 0} (omega arith))
  filter_least (suc n) a i lo hi e = if_test (λ (l : List ℕ). get_or l 0 0 ≤ i) (t a) (a ∷ filter t (from (suc a) n)) (filter t (from (suc a) n))
      (λ q. lo)
      (λ q. by_equal a i (λ z. no_both (t i) e (rw z at q)) (λ z. filter_least n (suc a) i (omega arith) (omega arith) e))

  pub filter_first : (n a r : ℕ) → a ≤ r → r < a + n → ((y : ℕ) → a ≤ y → y < r → t y ≡ false) → t r ≡ true
      → get_elem? (filter t (from a n)) 0 ≡ some r
  filter_first zero a r lo hi h e = absurd (not-suc-le-zero {n = 0} (omega arith))
  filter_first (suc n) a r lo hi h e = by_equal a r
      (λ q. rw (q, e))
      (λ q. rw (h a (omega arith) (omega arith))
      (filter_first n (suc a) r (omega arith) (omega arith) (λ y l u. h y (omega arith) u) e))
