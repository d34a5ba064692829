-- Elements of lists that are made of other lists: what makes an element be in one, and where it comes from. Each by induction on
-- the list or on the place of the element.
use mathlib.Core.Path.{◌≡◌, refl, subst}
use mathlib.Core.Bool.{Bool, true, false}
use mathlib.Core.List.Memᴰ
use mathlib.Core.List.{List, [], ◌∷◌, map, flat_map}
use Prim.Native.Nat.{ℕ, zero, suc, ◌+◌, ◌≤◌, ◌<◌}
use native.Mathlib.Nat.{not-suc-le-zero, le_of_suc-le-suc}
use native.Mathlib.Omega.{arith}
use lib.ListN.{length, get_or}
use Rattle.lists.specs.Lists.{when◌then◌else◌, every, filter, from}
use Rattle.lists.proofs.ListLaws.{and_left, and_right}
use Rattle.lists.proofs.CaseLaws.{by_equal}
use Rattle.enumeration.specs.Lists.{In, lists_of}

-- ------------------------------------------------------------------ what is in a list
module _ {A : Type 0} where
  -- What holds at every element.
  pub every_in : (t : A → Bool) {x : A} {xs : List A} → every t xs ≡ true → In x xs → t x ≡ true
  every_in t {xs = []} e p = elim p [ ]
  every_in t {x} {xs = y ∷ ys} e (Memᴰ.head q) = rw q (and_left (t y) _ e)
  every_in t {xs = y ∷ ys} e (Memᴰ.tail p) = every_in t (and_right (t y) _ e) p

  pub in_filter : (t : A → Bool) {x : A} {xs : List A} → t x ≡ true → In x xs → In x (filter t xs)
  in_filter t {xs = []} e p = elim p [ ]
  in_filter t {x} {xs = y ∷ ys} e (Memᴰ.head q) = let h : t y ≡ true = rw (← q) e in rw h (Memᴰ.head q)
  in_filter t {x} {xs = y ∷ ys} e (Memᴰ.tail p) = go (t y) (in_filter t e p)
    where
      go : (b : Bool) → In x (filter t ys) → In x (when b then y ∷ filter t ys else filter t ys)
      go true p = Memᴰ.tail p
      go false p = p

  pub in_at : (xs : List A) (i : ℕ) (d : A) → i < length xs → In (get_or xs i d) xs
  in_at [] i d lt = absurd (not-suc-le-zero lt)
  in_at (x ∷ xs) zero d lt = Memᴰ.head refl
  in_at (x ∷ xs) (suc i) d lt = Memᴰ.tail (in_at xs i d (le_of_suc-le-suc lt))

pub in_flat : {A B : Type 0} (f : A → List B) {x : A} {xs : List A} {y : B} → In x xs → In y (f x) → In y (flat_map f xs)
unfolding flat_map
in_flat f {xs = []} p q = elim p [ ]
in_flat f {xs = z ∷ zs} {y = y} (Memᴰ.head e) q = Memᴰ.append_left (flat_map f zs) (subst (λ x. In y (f x)) e q)
in_flat f {xs = z ∷ zs} (Memᴰ.tail p) q = Memᴰ.append_right (f z) (in_flat f p q)

-- One of the xs with one of the ys.
pub in_pairs : {A B C : Type 0} (f : A → B → C) {x : A} {y : B} {xs : List A} {ys : List B} → In x xs → In y ys
    → In (f x y) (flat_map (λ x. map (f x) ys) xs)
in_pairs f {x} {ys = ys} p q = in_flat (λ x. map (f x) ys) p (Memᴰ.map (f x) q)

pub in_from : (n a i : ℕ) → a ≤ i → i < a + n → In i (from a n)
in_from zero a i lo hi = absurd (not-suc-le-zero {n = 0} (omega arith))
in_from (suc n) a i lo hi = by_equal i a (λ e. Memᴰ.head e) (λ e. Memᴰ.tail (in_from n (suc a) i (omega arith) (omega arith)))

-- A list of some of the xs.
module _ {A : Type 0} (xs : List A) where
  pub in_lists : (l : List A) → ((y : A) → In y l → In y xs) → In l (lists_of (length l) xs)
  unfolding lists_of
  in_lists [] h = Memᴰ.head refl
  in_lists (y ∷ l) h = in_pairs (λ x (l : List A). x ∷ l) (h y (Memᴰ.head refl)) (in_lists l (λ z p. h z (Memᴰ.tail p)))

-- ------------------------------------------------------------------ where an element comes from
module _ {A : Type 0} where
  pub filter_has : (t : A → Bool) {x : A} (xs : List A) → In x (filter t xs) → (t x ≡ true) × In x xs
  filter_has t [] p = elim p [ ]
  filter_has t {x} (y ∷ ys) p = go (t y) refl (filter_has t ys) p
    where
      go : (b : Bool) → t y ≡ b → (In x (filter t ys) → (t x ≡ true) × In x ys) → In x (when b then y ∷ filter t ys else filter t ys)
          → (t x ≡ true) × In x (y ∷ ys)
      go true e ih (Memᴰ.head q) = (rw q e, Memᴰ.head q)
      go true e ih (Memᴰ.tail p) = ((ih p).0, Memᴰ.tail (ih p).1)
      go false e ih p = ((ih p).0, Memᴰ.tail (ih p).1)
