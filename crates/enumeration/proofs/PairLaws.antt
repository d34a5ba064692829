-- The list of f x y, for each of the xs every one of the ys: where an element comes from, which one stands at an index, and what a test
-- leaves of it. Each by induction on the xs.
use mathlib.Core.Path.{◌≡◌, refl, sym, ap, ◌∙◌}
use mathlib.Core.Bool.{Bool, true, false, ◌&&◌}
use mathlib.Core.List.Memᴰ
use mathlib.Core.List.{List, [], ◌∷◌, ◌++◌, map, flat_map}
use mathlib.Core.Logic.{⊎_elim}
use Prim.Native.Nat.{ℕ, zero, suc, ◌+◌, ◌*◌, ◌<◌}
use native.Mathlib.Nat.{not-suc-le-zero, le_of_suc-le-suc, mul-suc}
use native.Mathlib.Omega.{arith}
use lib.ListN.{length, get_or, length-map, get_or-append}
use lib.Seq.{get_or-append-add}
use Rattle.lists.specs.Lists.{when◌then◌else◌, filter}
use Rattle.enumeration.specs.Lists.{In}

-- Element i of a list that a function was applied to.
pub map_at : {B C : Type 0} (g : B → C) (ys : List B) (i : ℕ) (dy : B) (dz : C) → i < length ys → get_or (map g ys) i dz ≡ g (get_or ys i dy)
map_at g [] i dy dz lt = absurd (not-suc-le-zero lt)
map_at g (y ∷ ys) zero dy dz lt = refl
map_at g (y ∷ ys) (suc i) dy dz lt = map_at g ys i dy dz (le_of_suc-le-suc lt)

module _ {A B C : Type 0} (f : A → B → C) (ys : List B) where
  abbrev pairs : List A → List C
  pairs xs = flat_map (λ x. map (f x) ys) xs

  -- ------------------------------------------------------------------ where an element comes from
  pub pairs_case : {X : Type 0} (xs : List A) {z : C} → In z (pairs xs) → ((x : A) → In x xs → (y : B) → In y ys → z ≡ f x y → X) → X
  unfolding flat_map
  pairs_case [] p k = elim p [ ]
  pairs_case (x ∷ xs) {z} p k = ⊎_elim
      (λ (q : In z (map (f x) ys)). let o = Memᴰ.of_map (f x) ys q in k x (Memᴰ.head refl) o.0 o.1 (sym o.2))
      (λ (q : In z (pairs xs)). pairs_case xs q (λ a m. k a (Memᴰ.tail m)))
      (Memᴰ.append_cases (map (f x) ys) p)

  -- ------------------------------------------------------------------ by index
  pairs_at : (xs : List A) (a b : ℕ) (dx : A) (dy : B) (dz : C) → a < length xs → b < length ys
      → get_or (pairs xs) (length ys * a + b) dz ≡ f (get_or xs a dx) (get_or ys b dy)
  unfolding flat_map
  pairs_at [] a b dx dy dz lt le = absurd (not-suc-le-zero lt)
  pairs_at (x ∷ xs) zero b dx dy dz lt le =
      let z : length ys * 0 + b ≡ b = omega arith in
      let in_row : b < length (map (f x) ys) = rw (length-map ys (f x)) le in
      rw z (get_or-append (map (f x) ys) (pairs xs) dz b in_row ∙ map_at (f x) ys b dy dz le)
  pairs_at (x ∷ xs) (suc a) b dx dy dz lt le =
      let z : length ys * suc a + b ≡ length (map (f x) ys) + (length ys * a + b) =
      rw (length-map ys (f x), mul-suc (length ys) a) (turn (length ys) (length ys * a) b) in
      rw z (get_or-append-add (map (f x) ys) (pairs xs) (length ys * a + b) dz ∙ pairs_at xs a b dx dy dz (le_of_suc-le-suc lt) le)
    where
      turn : (n m b : ℕ) → m + n + b ≡ n + (m + b)
      turn n m b = omega arith

  -- The same, where the index and the number of the ys are known by other names.
  pub pairs_index : (xs : List A) (i a b n : ℕ) (dx : A) (dy : B) (dz : C) → length ys ≡ n → i ≡ n * a + b → a < length xs → b < n
      → get_or (pairs xs) i dz ≡ f (get_or xs a dx) (get_or ys b dy)
  pairs_index xs i a b n dx dy dz size e lt le = rw (e, ← size) (pairs_at xs a b dx dy dz lt (rw size le))

  -- ------------------------------------------------------------------ what a test leaves
  module _ (t : C → Bool) (p : A → Bool) (q : A → B → Bool) where
    row_filter : (x : A) (zs : List B) → ((y : B) → In y zs → t (f x y) ≡ (p x && q x y)) → (b : Bool) → p x ≡ b
        → filter t (map (f x) zs) ≡ (when b then map (f x) (filter (q x) zs) else [])
    row_filter x [] h true e = refl
    row_filter x [] h false e = refl
    row_filter x (y ∷ zs) h b e = rw (h y (Memᴰ.head refl), e) (go b (q x y) (row_filter x zs (λ w m. h w (Memᴰ.tail m)) b e))
      where
        go : (b c : Bool) → filter t (map (f x) zs) ≡ (when b then map (f x) (filter (q x) zs) else [])
            → (when b && c then f x y ∷ filter t (map (f x) zs) else filter t (map (f x) zs))
            ≡ (when b then map (f x) (when c then y ∷ filter (q x) zs else filter (q x) zs) else [])
        go true true e = rw e
        go true false e = e
        go false c e = e

    filter_append : (a b : List C) → filter t (a ++ b) ≡ filter t a ++ filter t b
    filter_append [] b = refl
    filter_append (x ∷ a) b = go (t x) (filter_append a b)
      where
        go : (c : Bool) → filter t (a ++ b) ≡ filter t a ++ filter t b
            → (when c then x ∷ filter t (a ++ b) else filter t (a ++ b)) ≡ (when c then x ∷ filter t a else filter t a) ++ filter t b
        go true e = rw e
        go false e = e

    -- The test is one of the x, then one of the y beside it.
    pub pairs_filter : (xs : List A) → ((x : A) → In x xs → (y : B) → In y ys → t (f x y) ≡ (p x && q x y))
        → filter t (pairs xs) ≡ flat_map (λ x. map (f x) (filter (q x) ys)) (filter p xs)
    unfolding flat_map
    pairs_filter [] h = refl
    pairs_filter (x ∷ xs) h =
        filter_append (map (f x) ys) (pairs xs)
        ∙ (ap (λ (l : List C). filter t (map (f x) ys) ++ l) (pairs_filter xs (λ w m. h w (Memᴰ.tail m)))
        ∙ go (p x) (row_filter x ys (h x (Memᴰ.head refl)) (p x) refl))
      where
        more : List C
        more = flat_map (λ x. map (f x) (filter (q x) ys)) (filter p xs)

        go : (b : Bool) → filter t (map (f x) ys) ≡ (when b then map (f x) (filter (q x) ys) else [])
            → filter t (map (f x) ys) ++ more ≡ flat_map (λ x. map (f x) (filter (q x) ys)) (when b then x ∷ filter p xs else filter p xs)
        go true e = rw e
        go false e = rw e
