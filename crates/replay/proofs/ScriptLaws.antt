-- The steps of a script, one by one, as bytes: the first whole step, and then the steps behind it. How often one looks for a step
-- doesn't matter, as long as it is as often as there are bytes.
use mathlib.Core.Path.{◌≡◌, refl, sym, ap, subst, ◌∙◌}
use mathlib.Core.Bool.{Bool, true, false}
use mathlib.Core.List.{List, [], ◌∷◌, map}
use Prim.Native.Nat.{ℕ, zero, suc, ◌≤◌, ◌<◌}
use native.Mathlib.Omega.{arith}
use borrow.Author.Tests.{le-leb, lt-leb, leb-true}
use lib.Dec.{leb}
use lib.ListN.{length, take, drop, length-take, length-drop}
use lib.Seq.{take_all, take-take, get_or-take}
use Rattle.std.specs.Prelude.{Option, Some, None}
use Rattle.std.proofs.lemmas.List.{drop-take}
use Rattle.lists.specs.Lists.{when◌then◌else◌}
use Rattle.sector.specs.Contents.{Bytes}
use Rattle.sector.specs.Sectors.{byte, word}
use Rattle.lists.proofs.ListLaws.{and_left, and_right}
use Rattle.atomicity.specs.Runs.{Step}
use Rattle.commands.specs.Commands.{step_of}
use Rattle.replay.specs.Scripts.{command_in, step_size, is_whole, step_in, steps_from, steps}
use Rattle.replay.specs.Walks.{step_length, pieces_from, pieces, IsPiece}

-- ------------------------------------------------------------------ whole steps
pub short_none : (l : Bytes) → length l < 8 → is_whole l ≡ false
unfolding is_whole
short_none l h = rw (lt-leb 8 (length l) h)

pub cut_none : (l : Bytes) → 8 ≤ length l → length l < step_size l → is_whole l ≡ false
unfolding is_whole
cut_none l h g = rw (le-leb 8 (length l) h, lt-leb (step_size l) (length l) g)

pub fits_whole : (l : Bytes) → 8 ≤ length l → step_size l ≤ length l → is_whole l ≡ true
unfolding is_whole
fits_whole l h g = rw (le-leb 8 (length l) h, le-leb (step_size l) (length l) g)

-- The step of n bytes at the front is whole.
pub record Whole (l : Bytes) (n : ℕ) : Type 0 where
  pub is_there : is_whole l ≡ true
  pub size : n ≡ step_size l
  pub head : 8 ≤ length l
  pub inside : step_size l ≤ length l

whole_fits : (l : Bytes) → is_whole l ≡ true → Whole l (step_size l)
unfolding is_whole
whole_fits l e = record {
  is_there = e;
  size = refl;
  head = leb-true 8 (length l) (and_left (leb 8 (length l)) _ e);
  inside = leb-true (step_size l) (length l) (and_right (leb 8 (length l)) _ e);
}

pub no_step : (l : Bytes) → ◌≡◌ {A = Option ℕ} None (step_length l) → is_whole l ≡ false
unfolding step_length
no_step l e = go (is_whole l) e
  where
    go : (b : Bool) → ◌≡◌ {A = Option ℕ} None (when b then Some (step_size l) else None) → b ≡ false
    go false i = refl
    go true i = cc

pub whole_step : (l : Bytes) (n : ℕ) → Some n ≡ step_length l → Whole l n
unfolding step_length
whole_step l n e = go (is_whole l) refl e
  where
    go : (b : Bool) → is_whole l ≡ b → Some n ≡ (when b then Some (step_size l) else None) → Whole l n
    go true i h =
        let s : n ≡ step_size l = cc in
        rw s (whole_fits l i)
    go false i h = cc

-- ------------------------------------------------------------------ the bytes of the steps
-- A step is read from its own bytes as it is from the front of the script.
module _ (l : Bytes) (n : ℕ) (w : Whole l n) where
  front_byte : (i : ℕ) → i < 8 → byte (take n l) i ≡ byte l i
  front_byte i h = get_or-take n l i 0 (omega (arith, w.size))

  front_data : drop 8 (take n l) ≡ take (word l 6) (drop 8 l)
  front_data = rw w.size (drop-take 8 (word l 6) l)

  front_step : step_in (take n l) ≡ step_in l
  unfolding step_in command_in
  front_step =
      rw (front_data, front_byte 0 (omega arith), front_byte 1 (omega arith), front_byte 2 (omega arith), front_byte 3 (omega arith), front_byte 4 (omega arith), front_byte 5 (omega arith), front_byte 6 (omega arith), front_byte 7 (omega arith), take-take (word l 6) (word l 6) (drop 8 l) (omega arith))

  front_piece : IsPiece (take n l)
  front_piece = record {
    head = omega (arith, length-take n l, w.size, w.inside);
    size = omega (arith, length-take n l, w.size, w.inside, front_byte 6 (omega arith), front_byte 7 (omega arith));
  }

-- The step is its command with its data.
pub step_data : (l : Bytes) → IsPiece l → step_in l ≡ step_of (command_in l) (drop 8 l)
unfolding step_in
step_data l h =
    let e : take (word l 6) (drop 8 l) ≡ drop 8 l = take_all (word l 6) (drop 8 l) (omega (arith, h.size, length-drop 8 l)) in
    rw e

-- ------------------------------------------------------------------ the steps of a script
enough : (n m : ℕ) (l : Bytes) → length l ≤ n → length l ≤ m → pieces_from n l ≡ pieces_from m l
unfolding pieces_from
enough zero zero l h g = refl
enough zero (suc m) l h g = rw (short_none l (omega arith))
enough (suc n) zero l h g = rw (short_none l (omega arith))
enough (suc n) (suc m) l h g =
    ap (λ (xs : List Bytes). when is_whole l then take (step_size l) l ∷ xs else [])
    (enough n m (drop (step_size l) l) (omega (arith, length-drop (step_size l) l)) (omega (arith, length-drop (step_size l) l)))

-- One look more finds nothing more.
one_more : (l : Bytes)
    → pieces l ≡ (when is_whole l then take (step_size l) l ∷ pieces_from (length l) (drop (step_size l) l) else [])
unfolding pieces_from
one_more l = enough (length l) (suc (length l)) l (omega arith) (omega arith)

pub pieces_none : (l : Bytes) → is_whole l ≡ false → pieces l ≡ []
pieces_none l e = one_more l ∙ rw e

pub pieces_more : (l : Bytes) (n : ℕ) → Whole l n → pieces l ≡ take n l ∷ pieces (drop n l)
pieces_more l n w =
    one_more l
    ∙ rw (w.is_there, w.size) (ap (◌∷◌ (take (step_size l) l)) (enough (length l) (length (drop (step_size l) l)) (drop (step_size l) l) (omega (arith, length-drop (step_size l) l)) (omega arith)))

-- What is at the front of them is one step's bytes.
first_from : (n : ℕ) (l x : Bytes) (xs : List Bytes) → pieces_from n l ≡ x ∷ xs → IsPiece x
unfolding pieces_from
first_from zero l x xs e = cc
first_from (suc n) l x xs e = go (is_whole l) refl e
  where
    go : (b : Bool) → is_whole l ≡ b
        → (when b then take (step_size l) l ∷ pieces_from n (drop (step_size l) l) else []) ≡ x ∷ xs → IsPiece x
    go true i h =
        let s : take (step_size l) l ≡ x = cc in
        subst IsPiece s (front_piece l (step_size l) (whole_fits l i))
    go false i h = cc

pub first_piece : (l : Bytes) {x : Bytes} {xs : List Bytes} → pieces l ≡ x ∷ xs → IsPiece x
first_piece l {x} {xs} e = first_from (length l) l x xs e

-- The steps are those in their bytes.
steps_from_are : (n : ℕ) (l : Bytes) → steps_from n l ≡ map step_in (pieces_from n l)
unfolding steps_from pieces_from
steps_from_are zero l = refl
steps_from_are (suc n) l = go (is_whole l) refl (steps_from_are n (drop (step_size l) l))
  where
    go : (b : Bool) → is_whole l ≡ b
        → steps_from n (drop (step_size l) l) ≡ map step_in (pieces_from n (drop (step_size l) l))
        → (when b then step_in l ∷ steps_from n (drop (step_size l) l) else [])
        ≡ map step_in (when b then take (step_size l) l ∷ pieces_from n (drop (step_size l) l) else [])
    go true i h = rw (front_step l (step_size l) (whole_fits l i), h) refl
    go false i h = refl

pub steps_are : (l : Bytes) → steps l ≡ map step_in (pieces l)
steps_are l = steps_from_are (length l) l

-- The first step, and those behind it.
pub steps_more : (l : Bytes) (n : ℕ) → Whole l n → steps l ≡ step_in l ∷ steps (drop n l)
steps_more l n w =
    steps_are l
    ∙ ap (map step_in) (pieces_more l n w)
    ∙ ap (λ (x : Step). x ∷ map step_in (pieces (drop n l))) (front_step l n w)
    ∙ ap (◌∷◌ (step_in l)) (sym (steps_are (drop n l)))
