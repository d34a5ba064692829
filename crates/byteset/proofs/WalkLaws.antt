-- A walk over numbers with the set of those seen. What is left decides whether all are distinct: those left are, and none of
-- them was seen; and what was seen or is left is what the list has, so at the end the set has the list's numbers.
use mathlib.Core.Path.{◌≡◌, refl, sym, ◌∙◌}
use mathlib.Core.Bool.{Bool, true, false, not, ◌&&◌, ◌||◌, and_assoc, and_comm, or-false}
use mathlib.Core.List.{List, [], ◌∷◌}
use Prim.Native.Nat.{ℕ, ◌/◌, ◌<◌}
use lib.Dec.{eqb}
use lib.ListN.{length}
use Rattle.lists.specs.Lists.{every, distinct, member}
use Rattle.lists.proofs.CaseLaws.{eqb_sym, or_turn}
use Rattle.byteset.specs.Set.{has_byte, with_byte, Holds}
use Rattle.byteset.proofs.SetLaws.{has_with}

-- None of the numbers is in the set.
abbrev unseen : List ℕ → List ℕ → Bool
unseen s l = every (λ y. not (has_byte s y)) l

-- Of the numbers l the set s has those before `left`.
pub record Walk (l s left : List ℕ) : Type 0 where
  pub decides : distinct eqb l ≡ (unseen s left && distinct eqb left)
  pub holds : (y : ℕ) → (has_byte s y || member y left) ≡ member y l

pub walk_none : (l s : List ℕ) → ((y : ℕ) → has_byte s y ≡ false) → Walk l s l
walk_none l s e = record { decides = rw (none l); holds = λ y. rw (e y) }
  where
    none : (m : List ℕ) → unseen s m ≡ true
    none [] = refl
    none (x ∷ m) = rw (e x, none m)

unseen_more : (s : List ℕ) (x : ℕ) (l : List ℕ) → x / 64 < length s → unseen (with_byte s x) l ≡ (not (member x l) && unseen s l)
unseen_more s x [] room = refl
unseen_more s x (y ∷ l) room =
    rw (unseen_more s x l room, has_with s x y room, eqb_sym y x) (swap (eqb x y) (has_byte s y) (member x l) (unseen s l))
  where
    swap : (a b c e : Bool) → (not (a || b) && (not c && e)) ≡ (not (a || c) && (not b && e))
    swap true b c e = refl
    swap false true true e = refl
    swap false true false e = refl
    swap false false c e = refl

-- A turn takes x off.
module _ {l s : List ℕ} (x : ℕ) (left : List ℕ) (w : Walk l s (x ∷ left)) where
  pub walk_seen : not (has_byte s x) ≡ false → distinct eqb l ≡ false
  walk_seen e = w.decides ∙ rw e

  pub walk_more : not (has_byte s x) ≡ true → x / 64 < length s → Walk l (with_byte s x) left
  walk_more e room = record {
    decides = w.decides ∙ rw (e, unseen_more s x left room) (swap (unseen s left) (not (member x left)) (distinct eqb left));
    holds = λ y. rw (has_with s x y room) (or_turn (eqb y x) (has_byte s y) (member y left)) ∙ w.holds y;
  }
    where
      swap : (a b c : Bool) → (a && (b && c)) ≡ ((b && a) && c)
      swap a b c = sym (and_assoc a b c) ∙ rw (and_comm a b)

pub walk_done : {l s : List ℕ} → Walk l s [] → (distinct eqb l ≡ true) × Holds s l
walk_done {l} {s} w = (w.decides, λ y. sym (or-false (has_byte s y)) ∙ w.holds y)
