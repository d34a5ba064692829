-- Searches for a slot: of an entry, and of a free one. Where the lowest number that a search in the set finds is r, the first of
-- all those that it doesn't pass over is r; a search from the start on and one from 0 on find the first of the slots tried.
use mathlib.Core.Path.{◌≡◌, refl, sym, ap, ◌∙◌}
use mathlib.Core.Bool.{Bool, true, false, cond, not, ◌&&◌, ◌||◌, and-false, or-false}
use mathlib.Core.List.{List, [], ◌∷◌, ◌++◌}
use mathlib.Core.Option.{Option, none, some}
use Prim.Native.Nat.{ℕ, ◌/◌, ◌<◌, ◌≤◌, zero-le}
use native.Mathlib.Omega.{arith}
use borrow.Author.Tests.{ltb-true, ltb-false, le-ltb, le-leb, lt-leb}
use lib.Dec.{eqb, leb, ltb}
use lib.ListN.{get_elem?, length}
use Rattle.std.specs.List.{find as code_find}
use Rattle.std.specs.Option.{option_map}
use Rattle.lists.specs.Lists.{when◌then◌else◌, any, filter, find, member, from}
use Rattle.sector.specs.Contents.{Entry}
use Rattle.sector.specs.Entries.{gives_slot}
use Rattle.lists.proofs.ListLaws.{or_right}
use Rattle.lists.proofs.SearchLaws.{none_some, first_append, filter_both, filter_none, filter_first}
use Rattle.lists.proofs.TestLaws.{not_or}
use Rattle.volume.specs.Places.{file_at}
use Rattle.volume.specs.Views.{View}
use Rattle.byteset.specs.Set.{no_bytes, has_byte, with_byte, passes_over, LowestFailing}
use Rattle.byteset.proofs.SetLaws.{has_none, has_with}
use Rattle.rules.specs.Plans.{is_free, free_slots, start_for, tried_from}
use Rattle.slots.specs.Slots.{slot_of, entry_slot}
use Rattle.std.specs.Prelude as code
use Rattle.std.specs.Prelude.{Some, None, IfSome, unwrap_or}

-- ------------------------------------------------------------------ the entry that was found
pub no_entry_lem : (o : Option Entry) → none ≡ entry_slot o → o ≡ none
unfolding entry_slot
no_entry_lem none e = refl
no_entry_lem (some x) e = none_some x.slot e

-- There is one, with this slot.
pub record EntryAt (o : Option Entry) (r : ℕ) : Type 0 where
  pub entry : Entry
  pub found : o ≡ some entry
  pub slot : entry.slot ≡ r

pub entry_at : (o : Option Entry) (r : ℕ) → some r ≡ entry_slot o → EntryAt o r
unfolding entry_slot
entry_at none r e = none_some r (sym e)
entry_at (some x) r e = record { entry = x; found = refl; slot = cc }

-- The kit's search finds the entry that the definitions' finds.
pub slot_found : (t : Entry → Bool) (es : List Entry) → slot_of (option_map (λ e. e.slot) (code_find t es)) ≡ entry_slot (find t es)
unfolding entry_slot
slot_found t [] = refl
slot_found t (e ∷ es) = go (t e) (slot_found t es)
  where
    go : (b : Bool) → slot_of (option_map (λ e. e.slot) (code_find t es)) ≡ entry_slot (find t es)
        → slot_of (option_map (λ e. e.slot) (cond b (Some e) (code_find t es))) ≡ entry_slot (when b then some e else find t es)
    go true h = refl
    go false h = h

-- ------------------------------------------------------------------ the slots taken
-- A slot more, in a set that holds any byte.
pub one_more : (s t : List ℕ) (x : ℕ) → length s ≡ 4 → x < 256 → t ≡ with_byte s x → (y : ℕ) → has_byte t y ≡ (eqb y x || has_byte s y)
one_more s t x l b e y = let room : x / 64 < length s = omega arith in rw e (has_with s x y room)

-- ------------------------------------------------------------------ the free slots
-- A slot from `start` on that is not in the set is one that the search doesn't pass over.
from_start : (start y : ℕ) (s : List ℕ) → (leb start y && not (has_byte s y)) ≡ not (passes_over start s y)
from_start start y s = go (has_byte s y) (ltb y start) refl
  where
    go : (b c : Bool) → ltb y start ≡ c → (leb start y && not b) ≡ not (b || c)
    go true c e = and-false (leb start y)
    go false true e = rw (lt-leb start y (ltb-true y start e))
    go false false e = rw (le-leb start y (ltb-false y start e))

-- A search from 0 on passes over what is in the set.
from_zero : (y : ℕ) (s : List ℕ) → passes_over 0 s y ≡ has_byte s y
from_zero y s = rw (le-ltb y 0 zero-le) (or-false (has_byte s y))

-- Where the set s has the slots of the map, and t those that are given too, the slots that are not in t are free.
module _ (a : View) (k f : ℕ) (s t : List ℕ) (mapped : (y : ℕ) → has_byte s y ≡ (has_byte no_bytes y || member y (a.headers f).map))
    (given : (y : ℕ) → has_byte t y ≡ (has_byte s y || any (gives_slot f y) (a.records k).entries))
    (p start n : ℕ) (size : n ≡ (file_at a.table f).slots) (begins : start ≡ start_for a f p) where
  -- The slots tried, as the numbers that pass these tests.
  abbrev up : ℕ → Bool
  up y = leb start y && not (has_byte t y)

  abbrev down : ℕ → Bool
  down y = ltb y start && not (has_byte t y)

  are_free : filter (λ y. not (has_byte t y)) (from 0 n) ≡ free_slots a k f
  unfolding free_slots
  are_free = rw size (ap (λ (u : ℕ → Bool). filter u (from 0 (file_at a.table f).slots)) (λ i y. (is y) i))
    where
      is : (y : ℕ) → not (has_byte t y) ≡ is_free a k f y
      is y = rw (given y, mapped y, has_none y) (not_or (member y (a.headers f).map) (any (gives_slot f y) (a.records k).entries))

  are_tried : tried_from (start_for a f p) (free_slots a k f) ≡ filter up (from 0 n) ++ filter down (from 0 n)
  are_tried = rw (← begins, ← are_free)
      (λ i. filter_both (leb start) (λ y. not (has_byte t y)) (from 0 n) i ++ filter_both (λ y. ltb y start) (λ y. not (has_byte t y)) (from 0 n) i)

  -- A search from `start` on finds r.
  pub free_above : (r : ℕ) → LowestFailing (passes_over start t) n r → r < n → some r ≡ get_elem? (tried_from (start_for a f p) (free_slots a k f)) 0
  free_above r high h = sym (rw are_tried (first_append (filter up (from 0 n)) (filter down (from 0 n)) r
      (filter_first up n 0 r (omega arith) (omega arith) (λ y lo hi. from_start start y t ∙ ap not (high.1 y hi))
      (from_start start r t ∙ ap not (high.2 h)))))

  -- It finds none, and q is what one from 0 on finds.
  module _ (q : ℕ) (high : LowestFailing (passes_over start t) n n) (low : LowestFailing (passes_over 0 t) n q) where
    none_above : filter up (from 0 n) ≡ []
    none_above = filter_none up n 0 (λ y lo hi. from_start start y t ∙ ap not (high.1 y (omega arith)))

    passed : (y : ℕ) → y < q → down y ≡ false
    passed y h = rw (sym (from_zero y t) ∙ low.1 y h) (and-false (ltb y start))

    pub free_again : q < n → some q ≡ get_elem? (tried_from (start_for a f p) (free_slots a k f)) 0
    free_again h =
        let free : has_byte t q ≡ false = sym (from_zero q t) ∙ low.2 h in
        let before : ltb q start ≡ true = or_right (has_byte t q) (ltb q start) (high.1 q (omega arith)) free in
        sym (rw (are_tried, none_above) (filter_first down n 0 q (omega arith) (omega arith) (λ y lo hi. passed y hi) (rw (before, free))))

    pub free_none : n ≤ q → none ≡ get_elem? (tried_from (start_for a f p) (free_slots a k f)) 0
    free_none h = rw (are_tried, none_above, filter_none down n 0 (λ y lo hi. passed y (omega arith)))

  -- What a search from `start` on finds, and where it finds none, what one from 0 on finds.
  pub free_found : (o last : code.Option ℕ) → LowestFailing (passes_over start t) n (unwrap_or o n) → IfSome o (λ r. r < n)
      → (o ≡ None → LowestFailing (passes_over 0 t) n (unwrap_or last n)) → (o ≡ None → IfSome last (λ q. q < n))
      → ((r : ℕ) → o ≡ Some r → last ≡ Some r) → slot_of last ≡ get_elem? (tried_from (start_for a f p) (free_slots a k f)) 0
  free_found (Some r) last high h low b same = rw (same r refl) (free_above r high h)
  free_found None (Some q) high h low b same = free_again q high (low refl) (b refl)
  free_found None None high h low b same = free_none n high (low refl) (omega arith)
