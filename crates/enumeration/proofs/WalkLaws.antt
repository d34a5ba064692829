-- A walk meets the small volumes behind those passed, in order and no other: what is left from a number on begins with the candidate
-- that is found there. By induction on the candidates that are left, and on the number of advances.
use mathlib.Core.Path.{◌≡◌, refl, sym, ap, ◌∙◌}
use mathlib.Core.List.{List, [], ◌∷◌}
use Prim.Native.Nat.{ℕ, zero, suc, ◌*◌, ◌≤◌, ◌<◌}
use native.Mathlib.Nat.{add-zero}
use native.Mathlib.Omega.{arith}
use borrow.Author.Tests.{ltb-true, lt-ltb, le-ltb}
use lib.Dec.{ltb}
use lib.ListN.{length, get_or, take, drop, length-drop}
use lib.Seq.{drop-cons, get_or-drop}
use Rattle.lists.specs.Lists.{when◌then◌else◌, filter}
use Rattle.lists.proofs.CaseLaws.{by_test}
use Rattle.volume.specs.Volumes.{Volume}
use Rattle.volume.specs.Sound.{sound}
use Rattle.enumeration.specs.Choices.{small_table}
use Rattle.enumeration.specs.Small.{candidates, small_volumes}
use Rattle.enumeration.specs.Advances.{Advanced, first_sound, advance_to, volumes_from, walked, passed, PutsNext, Walks}
use Rattle.enumeration.proofs.MemberLaws.{in_at}
use Rattle.enumeration.proofs.CountLaws.{candidate_length}
use Rattle.enumeration.proofs.AdvanceLaws.{advance_fits}

-- ------------------------------------------------------------------ what is left
-- By the number that is found.
left_at : ℕ → List Volume
left_at i = when ltb i (length candidates) then get_or candidates i [] ∷ filter sound (drop (suc i) candidates) else []

left_found : (cs : List Volume) (n : ℕ) → drop n candidates ≡ cs → filter sound cs ≡ left_at (first_sound n cs)
unfolding first_sound left_at
left_found [] n e =
    let over : length candidates ≤ n = omega (arith, length-drop n candidates, ap length e) in
    rw (le-ltb _ _ over)
left_found (c ∷ cs) n e =
    let lt : n < length candidates = omega (arith, length-drop n candidates, ap length e) in
    let here : get_or candidates n [] ∷ drop (suc n) candidates ≡ c ∷ cs = sym (drop-cons candidates n [] lt) ∙ e in
    let head : get_or candidates n [] ≡ c = ap (λ (l : List Volume). get_or l 0 []) here in
    let tail : drop (suc n) candidates ≡ cs = ap (λ (l : List Volume). drop 1 l) here in
    by_test (sound c) (λ t. rw (t, lt-ltb n (length candidates) lt, head, tail)) (λ t. rw t (left_found cs (suc n) tail))

-- It is what stands behind those passed.
passed_drop : (n : ℕ) (l : List Volume) → drop (length (filter sound (take n l))) (filter sound l) ≡ filter sound (drop n l)
passed_drop zero l = refl
passed_drop (suc n) [] = refl
passed_drop (suc n) (c ∷ l) = by_test (sound c) (λ t. rw t (passed_drop n l)) (λ t. rw t (passed_drop n l))

behind : (n : ℕ) → drop (passed n) small_volumes ≡ filter sound (drop n candidates)
unfolding small_volumes
behind n = passed_drop n candidates

left_behind : (n : ℕ) → drop (passed n) small_volumes ≡ left_at (first_sound n (drop n candidates))
left_behind n = behind n ∙ left_found (drop n candidates) n refl

-- ------------------------------------------------------------------ one advance
pub puts_next : PutsNext
unfolding left_at
puts_next v n fits =
    let i = first_sound n (drop n candidates) in
    let left = left_behind n in
    let size = length-drop (passed n) small_volumes in
    let at : get_or (drop (passed n) small_volumes) 0 [] ≡ get_or small_volumes (passed n) [] = rw (add-zero (passed n)) at (get_or-drop (passed n) small_volumes 0 []) in
    advance_fits v n fits ∙ by_test (ltb i (length candidates))
    (λ t.
    let some : drop (passed n) small_volumes ≡ get_or candidates i [] ∷ filter sound (drop (suc i) candidates) = rw t at left in
    let more : passed n < length small_volumes = omega (arith, size, ap length some) in
    rw (t, lt-ltb (passed n) (length small_volumes) more, ← at, some))
    (λ t.
    let none : drop (passed n) small_volumes ≡ [] = rw t at left in
    let over : length small_volumes ≤ passed n = omega (arith, size, ap length none) in
    rw (t, le-ltb (passed n) (length small_volumes) over))

-- ------------------------------------------------------------------ a walk
pub walks : Walks
unfolding walked left_at
walks v fits zero n = refl
walks v fits (suc times) n =
    ap (λ (s : Advanced). volumes_from (walked times) s.answer s.volume) (advance_fits v n fits)
    ∙ (go (λ i w full. walks w full times (suc i)) (first_sound n (drop n candidates)) ∙ ap (take (suc times)) (sym (left_behind n)))
  where
    go : ((i : ℕ) (w : Volume) → length w ≡ 256 * small_table.sectors → walked times w (suc i) ≡ take times (drop (passed (suc i)) small_volumes))
        → (i : ℕ) → volumes_from (walked times) (advance_to v i).answer (advance_to v i).volume ≡ take (suc times) (left_at i)
    go later i = by_test (ltb i (length candidates))
        (λ t.
        let full = candidate_length (get_or candidates i []) (in_at candidates i [] (ltb-true i (length candidates) t)) in
        rw t (ap (λ (l : List Volume). get_or candidates i [] ∷ l) (later i (get_or candidates i []) full ∙ ap (take times) (behind (suc i)))))
        (λ t. rw t)
