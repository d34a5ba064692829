-- An advance: which number is found from a number on, by what stands there; what is answered, by that number; and that a walk ends,
-- since each advance ends behind where it began.
use mathlib.Core.Path.{◌≡◌, refl}
use mathlib.Core.Bool.{Bool, true, false}
use mathlib.Core.List.{List, [], ◌∷◌}
use mathlib.Core.Logic.{◌≢◌}
use Prim.Native.Nat.{ℕ, suc, ◌+◌, ◌*◌, ◌≤◌, ◌<◌}
use native.Mathlib.Numerals.{add-one}
use native.Mathlib.Omega.{arith}
use borrow.Author.Tests.{ltb-true, ltb-false, eq-eqb, ne_eqb, lt-ltb, le-ltb}
use lib.Dec.{eqb, ltb}
use lib.ListN.{length, get_or, drop, drop_of_length-le}
use lib.Seq.{drop-cons}
use Rattle.lists.specs.Lists.{when◌then◌else◌}
use Rattle.lists.proofs.CaseLaws.{if_test}
use Rattle.volume.specs.Volumes.{Volume}
use Rattle.volume.specs.Sound.{sound}
use Rattle.std.specs.Prelude.{Result, Ok, Err, Option, Some, None}
use Rattle.enumeration.specs.declared.BadLength.{BadLength}
use Rattle.enumeration.specs.Choices.{small_table}
use Rattle.enumeration.specs.Small.{candidates}
use Rattle.enumeration.specs.Advances.{Advanced, bad_length, first_sound, sound_from, advance_to, advance}

-- ------------------------------------------------------------------ the number, from i on
module _ (i : ℕ) where
  pub number_here : i < length candidates → sound (get_or candidates i []) ≡ true → first_sound i (drop i candidates) ≡ i
  unfolding first_sound
  number_here lt e = rw (drop-cons candidates i [] lt, e)

  pub number_later : i < length candidates → sound (get_or candidates i []) ≡ false
      → first_sound i (drop i candidates) ≡ first_sound (i + 1) (drop (i + 1) candidates)
  unfolding first_sound
  number_later lt e = rw (drop-cons candidates i [] lt, e, add-one i)

  pub number_end : length candidates ≤ i → first_sound i (drop i candidates) ≡ i
  unfolding first_sound
  number_end le = rw (drop_of_length-le candidates {i = i} le)

-- As what the search answers.
module _ (n i : ℕ) (e : first_sound i (drop i candidates) ≡ first_sound n (drop n candidates)) where
  pub found_here : i < length candidates → sound (get_or candidates i []) ≡ true → Some i ≡ sound_from n
  unfolding sound_from
  found_here lt ok = rw (← e, number_here i lt ok, lt-ltb _ _ lt)

  pub found_none : length candidates ≤ i → None ≡ sound_from n
  unfolding sound_from
  found_none le = rw (← e, number_end i le, le-ltb _ _ le)

pub found_some : (n i : ℕ) → Some i ≡ sound_from n → (i ≡ first_sound n (drop n candidates)) × (i < length candidates)
unfolding sound_from
found_some n i e = go (ltb (first_sound n (drop n candidates)) (length candidates)) refl e
  where
    go : (b : Bool) → ltb (first_sound n (drop n candidates)) (length candidates) ≡ b → Some i ≡ (when b then Some (first_sound n (drop n candidates)) else None)
        → (i ≡ first_sound n (drop n candidates)) × (i < length candidates)
    go true t e = let same : i ≡ first_sound n (drop n candidates) = cc in (same, rw same (ltb-true _ _ t))
    go false t e = absurd (cc)

pub found_end : (n : ℕ) → None ≡ sound_from n → length candidates ≤ first_sound n (drop n candidates)
unfolding sound_from
found_end n e = go (ltb (first_sound n (drop n candidates)) (length candidates)) refl e
  where
    go : (b : Bool) → ltb (first_sound n (drop n candidates)) (length candidates) ≡ b → None ≡ (when b then Some (first_sound n (drop n candidates)) else None)
        → length candidates ≤ first_sound n (drop n candidates)
    go true t e = absurd (cc)
    go false t e = ltb-false _ _ t

number_low : (cs : List Volume) (n : ℕ) → n ≤ first_sound n cs
unfolding first_sound
number_low [] n = omega arith
number_low (c ∷ cs) n = go (sound c) (number_low cs (suc n))
  where
    go : (b : Bool) → suc n ≤ first_sound (suc n) cs → n ≤ (when b then n else first_sound (suc n) cs)
    go true h = omega arith
    go false h = omega arith

-- ------------------------------------------------------------------ an advance
module _ (v : Volume) (n : ℕ) where
  pub advance_fits : length v ≡ 256 * small_table.sectors → advance v n ≡ advance_to v (first_sound n (drop n candidates))
  unfolding advance
  advance_fits fits = rw (eq-eqb _ _ fits)

  pub advance_refuses : length v ≢ 256 * small_table.sectors → record { answer = Err bad_length; volume = v } ≡ advance v n
  unfolding advance
  advance_refuses ne = rw (ne_eqb _ _ ne)

  -- By what the search answers.
  module _ (fits : length v ≡ 256 * small_table.sectors) where
    pub advance_to_lem : (i : ℕ) (w : Volume) → Some i ≡ sound_from n → w ≡ get_or candidates i [] → record { answer = Ok (Some (i + 1)); volume = w } ≡ advance v n
    advance_to_lem i w e q =
        let found = found_some n i e in
        rw (advance_fits fits, ← found.0, lt-ltb _ _ found.1, q, add-one i)

    pub advance_ends : None ≡ sound_from n → record { answer = Ok None; volume = v } ≡ advance v n
    advance_ends e = rw (advance_fits fits, le-ltb _ _ (found_end n e))

-- An advance from number n on ends behind it, and not past the last candidate.
abbrev pub GoesOn : ℕ → Result (Option ℕ) BadLength → Type 0
GoesOn n (Ok (Some m)) = (n < m) × (m ≤ length candidates)
GoesOn n (Ok None) = Unit {0}
GoesOn n (Err e) = Unit {0}

pub advance_goes_on : (v : Volume) (n : ℕ) → GoesOn n (advance v n).answer
unfolding advance
advance_goes_on v n =
    let i = first_sound n (drop n candidates) in
    let P : Advanced → Type 0 = λ s. GoesOn n s.answer in
    if_test P (eqb (length v) (256 * small_table.sectors)) (advance_to v i) (record { answer = Err bad_length; volume = v })
    (λ _. if_test P (ltb i (length candidates)) (record { answer = Ok (Some (suc i)); volume = get_or candidates i [] }) (record { answer = Ok None; volume = v })
    (λ e. (omega (arith, number_low (drop n candidates) n), omega (arith, ltb-true i (length candidates) e)))
    (λ _. tt))
    (λ _. tt)
