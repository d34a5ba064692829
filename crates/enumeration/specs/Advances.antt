-- An array is advanced to the next small volume; and a walk through all of them.
use Rattle.std.specs.Prelude.{◌≡◌, Result, Ok, Err, Option, Some, None, List, [], ◌∷◌, ℕ, zero, suc, ◌*◌, eqb, ltb, length, get_or, take, drop}
use Rattle.lists.specs.Lists.{when◌then◌else◌, filter}
use Rattle.volume.specs.Volumes.{Volume}
use Rattle.volume.specs.Sound.{sound}
use Rattle.enumeration.specs.declared.BadLength.{BadLength}
use Rattle.enumeration.specs.Choices.{small_table}
use Rattle.enumeration.specs.Small.{candidates, small_volumes}

-- The answer, and the array afterwards.
pub record Advanced : Type 0 where
  pub answer : Result (Option ℕ) BadLength
  pub volume : Volume

-- The array has another length than a small volume.
abbrev pub bad_length : BadLength
bad_length = record {}

-- The number of the first sound one of these volumes, if the first has number n; if none is sound, n and their number together.
unfoldable pub first_sound : ℕ → List Volume → ℕ
first_sound n [] = n
first_sound n (c ∷ cs) = when sound c then n else first_sound (suc n) cs

-- The number of the first sound candidate from number n on, if there is one.
unfoldable pub sound_from : (n : ℕ) → Option ℕ
sound_from n =
    when ltb (first_sound n (drop n candidates)) (length candidates) then Some (first_sound n (drop n candidates)) else None

-- The array becomes candidate i, and the next advance is to begin behind it; if there is no candidate i, nothing changes.
abbrev pub advance_to : Volume → (i : ℕ) → Advanced
advance_to v i =
    when ltb i (length candidates) then record { answer = Ok (Some (suc i)); volume = get_or candidates i [] }
    else record { answer = Ok None; volume = v }

-- From number n on: the array becomes the first candidate that is sound. An array of another length stays as it is.
unfoldable pub advance : Volume → (n : ℕ) → Advanced
advance v n =
    when eqb (length v) (256 * small_table.sectors) then advance_to v (first_sound n (drop n candidates))
    else record { answer = Err bad_length; volume = v }

-- The volume that an advance put into the array, and then those of the advances after it.
abbrev pub volumes_from : (later : Volume → ℕ → List Volume) → Result (Option ℕ) BadLength → Volume → List Volume
volumes_from later (Ok (Some n)) v = v ∷ later v n
volumes_from later (Ok None) v = []
volumes_from later (Err e) v = []

-- The volumes that so many advances put into the array v, the first from number n on and each next one from the number answered.
unfoldable pub walked : (times : ℕ) → Volume → (n : ℕ) → List Volume
walked zero v n = []
walked (suc times) v n = volumes_from (walked times) (advance v n).answer (advance v n).volume

-- ------------------------------------------------------------------ what is claimed
-- How many small volumes stand before candidate n.
abbrev pub passed : (n : ℕ) → ℕ
passed n = length (filter sound (take n candidates))

-- From any number on: the array becomes the small volume behind those passed, if there is one, and else stays as it is.
abbrev pub PutsNext : Type 0
PutsNext = (v : Volume) (n : ℕ) → length v ≡ 256 * small_table.sectors → advance v n
    ≡ (when ltb (passed n) (length small_volumes) then record {
      answer = Ok (Some (suc (first_sound n (drop n candidates))));
      volume = get_or small_volumes (passed n) [];
    } else record { answer = Ok None; volume = v })

-- So many advances put so many small volumes into the array, those behind the ones passed, in order; if there are fewer, all of
-- them. From number 0 on nothing is passed, and it is the list from its beginning.
abbrev pub Walks : Type 0
Walks = (v : Volume) → length v ≡ 256 * small_table.sectors → (times n : ℕ) → walked times v n ≡ take times (drop (passed n) small_volumes)
