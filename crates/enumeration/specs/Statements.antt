-- What is claimed of the list. What is claimed of a walk through it is in `Advances`.
use Rattle.std.specs.Prelude.{◌≡◌, Bool, true, false, ◌&&◌, ◌||◌, [], ◌∷◌, ◌++◌, ◌≢◌, ℕ, ◌<◌, eqb, ltb, length, get_or}
use Rattle.sector.specs.Contents.{Bytes}
use Rattle.volume.specs.Places.{record_place, header_place}
use Rattle.volume.specs.Volumes.{Volume, bytes_at}
use Rattle.enumeration.specs.Lists.{In}
use Rattle.enumeration.specs.Choices.{small_table}
use Rattle.enumeration.specs.Small.{IsSmall, small_volumes}

-- "The set is to be shown complete."
abbrev pub Complete : Type 0
Complete = (v : Volume) → IsSmall v → In v small_volumes

-- No other volume is in it.
abbrev pub Only : Type 0
Only = (v : Volume) → In v small_volumes → IsSmall v

-- The order of bytes: at the first place where they differ the byte is less; where one list ends first, that one comes first.
abbrev pub precedes : Bytes → Bytes → Bool
precedes [] [] = false
precedes [] (y ∷ ys) = true
precedes (x ∷ xs) [] = false
precedes (x ∷ xs) (y ∷ ys) = ltb x y || (eqb x y && precedes xs ys)

-- "the bytes of the record sector and then of the header sector"
abbrev pub order_bytes : Volume → Bytes
order_bytes v = bytes_at small_table v (record_place 1) ++ bytes_at small_table v (header_place 1)

-- "ordered by" these: each comes before every later one.
abbrev pub InOrder : Type 0
InOrder = (i j : ℕ) → i < j → j < length small_volumes
    → precedes (order_bytes (get_or small_volumes i [])) (order_bytes (get_or small_volumes j [])) ≡ true

-- "each exactly once"
abbrev pub Once : Type 0
Once = (i j : ℕ) → i < j → j < length small_volumes → get_or small_volumes i [] ≢ get_or small_volumes j []

-- "There are 270 by the rules of 01."
abbrev pub Counted : Type 0
Counted = length small_volumes ≡ 270
