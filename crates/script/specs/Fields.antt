-- The fields of a line: "a word and decimal numbers separated by single spaces". A field is what stands between two
-- spaces; field 0 is the word, field i is argument i.
use Rattle.std.specs.Prelude.{Bool, ◌&&◌, ◌||◌, [], ◌∷◌, ℕ, zero, suc, ◌+◌, ◌*◌, ◌-◌, min, eqb, get_or, drop}
use Rattle.lists.specs.Lists.{when◌then◌else◌, between}
use Rattle.sector.specs.Contents.{Bytes}

-- 20: a space
abbrev pub is_space : ℕ → Bool
is_space c = eqb c 0x20

-- 30 to 39: a digit
abbrev pub is_digit : ℕ → Bool
is_digit c = between 48 c 57

-- 1 for a space
abbrev pub spaces : ℕ → ℕ
spaces c = when is_space c then 1 else 0

-- The number of arguments: one behind each space.
abbrev pub arguments : Bytes → ℕ
arguments [] = 0
arguments (c ∷ l) = spaces c + arguments l

-- What stands before the first space.
abbrev pub before_space : Bytes → Bytes
before_space [] = []
before_space (c ∷ l) = when is_space c then [] else c ∷ before_space l

-- What stands behind the first space, or nothing.
abbrev pub behind_space : Bytes → Bytes
behind_space [] = []
behind_space (c ∷ l) = when is_space c then l else behind_space l

-- The line from field i on.
unfoldable pub from_field : ℕ → Bytes → Bytes
from_field zero l = l
from_field (suc i) l = behind_space (from_field i l)

-- The value of a field that is no number, and of any number that is larger: no line takes so large an argument.
abbrev pub too_large : ℕ
too_large = 1000000

-- The decimal number up to the next space, behind digits with the value n.
abbrev pub digits_from : ℕ → Bytes → ℕ
digits_from n [] = n
digits_from n (c ∷ l) =
    when is_space c then n
    else when is_digit c then digits_from (min (10 * n + (c - 48)) too_large) l
    else too_large

-- The byte at the front; behind the end of a line it is a space.
abbrev pub front : Bytes → ℕ
front l = get_or l 0 0x20

-- The number at the front: one digit or more, up to the next space.
abbrev pub number : Bytes → ℕ
number l = when is_space (front l) then too_large else digits_from 0 l

-- Argument i, counted from 1.
abbrev pub argument : ℕ → Bytes → ℕ
argument i l = number (from_field i l)

-- The line's word is this one, up to its first space.
abbrev pub has_word : Bytes → Bytes → Bool
has_word [] l = is_space (front l)
has_word (x ∷ w) l = eqb (front l) x && (is_space x || has_word w (drop 1 l))
