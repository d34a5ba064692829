-- A session comes back from the byte of its marks and from its reading holds, by the sixteen cases of the marks.
use mathlib.Core.Bool.{Bool, true, false}
use mathlib.Core.List.{List, [], ◌∷◌}
use mathlib.Core.Path.{◌≡◌, refl}
use native.Mathlib.Omega.{arith}
use Prim.Native.Nat.{ℕ}
use lib.ListN.{length}
use Rattle.interface.specs.declared.Session.{Session}
use Rattle.interface.specs.Answers.{session_of, marks_byte}

-- The session with these marks and reading holds.
abbrev marked : List Bool → List ℕ → Session
marked l w = record { active = l; reading = w }

four_back : (a b c d : Bool) (w : List ℕ) → session_of (marks_byte (marked (a ∷ b ∷ c ∷ d ∷ []) w)) w ≡ marked (a ∷ b ∷ c ∷ d ∷ []) w
four_back false false false false w = refl
four_back true false false false w = refl
four_back false true false false w = refl
four_back true true false false w = refl
four_back false false true false w = refl
four_back true false true false w = refl
four_back false true true false w = refl
four_back true true true false w = refl
four_back false false false true w = refl
four_back true false false true w = refl
four_back false true false true w = refl
four_back true true false true w = refl
four_back false false true true w = refl
four_back true false true true w = refl
four_back false true true true w = refl
four_back true true true true w = refl

list_back : (l : List Bool) (w : List ℕ) → length l ≡ 4 → session_of (marks_byte (marked l w)) w ≡ marked l w
list_back [] w e = absurd (omega arith)
list_back (a ∷ []) w e = absurd (omega arith)
list_back (a ∷ b ∷ []) w e = absurd (omega arith)
list_back (a ∷ b ∷ c ∷ []) w e = absurd (omega arith)
list_back (a ∷ b ∷ c ∷ d ∷ []) w e = four_back a b c d w
list_back (a ∷ b ∷ c ∷ d ∷ x ∷ l) w e = absurd (omega arith)

pub session_back : (s : Session) → length s.active ≡ 4 → session_of (marks_byte s) s.reading ≡ s
session_back s e = list_back s.active s.reading e
