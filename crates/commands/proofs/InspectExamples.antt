-- Examples of the lines that set or show the session: which holds there is room for, what a line adds, and what is shown; and of the
-- file that a question is about. The checker evaluates both sides.
use mathlib.Core.Path.{◌≡◌, refl}
use mathlib.Core.Bool.{true, false}
use mathlib.Core.List.{List, [], ◌∷◌, map}
use Prim.Native.Nat.{ℕ}
use Prim.Native.String.{String}
use lib.ListN.{replicate}
use Rattle.std.specs.Prelude.{Option, Some, None}
use Rattle.interface.specs.declared.Session.{Session}
use Rattle.interface.specs.Answers.{new_session, session_of}
use Rattle.interface.proofs.AnswerExamples.{marks}
use Rattle.byteset.specs.Bits.{with_bit}
use Rattle.volume.specs.Volumes.{Volume}
use Rattle.rules.specs.Sessions.{is_reading}
use Rattle.rules.specs.Spare.{spare}
use Rattle.script.specs.Fields.{from_field}
use Rattle.script.specs.Kinds.{bytes_of}
use Rattle.commands.specs.Inspect.{session_set, is_hold, reading_added, shows_hold, spare_asked}

-- "K 1 to 4, F 1 to 16"
room_for_holds : is_hold 1 1 ∷ is_hold 4 16 ∷ is_hold 0 1 ∷ is_hold 5 1 ∷ is_hold 1 0 ∷ is_hold 1 17 ∷ []
    ≡ true ∷ true ∷ false ∷ false ∷ false ∷ false ∷ []
room_for_holds = refl

-- Marks by their bits, and no hold.
sessions_set : map (λ l. session_set (bytes_of l)) ("session 10" ∷ "session 0" ∷ [])
    ≡ marks false true false true ∷ new_session ∷ []
unfolding from_field
sessions_set = refl

-- Clients 1 and 2 are active, with these words of holds.
abbrev session : List ℕ → Session
session words = session_of 3 words

-- What a line adds where client 1 reads file 2.
abbrev adds : String → Option Session
adds l = reading_added (session (2 ∷ 0 ∷ 0 ∷ 0 ∷ [])) (bytes_of l)

-- The hold is added to those there are, also of a client that isn't active; a client 0 or a file 0 is none.
lines_add : map adds ("reading 1 1" ∷ "reading 4 16" ∷ "reading 1 2" ∷ "reading 0 1" ∷ "reading 1 0" ∷ [])
    ≡ Some (session (3 ∷ 0 ∷ 0 ∷ 0 ∷ []))
    ∷ Some (session (2 ∷ 0 ∷ 0 ∷ 32768 ∷ []))
    ∷ Some (session (2 ∷ 0 ∷ 0 ∷ 0 ∷ []))
    ∷ None
    ∷ None
    ∷ []
unfolding reading_added from_field with_bit
lines_add = refl

-- Client 1 reads file 2, client 4 files 1 and 16. There is no client 0 or 5, and no file 0 or 17.
holds_shown : map (λ k. map (λ f. shows_hold (session (2 ∷ 0 ∷ 0 ∷ 0x8001 ∷ [])) k f) (0 ∷ 1 ∷ 2 ∷ 16 ∷ 17 ∷ [])) (0 ∷ 1 ∷ 2 ∷ 4 ∷ 5 ∷ [])
    ≡ replicate 5 false
    ∷ (false ∷ false ∷ true ∷ false ∷ false ∷ [])
    ∷ replicate 5 false
    ∷ (false ∷ true ∷ false ∷ true ∷ false ∷ [])
    ∷ replicate 5 false
    ∷ []
unfolding is_reading
holds_shown = refl

-- `spare F` asks about that file.
spares_asked : (v : Volume) → map (λ l. spare_asked v (bytes_of l)) ("spare 0" ∷ "spare 2" ∷ "spare 255" ∷ []) ≡ map (spare v) (0 ∷ 2 ∷ 255 ∷ [])
unfolding from_field
spares_asked v = refl
