-- The sessions and views that the examples evaluate the definitions at. Nothing is claimed here.
use mathlib.Core.Bool.{true, false}
use mathlib.Core.List.{List, [], ◌∷◌}
use Prim.Native.Nat.{ℕ}
use lib.Dec.{eqb}
use Rattle.interface.specs.declared.Session.{Session}
pub use Rattle.interface.proofs.AnswerExamples.{marks}
use Rattle.lists.specs.Lists.{when◌then◌else◌}
use Rattle.sector.specs.Contents.{Bytes, Table, Record, Header, idle_record}
use Rattle.volume.specs.Views.{View, no_header}
pub use Rattle.volume.proofs.PlaceExamples.{entry, rec, header}

-- The session with these words of reading holds: bit 0 of the first is client 1's of file 1.
abbrev pub reads : Session → List ℕ → Session
reads s words = record { active = s.active; reading = words }

-- One client alone.
abbrev pub active1 : Session
active1 = marks true false false false

abbrev pub active2 : Session
active2 = marks false true false false

abbrev pub active3 : Session
active3 = marks false false true false

abbrev pub active4 : Session
active4 = marks false false false true

-- Clients 1 and 2.
abbrev pub active12 : Session
active12 = marks true true false false

-- A view of two files, with their headers.
abbrev pub view_of : Table → (ℕ → Record) → Header → Header → (ℕ → ℕ → Bytes) → View
view_of t records h1 h2 slots = record {
  table = t;
  records = records;
  headers = λ f. when eqb f 1 then h1 else when eqb f 2 then h2 else no_header;
  slots = slots;
}

-- Four clients; file 1 has 3 pages and 6 slots, file 2 a page and 3 slots.
abbrev pub table : Table
table = record { sectors = 20; clients = 4; files = record { pages = 3; slots = 6 } ∷ record { pages = 1; slots = 3 } ∷ [] }

-- Slot r of file f has the bytes f, r.
abbrev pub seen : (ℕ → Record) → Header → Header → View
seen records h1 h2 = view_of table records h1 h2 (λ f r. f ∷ r ∷ [])

-- Client 1's transaction is in this state: it holds both files, page 1 of file 1 is in slot 4 and page 0 of file 2 in slot 2.
-- Client 2's is decided, holds nothing, and gives slot 0 for page 0 and slot 3 for page 1 of file 1. Clients 3 and 4 are idle.
abbrev pub records : (state : ℕ) → ℕ → Record
records state k =
    when eqb k 1 then rec state (entry 1 1 4 ∷ entry 2 0 2 ∷ [])
    else when eqb k 2 then rec 2 (entry 1 0 0 ∷ entry 1 1 3 ∷ [])
    else idle_record

abbrev pub at : (state : ℕ) → View
at state = seen (records state) (header 1 (1 ∷ 5 ∷ 2 ∷ [])) (header 1 (0 ∷ []))
