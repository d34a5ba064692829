-- Refusals 1 to 12 and 16, each with its number and its condition; 7 has one for writing and one for reading. Then the list of those
-- that a call or a question tests, read downwards. "The lowest number that applies is given", but 16 is "tested after 8 and before
-- 9"; and M-104's question tests 1 again after 6 (`Spare`).
use Rattle.std.specs.Prelude.{Bool, not, ◌&&◌, ◌||◌, List, [], ◌∷◌, ◌++◌, ℕ, eqb, ltb, length}
use Rattle.interface.specs.declared.Session.{Session}
use Rattle.lists.specs.Lists.{is_some}
use Rattle.sector.specs.Layout.{entry_limit}
use Rattle.sector.specs.Contents.{Bytes}
use Rattle.volume.specs.Places.{is_client, is_file, file_at}
use Rattle.volume.specs.Views.{View}
use Rattle.rules.specs.Sessions.{is_active, is_reading, is_read_by_other, holds, holds_either, session_fits}
use Rattle.rules.specs.Plans.{Call, begin, open_file, open_read, write, commit, abort, Query, read_page, look_page, entry_for, free_slots}

-- "another marked kiln holds f", for writing.
abbrev pub held_by_other : View → Session → ℕ → ℕ → Bool
held_by_other a s k f =
    let holder = (a.headers f).holder in
    not (eqb holder 0) && not (eqb holder k) && is_active s holder

-- Record k has "no entry yet" for (f, p).
abbrev pub is_new_page : View → ℕ → ℕ → ℕ → Bool
is_new_page a k f p = not (is_some (entry_for a k f p))

-- A refusal's number, and whether it applies.
abbrev pub Test : Type 0
Test = ℕ × Bool

-- "volume not sound". `ok`: it is.
abbrev pub not_sound : (ok : Bool) → Test
not_sound ok = (1, not ok)

-- "session marks a kiln above T, one whose record isn't open, or one whose record has an entry for a file whose header doesn't
-- name that kiln"; M-102: "also covers a reading hold of an unmarked kiln, of a file above F, or of a file whose header names a
-- holder".
abbrev pub bad_session : View → Session → Test
bad_session a s = (2, not (session_fits a s))

-- "kiln not 1 to T"
abbrev pub client_missing : View → ℕ → Test
client_missing a k = (3, not (is_client a.table k))

-- "begin: k marked"
abbrev pub already_active : Session → ℕ → Test
already_active s k = (4, is_active s k)

-- "other calls: k not marked"
abbrev pub not_active : Session → ℕ → Test
not_active s k = (5, not (is_active s k))

-- "file not 1 to F"
abbrev pub file_missing : View → ℕ → Test
file_missing a f = (6, not (is_file a.table f))

-- "open: another marked kiln holds f"; M-102: "also covers writing while another kiln reads".
abbrev pub file_in_use : View → Session → ℕ → ℕ → Test
file_in_use a s k f = (7, held_by_other a s k f || is_read_by_other s k f)

-- M-102: "and reading while another marked kiln writes".
abbrev pub file_has_writer : View → Session → ℕ → ℕ → Test
file_has_writer a s k f = (7, held_by_other a s k f)

-- "read, write: k doesn't hold f"; M-102: "accepts either hold".
abbrev pub not_held : View → Session → ℕ → ℕ → Test
not_held a s k f = (8, not (holds_either a s k f))

-- M-102: "a write to a file held only for reading".
abbrev pub read_only : View → Session → ℕ → ℕ → Test
read_only a s k f = (16, is_reading s k f && not (holds a k f))

-- "page not below P"
abbrev pub page_missing : View → ℕ → ℕ → Test
page_missing a f p = (9, not (ltb p (file_at a.table f).pages))

-- "write: data not 256 bytes"
abbrev pub bad_page_length : Bytes → Test
bad_page_length d = (10, not (eqb (length d) 256))

-- "write, no entry yet: no real as described"
abbrev pub no_free_slot : (is_new : Bool) → View → ℕ → ℕ → Test
no_free_slot is_new a k f = (11, is_new && eqb (length (free_slots a k f)) 0)

-- "write, no entry yet: C is 62"
abbrev pub record_full : (is_new : Bool) → View → ℕ → Test
record_full is_new a k = (12, is_new && eqb (length (a.records k).entries) entry_limit)

-- Of every client's call.
abbrev pub client_tests : (ok : Bool) → View → Session → ℕ → List Test
client_tests ok a s k = not_sound ok ∷ bad_session a s ∷ client_missing a k ∷ []

-- Of a client whose transaction is running.
abbrev pub active_tests : (ok : Bool) → View → Session → ℕ → List Test
active_tests ok a s k = client_tests ok a s k ++ (not_active s k ∷ [])

-- Of a file that a client opens for writing.
abbrev pub open_tests : View → Session → ℕ → ℕ → List Test
open_tests a s k f = file_missing a f ∷ file_in_use a s k f ∷ []

-- Of a file that it opens for reading.
abbrev pub open_read_tests : View → Session → ℕ → ℕ → List Test
open_read_tests a s k f = file_missing a f ∷ file_has_writer a s k f ∷ []

-- Of a file that it reads or writes.
abbrev pub held_tests : View → Session → ℕ → ℕ → List Test
held_tests a s k f = file_missing a f ∷ not_held a s k f ∷ []

-- Of a page that it reads.
abbrev pub read_tests : View → Session → ℕ → ℕ → ℕ → List Test
read_tests a s k f p = held_tests a s k f ++ (page_missing a f p ∷ [])

-- Of a page that it writes.
abbrev pub write_tests : View → Session → ℕ → ℕ → ℕ → List Test
write_tests a s k f p = held_tests a s k f ++ (read_only a s k f ∷ page_missing a f p ∷ [])

-- Of where a page that is written goes. `is_new`: it has no entry yet.
abbrev pub slot_tests : (is_new : Bool) → View → ℕ → ℕ → Bytes → List Test
slot_tests is_new a k f d = bad_page_length d ∷ no_free_slot is_new a k f ∷ record_full is_new a k ∷ []

-- M-103: "a look tests 1, 6 and 9". It has no client and no session.
abbrev pub look_tests : (ok : Bool) → View → (file : ℕ) → (page : ℕ) → List Test
look_tests ok a f p = not_sound ok ∷ file_missing a f ∷ page_missing a f p ∷ []

-- A call's tests.
unfoldable pub tests : (ok : Bool) → View → Session → Call → List Test
tests ok a s (begin k) = client_tests ok a s k ++ (already_active s k ∷ [])
tests ok a s (open_file k f) = active_tests ok a s k ++ open_tests a s k f
tests ok a s (open_read k f) = active_tests ok a s k ++ open_read_tests a s k f
tests ok a s (write k f p d) = active_tests ok a s k ++ (write_tests a s k f p ++ slot_tests (is_new_page a k f p) a k f d)
tests ok a s (commit k) = active_tests ok a s k
tests ok a s (abort k) = active_tests ok a s k

-- A question's.
unfoldable pub query_tests : (ok : Bool) → View → Session → Query → List Test
query_tests ok a s (read_page k f p) = active_tests ok a s k ++ read_tests a s k f p
query_tests ok a s (look_page f p) = look_tests ok a f p
