-- Examples of `Refusals`: the numbers of each call's list and their order, and every condition where it applies and where it
-- doesn't, at its limit. The checker evaluates both sides.
use mathlib.Core.Path.{◌≡◌, refl}
use mathlib.Core.Bool.{Bool, true, false}
use mathlib.Core.List.{List, [], ◌∷◌, ◌++◌, map}
use Prim.Native.Nat.{ℕ, ◌+◌}
use lib.Dec.{eqb}
use lib.ListN.{replicate}
use Rattle.interface.specs.declared.Session.{Session}
use Rattle.interface.specs.Answers.{new_session}
use Rattle.lists.specs.Lists.{when◌then◌else◌, all, first, filter, member, from}
use Rattle.sector.specs.Contents.{Bytes, Entry, idle_record, open_record}
use Rattle.volume.specs.Places.{sector_after}
use Rattle.volume.specs.Views.{View, no_header}
use Rattle.volume.specs.Lawful.{lawful}
use Rattle.rules.specs.Sessions.{is_reading, is_read_by_other, mark_fits, hold_fits, client_holds_fit, session_fits}
use Rattle.rules.specs.Plans.{begin, open_file, open_read, write, commit, abort, read_page, look_page, free_slots}
use Rattle.rules.specs.Refusals.{held_by_other, page_missing, is_new_page, tests, query_tests}
use Rattle.rules.proofs.ExampleViews.{marks, reads, active1, active2, active3, active12, entry, rec, header, view_of, seen, records, at}

-- ------------------------------------------------------------------ conditions
-- "another marked kiln holds f": client 1 holds file 1. Asked for 1 and for 2, with client 1 marked and not.
held_by_other_lem : held_by_other (at 1) active1 1 1 ∷ held_by_other (at 1) active1 2 1 ∷ held_by_other (at 1) new_session 2 1
    ∷ held_by_other (at 1) active2 2 1 ∷ []
    ≡ false ∷ true ∷ false ∷ false ∷ []
held_by_other_lem = refl

-- Holder 0 is nobody.
held_by_nobody : held_by_other (seen (records 1) (header 0 []) no_header) active12 2 1 ≡ false
held_by_nobody = refl

-- "page not below P"
no_page : map (λ p. (page_missing (at 1) 1 p).1) (2 ∷ 3 ∷ []) ≡ false ∷ true ∷ []
no_page = refl

new_page : is_new_page (at 1) 1 1 1 ∷ is_new_page (at 1) 1 1 0 ∷ is_new_page (at 1) 2 1 0 ∷ [] ≡ false ∷ true ∷ false ∷ []
new_page = refl

-- ------------------------------------------------------------------ the lists
-- The numbers of a list of refusals, and those that apply.
abbrev numbers : List (ℕ × Bool) → List ℕ
numbers = map (λ x. x.0)

abbrev applying : List (ℕ × Bool) → List ℕ
applying xs = numbers (filter (λ x. x.1) xs)

-- "The lowest number that applies is given": each list rises, but for 16, "tested after 8 and before 9". "Begin, commit and abort
-- have no file or page."
numbers_tested : (ok : Bool) (a : View) (s : Session) (k f p : ℕ) (d : Bytes)
    → map (λ q. numbers (query_tests ok a s q)) (read_page k f p ∷ look_page f p ∷ [])
    ++ map (λ c. numbers (tests ok a s c)) (write k f p d ∷ open_file k f ∷ open_read k f ∷ begin k ∷ commit k ∷ abort k ∷ [])
    ≡ (1 ∷ 2 ∷ 3 ∷ 5 ∷ 6 ∷ 8 ∷ 9 ∷ [])
    ∷ (1 ∷ 6 ∷ 9 ∷ [])
    ∷ (1 ∷ 2 ∷ 3 ∷ 5 ∷ 6 ∷ 8 ∷ 16 ∷ 9 ∷ 10 ∷ 11 ∷ 12 ∷ [])
    ∷ (1 ∷ 2 ∷ 3 ∷ 5 ∷ 6 ∷ 7 ∷ [])
    ∷ (1 ∷ 2 ∷ 3 ∷ 5 ∷ 6 ∷ 7 ∷ [])
    ∷ (1 ∷ 2 ∷ 3 ∷ 4 ∷ [])
    ∷ (1 ∷ 2 ∷ 3 ∷ 5 ∷ [])
    ∷ (1 ∷ 2 ∷ 3 ∷ 5 ∷ [])
    ∷ []
unfolding tests query_tests
numbers_tested ok a s k f p d = refl

abbrev whole : Bytes
whole = replicate 256 7

-- What applies at `at 1` to client k's read, open, open for reading, write, commit and abort, and last to client j's begin.
abbrev applying_to : (ok : Bool) → Session → (k : ℕ) → (j : ℕ) → List (List ℕ)
applying_to ok s k j =
    applying (query_tests ok (at 1) s (read_page k 1 2))
    ∷ map (λ c. applying (tests ok (at 1) s c)) (open_file k 1 ∷ open_read k 1 ∷ write k 1 0 whole ∷ commit k ∷ abort k ∷ begin j ∷ [])

-- None applies; on a volume that isn't sound 1 alone; with client 2 marked, whose record is decided, 2 alone.
none_applies : applying_to true active1 1 4 ≡ replicate 7 []
unfolding tests query_tests session_fits mark_fits client_holds_fit is_reading is_read_by_other free_slots all
none_applies = refl

one_applies : applying_to false active1 1 4 ≡ replicate 7 (1 ∷ [])
unfolding tests query_tests session_fits mark_fits client_holds_fit is_reading is_read_by_other free_slots all
one_applies = refl

two_applies : applying_to true active12 1 4 ≡ replicate 7 (2 ∷ [])
unfolding tests query_tests session_fits mark_fits client_holds_fit is_reading is_read_by_other free_slots all
two_applies = refl

-- 3: client 0, whose mark is read as client 1's. Client 1 holds file 1, so that 7 or 8 applies too.
client_0 : applying_to true active1 0 0 ≡ (3 ∷ 8 ∷ []) ∷ (3 ∷ 7 ∷ []) ∷ (3 ∷ 7 ∷ []) ∷ (3 ∷ 8 ∷ []) ∷ (3 ∷ []) ∷ (3 ∷ []) ∷ (3 ∷ 4 ∷ []) ∷ []
unfolding tests query_tests session_fits mark_fits client_holds_fit is_reading is_read_by_other free_slots all
client_0 = refl

-- 3 and 5: a client above T.
client_5 : applying_to true active1 5 5
    ≡ (3 ∷ 5 ∷ 8 ∷ []) ∷ (3 ∷ 5 ∷ 7 ∷ []) ∷ (3 ∷ 5 ∷ 7 ∷ []) ∷ (3 ∷ 5 ∷ 8 ∷ []) ∷ (3 ∷ 5 ∷ []) ∷ (3 ∷ 5 ∷ []) ∷ (3 ∷ []) ∷ []
unfolding tests query_tests session_fits mark_fits client_holds_fit is_reading is_read_by_other free_slots all
client_5 = refl

-- 5 and 4: client 4, which isn't marked; client 1 begins, which is.
client_4 : applying_to true active1 4 1 ≡ (5 ∷ 8 ∷ []) ∷ (5 ∷ 7 ∷ []) ∷ (5 ∷ 7 ∷ []) ∷ (5 ∷ 8 ∷ []) ∷ (5 ∷ []) ∷ (5 ∷ []) ∷ (4 ∷ []) ∷ []
unfolding tests query_tests session_fits mark_fits client_holds_fit is_reading is_read_by_other free_slots all
client_4 = refl

-- Clients 1 and 3 have begun, and client 1 holds file 1.
abbrev at3 : View
at3 = seen (λ k. when member k (1 ∷ 3 ∷ []) then open_record else idle_record) (header 1 (1 ∷ 5 ∷ 2 ∷ [])) (header 0 (0 ∷ []))

-- 6 and 7 of client 3's open: file 3; file 2, which nobody holds; file 1, which client 1 holds, not marked and marked.
open_refused : map (λ f. applying (tests true at3 active3 (open_file 3 f))) (3 ∷ 2 ∷ 1 ∷ [])
    ++ (applying (tests true at3 (marks true false true false) (open_file 3 1)) ∷ [])
    ≡ (6 ∷ []) ∷ [] ∷ [] ∷ (7 ∷ []) ∷ []
unfolding tests session_fits mark_fits client_holds_fit is_reading is_read_by_other all
open_refused = refl

-- The same of its open for reading.
open_read_refused : map (λ f. applying (tests true at3 active3 (open_read 3 f))) (3 ∷ 2 ∷ 1 ∷ [])
    ++ (applying (tests true at3 (marks true false true false) (open_read 3 1)) ∷ [])
    ≡ (6 ∷ []) ∷ [] ∷ [] ∷ (7 ∷ []) ∷ []
unfolding tests session_fits mark_fits client_holds_fit is_reading all
open_read_refused = refl

-- It is about the file named: client 1 writes file 2, and nobody has file 1.
writer_of_one : map (λ f. applying (tests true (seen (λ k. open_record) (header 0 (1 ∷ 5 ∷ 2 ∷ [])) (header 1 (0 ∷ []))) active12 (open_read 2 f))) (1 ∷ 2 ∷ [])
    ≡ [] ∷ (7 ∷ []) ∷ []
unfolding tests session_fits mark_fits client_holds_fit is_reading all
writer_of_one = refl

-- 6, 8 and 9 of a read: file 3, which has no page; file 1 for client 3; page 1 of file 2.
read_refused : applying (query_tests true (at 1) active1 (read_page 1 3 0)) ∷ applying (query_tests true at3 active3 (read_page 3 1 0))
    ∷ applying (query_tests true (at 1) active1 (read_page 1 2 1)) ∷ []
    ≡ (6 ∷ 8 ∷ 9 ∷ []) ∷ (8 ∷ []) ∷ (9 ∷ []) ∷ []
unfolding query_tests session_fits mark_fits client_holds_fit is_reading all
read_refused = refl

-- "a look tests 1, 6 and 9": each file's last page and the next one, file 0, whose pages are read as file 1's, and file 3, which has no
-- page; on a volume that is sound and on one that isn't. Client 1 holds both files and is open. No session is asked for: with client 2's
-- mark, which doesn't fit, and reading holds of everything it is the same.
abbrev looking : (ok : Bool) → Session → List (List ℕ)
looking ok s = map (λ (x : ℕ × ℕ). applying (query_tests ok (at 1) s (look_page x.0 x.1))) ((1, 2) ∷ (1, 3) ∷ (2, 0) ∷ (2, 1) ∷ (0, 0) ∷ (3, 0) ∷ [])

look_refused : map (looking true) (new_session ∷ active1 ∷ reads active12 (65535 ∷ 65535 ∷ 0 ∷ 0 ∷ []) ∷ []) ++ (looking false new_session ∷ [])
    ≡ replicate 3 ([] ∷ (9 ∷ []) ∷ [] ∷ (9 ∷ []) ∷ (6 ∷ []) ∷ (6 ∷ 9 ∷ []) ∷ [])
    ++ (((1 ∷ []) ∷ (1 ∷ 9 ∷ []) ∷ (1 ∷ []) ∷ (1 ∷ 9 ∷ []) ∷ (1 ∷ 6 ∷ []) ∷ (1 ∷ 6 ∷ 9 ∷ []) ∷ []) ∷ [])
unfolding query_tests
look_refused = refl

-- ------------------------------------------------------------------ reading holds
-- Clients 1, 2 and 3 have begun, and nobody holds a file for writing. Clients 1 and 2 read file 1, client 3 reads file 2.
abbrev begun : View
begun = seen (λ k. when eqb k 4 then idle_record else open_record) (header 0 (1 ∷ 5 ∷ 2 ∷ [])) (header 0 (0 ∷ []))

abbrev reading : Session
reading = reads (marks true true true false) (1 ∷ 1 ∷ 2 ∷ 0 ∷ [])

-- 7, "writing while another kiln reads": file 1 for each client; file 2 for client 3, which alone reads it, and for client 1.
read_by_others : map (λ k. applying (tests true begun reading (open_file k 1))) (1 ∷ 2 ∷ 3 ∷ [])
    ++ map (λ k. applying (tests true begun reading (open_file k 2))) (3 ∷ 1 ∷ [])
    ≡ (7 ∷ []) ∷ (7 ∷ []) ∷ (7 ∷ []) ∷ [] ∷ (7 ∷ []) ∷ []
unfolding tests session_fits mark_fits client_holds_fit hold_fits is_reading is_read_by_other all
read_by_others = refl

-- Reading is open to all of them.
read_together : map (λ k. applying (tests true begun reading (open_read k 1))) (1 ∷ 2 ∷ 3 ∷ []) ≡ [] ∷ [] ∷ [] ∷ []
unfolding tests session_fits mark_fits client_holds_fit hold_fits is_reading all
read_together = refl

-- 8 "accepts either hold": a read of file 1 by clients 1 and 3.
read_held : map (λ k. applying (query_tests true begun reading (read_page k 1 0))) (1 ∷ 3 ∷ []) ≡ [] ∷ (8 ∷ []) ∷ []
unfolding query_tests session_fits mark_fits client_holds_fit hold_fits is_reading all
read_held = refl

-- 16, "a write to a file held only for reading", and nothing else is wrong; a file that isn't held gets 8 alone. Client 1 reads file 1,
-- client 3 file 2.
write_read_only : map (λ k. map (λ f. applying (tests true begun reading (write k f 0 whole))) (1 ∷ 2 ∷ [])) (1 ∷ 3 ∷ [])
    ≡ ((16 ∷ []) ∷ (8 ∷ []) ∷ []) ∷ ((8 ∷ []) ∷ (16 ∷ []) ∷ []) ∷ []
unfolding tests session_fits mark_fits client_holds_fit hold_fits is_reading free_slots all
write_read_only = refl

-- It is given before 9 and 10, and after 8: page 3 and no bytes, of file 1 by client 1 and of file 2 by client 1.
sixteen_first : map (λ f. first (tests true begun reading (write 1 f 3 []))) (1 ∷ 2 ∷ []) ≡ 16 ∷ 8 ∷ []
unfolding tests session_fits mark_fits client_holds_fit hold_fits is_reading free_slots all first
sixteen_first = refl

-- A writing hold beside a reading one, which refusal 2 is given for, isn't read-only.
both_holds : applying (tests true (at 1) (reads active1 (1 ∷ 0 ∷ 0 ∷ 0 ∷ [])) (write 1 1 0 whole)) ≡ 2 ∷ []
unfolding tests session_fits mark_fits client_holds_fit hold_fits is_reading free_slots all
both_holds = refl

-- ------------------------------------------------------------------ write
-- What applies to a write by client 2, which holds file 1, with these entries and this map.
abbrev writing : List Entry → List ℕ → ℕ → Bytes → List ℕ
writing es m p d =
    let a = seen (λ k. when eqb k 2 then rec 1 es else idle_record) (header 2 m) no_header in
    applying (tests true a active2 (write 2 1 p d))

-- 9 and 10: page 3; 255 and 257 bytes.
write_refused : writing [] (0 ∷ 1 ∷ 2 ∷ []) 3 whole
    ∷ map (λ n. writing [] (0 ∷ 1 ∷ 2 ∷ []) 2 (replicate n 7)) (255 ∷ 256 ∷ 257 ∷ [])
    ≡ (9 ∷ []) ∷ (10 ∷ []) ∷ [] ∷ (10 ∷ []) ∷ []
unfolding tests session_fits mark_fits client_holds_fit is_reading free_slots all
write_refused = refl

-- 8 and 9 are about the file written: file 2, which client 2 doesn't hold; page 1 of file 2, which client 1 holds.
other_file : applying (tests true (seen (λ k. open_record) (header 2 (0 ∷ 1 ∷ 2 ∷ [])) (header 0 (0 ∷ []))) active2 (write 2 2 0 whole))
    ∷ applying (tests true (at 1) active1 (write 1 2 1 whole)) ∷ []
    ≡ (8 ∷ []) ∷ (9 ∷ []) ∷ []
unfolding tests session_fits mark_fits client_holds_fit is_reading free_slots all
other_file = refl

-- 11, "no entry yet: no real as described": page 0 has an entry, page 1 has none. With slot 5 free neither is refused.
no_slot_free : map (λ p. writing (entry 1 0 4 ∷ []) (0 ∷ 1 ∷ 2 ∷ 3 ∷ 5 ∷ []) p whole) (0 ∷ 1 ∷ [])
    ++ map (λ p. writing (entry 1 0 4 ∷ []) (0 ∷ 1 ∷ 2 ∷ 3 ∷ []) p whole) (0 ∷ 1 ∷ [])
    ≡ [] ∷ (11 ∷ []) ∷ [] ∷ [] ∷ []
unfolding tests session_fits mark_fits client_holds_fit is_reading free_slots all
no_slot_free = refl

-- 12, "no entry yet: C is 62": 61 entries, 62, and 62 of which one is for the page.
record_full_lem : map (λ es. writing es (0 ∷ 1 ∷ 2 ∷ []) 2 whole)
    (replicate 61 (entry 1 0 4) ∷ replicate 62 (entry 1 0 4) ∷ (entry 1 2 4 ∷ replicate 61 (entry 1 0 4)) ∷ [])
    ≡ [] ∷ (12 ∷ []) ∷ [] ∷ []
unfolding tests session_fits mark_fits client_holds_fit is_reading free_slots all
record_full_lem = refl

-- All of them at once: a new page of a file 9 for client 9, whose record is full.
all_apply : applying (tests false (seen (λ k. rec 0 (replicate 62 (entry 1 0 4))) no_header no_header) active1 (write 9 9 9 []))
    ≡ 1 ∷ 2 ∷ 3 ∷ 5 ∷ 6 ∷ 8 ∷ 9 ∷ 10 ∷ 11 ∷ 12 ∷ []
unfolding tests session_fits mark_fits client_holds_fit is_reading free_slots all
all_apply = refl

-- ------------------------------------------------------------------ 11 and 12 together
-- Client 1 holds both files and has written 62 pages of file 1, "P 70, R 240". File 2 has one page and no other slot.
abbrev full : View
full = view_of
    (record { sectors = 245; clients = 1; files = record { pages = 70; slots = 240 } ∷ record { pages = 1; slots = 1 } ∷ [] })
    (λ k. when eqb k 1 then rec 1 (map (λ p. entry 1 p (70 + p)) (from 0 62)) else idle_record)
    (header 1 (from 0 70))
    (header 1 (0 ∷ []))
    (λ f r. [])

full_lawful : lawful full ≡ true
unfolding lawful all sector_after
full_lawful = refl

-- The page of file 2 has no slot, and the record no place for its entry: both apply, and 11 is given.
full_and_no_slot : applying (tests true full active1 (write 1 2 0 whole)) ≡ 11 ∷ 12 ∷ []
unfolding tests session_fits mark_fits client_holds_fit is_reading free_slots all
full_and_no_slot = refl

eleven_given : first (tests true full active1 (write 1 2 0 whole)) ≡ 11
unfolding tests session_fits mark_fits client_holds_fit is_reading free_slots all first
eleven_given = refl
