-- Examples of `Sessions`: marks and reading holds, who is orphaned and who holds a file, and refusal 2's conditions, each by
-- itself and at its limit. The checker evaluates both sides.
use mathlib.Core.Path.{◌≡◌, refl}
use mathlib.Core.Bool.{Bool, true, false}
use mathlib.Core.List.{List, [], ◌∷◌, ◌++◌, map}
use Prim.Native.Nat.{ℕ, ◌-◌, ◌^◌}
use lib.Dec.{eqb}
use lib.ListN.{replicate}
use Rattle.interface.specs.declared.Session.{Session}
use Rattle.interface.specs.Answers.{new_session}
use Rattle.lists.specs.Lists.{when◌then◌else◌, all, from}
use Rattle.byteset.specs.Bits.{with_bit, without_bit}
use Rattle.sector.specs.Contents.{Table, Record, idle_record, open_record, decided_record}
use Rattle.volume.specs.Views.{no_header}
use Rattle.rules.specs.Sessions.{is_active, set_active, none_active, is_reading, with_reading, without_reading, without_reader, is_read_by_other, is_orphaned, holds, holds_either, mark_fits, hold_fits, client_holds_fit, session_fits}
use Rattle.rules.proofs.ExampleViews.{marks, reads, active1, active2, active3, active4, active12, entry, rec, header, view_of, seen, records, at}

-- ------------------------------------------------------------------ marks
-- The mark of client k is the k-th; there is none for a fifth.
who_is_active : map (is_active (marks false true false true)) (1 ∷ 2 ∷ 3 ∷ 4 ∷ 5 ∷ []) ≡ false ∷ true ∷ false ∷ true ∷ false ∷ []
who_is_active = refl

-- "mark k", "unmark k": the other marks stay, and the reading holds.
marked : set_active active1 3 true ∷ set_active active12 1 false ∷ set_active (reads active1 (1 ∷ 2 ∷ 3 ∷ 4 ∷ [])) 2 true ∷ []
    ≡ marks true false true false ∷ active2 ∷ reads active12 (1 ∷ 2 ∷ 3 ∷ 4 ∷ []) ∷ []
marked = refl

-- No mark, and each by itself.
abbrev singles : List Session
singles = new_session ∷ active1 ∷ active2 ∷ active3 ∷ active4 ∷ []

-- One mark is enough, whichever it is. A reading hold is no mark.
no_mark : map none_active (reads new_session (1 ∷ 1 ∷ 1 ∷ 1 ∷ []) ∷ singles) ≡ true ∷ true ∷ false ∷ false ∷ false ∷ false ∷ []
no_mark = refl

-- ------------------------------------------------------------------ reading holds
-- Client 1 reads files 1 and 3, client 2 file 16, client 4 files 2 and 3.
abbrev readers : Session
readers = reads (marks true true false true) (5 ∷ 32768 ∷ 0 ∷ 6 ∷ [])

-- File f is bit f − 1 of client k's word.
who_reads : map (λ f. map (λ k. is_reading readers k f) (1 ∷ 2 ∷ 3 ∷ 4 ∷ [])) (1 ∷ 2 ∷ 3 ∷ 16 ∷ [])
    ≡ (true ∷ false ∷ false ∷ false ∷ []) ∷ (false ∷ false ∷ false ∷ true ∷ []) ∷ (true ∷ false ∷ false ∷ true ∷ [])
    ∷ (false ∷ true ∷ false ∷ false ∷ []) ∷ []
unfolding is_reading
who_reads = refl

-- A hold noted, noted again, ended, ended where there is none; all of a client's ended. The others stay.
holds_change : map (λ (s : Session). s.reading)
    (with_reading readers 3 16 ∷ with_reading readers 1 2 ∷ with_reading readers 1 3 ∷ without_reading readers 1 3
    ∷ without_reading readers 1 2 ∷ without_reader readers 4 ∷ [])
    ≡ (5 ∷ 32768 ∷ 32768 ∷ 6 ∷ []) ∷ (7 ∷ 32768 ∷ 0 ∷ 6 ∷ []) ∷ (5 ∷ 32768 ∷ 0 ∷ 6 ∷ []) ∷ (1 ∷ 32768 ∷ 0 ∷ 6 ∷ [])
    ∷ (5 ∷ 32768 ∷ 0 ∷ 6 ∷ []) ∷ (5 ∷ 32768 ∷ 0 ∷ 0 ∷ []) ∷ []
unfolding with_bit without_bit
holds_change = refl

-- The marks stay.
holds_marks : map (λ (s : Session). s.active) (with_reading readers 3 16 ∷ without_reading readers 1 3 ∷ without_reader readers 4 ∷ [])
    ≡ (true ∷ true ∷ false ∷ true ∷ []) ∷ (true ∷ true ∷ false ∷ true ∷ []) ∷ (true ∷ true ∷ false ∷ true ∷ []) ∷ []
holds_marks = refl

-- "another kiln reads": file 1 is read by client 1 alone, file 3 by 1 and 4, the last of the four, file 2 by 4, file 5 by nobody.
read_by_other : map (λ f. map (λ k. is_read_by_other readers k f) (1 ∷ 4 ∷ [])) (1 ∷ 3 ∷ 2 ∷ 5 ∷ [])
    ≡ (false ∷ true ∷ []) ∷ (true ∷ true ∷ []) ∷ (true ∷ false ∷ []) ∷ (false ∷ false ∷ []) ∷ []
unfolding is_read_by_other is_reading
read_by_other = refl

-- ------------------------------------------------------------------ orphaned, holds
-- "A kiln not marked, whose record is open or decided, is interrupted."
orphaned : map (λ s. is_orphaned (at s) new_session 1) (0 ∷ 1 ∷ 2 ∷ []) ++ map (λ s. is_orphaned (at s) active1 1) (0 ∷ 1 ∷ 2 ∷ [])
    ≡ false ∷ true ∷ true ∷ false ∷ false ∷ false ∷ []
orphaned = refl

-- The header names the client.
who_holds : map (λ k. holds (at 1) k 1) (0 ∷ 1 ∷ 2 ∷ []) ≡ false ∷ true ∷ false ∷ []
who_holds = refl

-- Either hold: client 1 holds file 1 for writing, client 2 for reading, client 3 not at all.
who_holds_either : map (λ k. holds_either (at 1) (reads active12 (0 ∷ 1 ∷ 2 ∷ 0 ∷ [])) k 1) (1 ∷ 2 ∷ 3 ∷ []) ≡ true ∷ true ∷ false ∷ []
unfolding is_reading
who_holds_either = refl

-- ------------------------------------------------------------------ refusal 2
-- "one whose record isn't open": idle, open, decided. "one whose record has an entry for a file whose header doesn't name that
-- kiln": the first entry's, the second entry's.
mark_fits_lem : map (λ s. mark_fits (at s) 1) (0 ∷ 1 ∷ 2 ∷ [])
    ++ (mark_fits (seen (records 1) (header 2 (1 ∷ 5 ∷ 2 ∷ [])) (header 1 (0 ∷ []))) 1
    ∷ mark_fits (seen (records 1) (header 1 (1 ∷ 5 ∷ 2 ∷ [])) (header 0 (0 ∷ []))) 1 ∷ [])
    ≡ false ∷ true ∷ false ∷ false ∷ false ∷ []
unfolding mark_fits all
mark_fits_lem = refl

-- The entries are those of the client's own record: client 2 has one for file 1, which client 1 holds.
mark_own : let given : ℕ → Record = λ k. when eqb k 2 then rec 1 (entry 1 0 0 ∷ []) else open_record in
    map (mark_fits (seen given (header 1 (1 ∷ 5 ∷ 2 ∷ [])) no_header)) (1 ∷ 2 ∷ []) ≡ true ∷ false ∷ []
unfolding mark_fits all
mark_own = refl

-- Each mark by itself is tested; a client that isn't marked isn't.
session_fits_lem : map (session_fits (seen (λ k. idle_record) no_header no_header)) singles ≡ true ∷ false ∷ false ∷ false ∷ false ∷ []
unfolding session_fits mark_fits client_holds_fit is_reading all
session_fits_lem = refl

all_four_fit : session_fits (seen (λ k. open_record) no_header no_header) (marks true true true true) ≡ true
unfolding session_fits mark_fits client_holds_fit is_reading all
all_four_fit = refl

-- T clients and one file that nobody holds. Client 4, alone marked, has this record.
abbrev fourth : (T : ℕ) → Record → Bool
fourth T r =
    let t : Table = record { sectors = 11; clients = T; files = record { pages = 1; slots = 1 } ∷ [] } in
    session_fits (view_of t (λ k. when eqb k 4 then r else idle_record) (header 0 (0 ∷ [])) no_header (λ f r. [])) active4

-- "a kiln above T", though its record is open.
above_t : fourth 3 open_record ≡ false
unfolding session_fits mark_fits client_holds_fit is_reading all
above_t = refl

-- "T, the kilns, 1 to 4": client 4 is one, and fits if its record is open.
at_t : map (fourth 4) (idle_record ∷ open_record ∷ decided_record open_record ∷ []) ≡ false ∷ true ∷ false ∷ []
unfolding session_fits mark_fits client_holds_fit is_reading all
at_t = refl

-- ------------------------------------------------------------------ refusal 2, of reading holds
-- Four clients have begun; nobody holds file 1, and file 2 has this holder. Client 4 has these reading holds and this mark.
abbrev fourth_reads : (holder : ℕ) → Bool → (word : ℕ) → Bool
fourth_reads holder b word =
    session_fits (seen (λ k. open_record) (header 0 (1 ∷ 5 ∷ 2 ∷ [])) (header holder (0 ∷ [])))
    (reads (marks true false false b) (0 ∷ 0 ∷ 0 ∷ word ∷ []))

-- File 1 and both files; "of an unmarked kiln"; "of a file above F": file 3, and file 16.
holds_fit_lem : fourth_reads 0 true 1 ∷ fourth_reads 0 true 3 ∷ fourth_reads 0 false 1 ∷ fourth_reads 0 true 4 ∷ fourth_reads 0 true 32768 ∷ []
    ≡ true ∷ true ∷ false ∷ false ∷ false ∷ []
unfolding session_fits mark_fits client_holds_fit hold_fits is_reading all
holds_fit_lem = refl

-- Every file above F, by itself, up to the last bit.
files_above : map (λ f. fourth_reads 0 true (2 ^ (f - 1))) (from 1 16) ≡ true ∷ true ∷ replicate 14 false
unfolding session_fits mark_fits client_holds_fit hold_fits is_reading all
files_above = refl

-- "of a file whose header names a holder": an active one, client 1; an orphaned one, client 2; the reader itself. The other file
-- may be held.
holder_named : map (λ h. fourth_reads h true 2) (1 ∷ 2 ∷ 4 ∷ []) ++ (fourth_reads 1 true 1 ∷ [])
    ≡ false ∷ false ∷ false ∷ true ∷ []
unfolding session_fits mark_fits client_holds_fit hold_fits is_reading all
holder_named = refl

-- Each client's holds are tested, marked or not, and several clients may read one file.
every_client : map (session_fits (seen (λ k. open_record) (header 0 (1 ∷ 5 ∷ 2 ∷ [])) no_header))
    (reads active2 (1 ∷ 0 ∷ 0 ∷ 0 ∷ []) ∷ reads active1 (0 ∷ 1 ∷ 0 ∷ 0 ∷ []) ∷ reads active1 (0 ∷ 0 ∷ 1 ∷ 0 ∷ [])
    ∷ reads (marks true true true true) (1 ∷ 1 ∷ 1 ∷ 1 ∷ []) ∷ [])
    ≡ false ∷ false ∷ false ∷ true ∷ []
unfolding session_fits mark_fits client_holds_fit hold_fits is_reading all
every_client = refl

-- A session with holds and no mark fits no volume.
holds_alone : session_fits (seen (λ k. open_record) (header 0 (1 ∷ 5 ∷ 2 ∷ [])) no_header) (reads new_session (1 ∷ 0 ∷ 0 ∷ 0 ∷ [])) ≡ false
unfolding session_fits mark_fits client_holds_fit hold_fits is_reading all
holds_alone = refl
