-- Examples of `Calls`: how a call ends by its budget and by its refusal, which sector a read and a look find, and which part of the
-- volume they hand out. The checker evaluates both sides.
use mathlib.Core.Path.{◌≡◌, refl}
use mathlib.Core.List.{List, [], ◌∷◌, ◌++◌, map}
use Prim.Native.Nat.{ℕ}
use lib.ListN.{replicate, set}
use Rattle.interface.specs.declared.Session.{Session}
use Rattle.interface.specs.Answers.{new_session, Answer, done, crashed, refused, QueryAnswer, found, query_refused}
use Rattle.lists.specs.Lists.{all, first}
use Rattle.byteset.specs.Bits.{with_bit}
use Rattle.sector.specs.Contents.{Bytes, idle_record, open_record}
use Rattle.sector.specs.Entries.{redone}
use Rattle.sector.specs.Sectors.{sector, store_at, padded}
use Rattle.sector.specs.Encoding.{file_bytes, encode_table, entry_bytes, encode_record, encode_header}
use Rattle.sector.specs.Decoding.{decode_files, decode_table, decode_entries, decode_record, decode_header}
use Rattle.volume.specs.Places.{sector_after}
use Rattle.volume.specs.Views.{View}
use Rattle.volume.specs.Volumes.{Volume, table_of, record_in, header_in, view}
use Rattle.volume.specs.Stores.{Store, cut_at, all_stores}
use Rattle.volume.specs.Lawful.{lawful}
use Rattle.volume.specs.Sound.{encoded, canonical, sound}
use Rattle.volume.specs.Format.{repeated, new_files, new_volume}
use Rattle.rules.specs.Sessions.{is_reading, mark_fits, client_holds_fit, session_fits}
use Rattle.rules.specs.Recovery.{held_files, recovery}
use Rattle.rules.specs.Plans.{Call, begin, open_read, commit, abort, read_page, look_page, begin_plan, plan}
use Rattle.rules.specs.Refusals.{tests, query_tests}
use Rattle.rules.specs.Calls.{After, executed, call_by, call, query_by, query, part_of, query_part, look, look_part}
use Rattle.rules.proofs.ExampleViews.{reads, active1, active2, active12, entry, rec, header, seen, records, at}

-- The bytes of one sector.
abbrev page : ℕ → Bytes
page x = replicate 256 x

-- ------------------------------------------------------------------ budgets and refusals
-- Two sectors, and two stores.
abbrev blank : Volume
blank = page 0 ++ page 0

abbrev two : List Store
two = record { target = 0; bytes = page 1 } ∷ record { target = 1; bytes = page 2 } ∷ []

abbrev ends : Answer → Session → Volume → After
ends x s v = record { answer = x; session = s; volume = v }

-- "makes exactly the first so many, answers cut with the number of stores made, and hands back a new session. Otherwise it
-- answers done with that number": allowances 0 to 3 for two stores, and 0 for none. The new session has no reading hold; the other
-- has those of client 2, which doesn't commit.
budgets : let s = reads active12 (1 ∷ 2 ∷ 0 ∷ 0 ∷ []) in
    let s' = reads active2 (0 ∷ 2 ∷ 0 ∷ 0 ∷ []) in
    map (λ n. executed blank s (commit 1) n two) (0 ∷ 1 ∷ 2 ∷ 3 ∷ []) ++ (executed blank s (commit 1) 0 [] ∷ [])
    ≡ ends (crashed 0) new_session blank
    ∷ ends (crashed 1) new_session (page 1 ++ page 0)
    ∷ ends (done 2) s' (page 1 ++ page 2)
    ∷ ends (done 2) s' (page 1 ++ page 2)
    ∷ ends (done 0) s' blank
    ∷ []
unfolding cut_at store_at
budgets = refl

-- "A refusal comes before any store, leaves every byte and hands back the session given."
refused_as_given : (v : Volume) (s : Session) (c : Call) (budget : ℕ) → call_by 5 v s c budget ≡ ends (refused 5) s v
refused_as_given v s c budget = refl

-- ------------------------------------------------------------------ read
-- A read's sector, the headers being in sectors 5 and 12: by the record of that client, else by the map; or its refusal.
sectors_read : query_by 0 (at 1) (read_page 1 1 1) ∷ query_by 0 (at 1) (read_page 3 1 1) ∷ query_by 0 (at 1) (read_page 1 1 0)
    ∷ query_by 0 (at 1) (read_page 1 2 0) ∷ query_by 0 (at 1) (read_page 3 2 0)
    ∷ query_by 8 (at 1) (read_page 1 1 1) ∷ []
    ≡ found 10 ∷ found 11 ∷ found 7 ∷ found 15 ∷ found 13 ∷ query_refused 8 ∷ []
unfolding sector_after
sectors_read = refl

-- ------------------------------------------------------------------ look
-- A look's sectors: the three pages of file 1, then the page of file 2.
abbrev looked : View → List QueryAnswer
looked a = map (λ p. query_by 0 a (look_page 1 p)) (0 ∷ 1 ∷ 2 ∷ []) ++ (query_by 0 a (look_page 2 0) ∷ [])

-- "the page of the decided content": client 1, which holds both files, is open, so by the maps; it is decided, so page 1 of file 1 and
-- the page of file 2 by its entries; the header of file 1 names client 2, which is decided, that of file 2 nobody; nobody holds file 1,
-- and client 3, which is idle, file 2, so by the maps, whatever is decided. Last, a refusal.
sectors_looked : map looked
    (at 1 ∷ at 2 ∷ seen (records 1) (header 2 (1 ∷ 5 ∷ 2 ∷ [])) (header 0 (0 ∷ [])) ∷ seen (records 2) (header 0 (1 ∷ 5 ∷ 2 ∷ [])) (header 3 (0 ∷ [])) ∷ [])
    ++ ((query_by 9 (at 1) (look_page 1 3) ∷ []) ∷ [])
    ≡ (found 7 ∷ found 11 ∷ found 8 ∷ found 13 ∷ [])
    ∷ (found 7 ∷ found 10 ∷ found 8 ∷ found 15 ∷ [])
    ∷ (found 6 ∷ found 9 ∷ found 8 ∷ found 13 ∷ [])
    ∷ (found 7 ∷ found 11 ∷ found 8 ∷ found 13 ∷ [])
    ∷ (query_refused 9 ∷ [])
    ∷ []
unfolding sector_after redone
sectors_looked = refl

-- ------------------------------------------------------------------ parts
-- "hands back that part of the lent array itself, 256 bytes, or an empty part on a refusal": the second of three sectors.
parts : map (part_of (page 1 ++ (page 2 ++ page 3))) (found 1 ∷ query_refused 1 ∷ []) ≡ page 2 ∷ [] ∷ []
unfolding sector
parts = refl

-- ------------------------------------------------------------------ on the bytes of a volume
-- One client, which has begun and holds the one file, of two pages in three slots: page 0 is in slot 2 by its record.
abbrev tiny : Volume
tiny = cut_at (new_volume (record { sectors = 6; clients = 1; files = record { pages = 2; slots = 3 } ∷ [] }))
    (record { target = 1; bytes = encode_record (rec 1 (entry 1 0 2 ∷ [])) }
    ∷ record { target = 2; bytes = encode_header (record { pages = 2; slots = 3 }) (header 1 (0 ∷ 1 ∷ [])) }
    ∷ record { target = 3; bytes = page 3 }
    ∷ record { target = 4; bytes = page 4 }
    ∷ record { target = 5; bytes = page 5 }
    ∷ []) 5

-- Pages 0 and 1; no page 2; a new session, whose read is refused; an array that isn't sound.
parts_read : map (λ p. query_part tiny active1 (read_page 1 1 p)) (0 ∷ 1 ∷ 2 ∷ [])
    ++ (query_part tiny new_session (read_page 1 1 0) ∷ query_part (set tiny 0 0) active1 (read_page 1 1 0) ∷ [])
    ≡ page 5 ∷ page 4 ∷ [] ∷ [] ∷ [] ∷ []
unfolding query query_tests first session_fits mark_fits client_holds_fit is_reading sound lawful canonical encoded all view table_of record_in header_in decode_table decode_files decode_record decode_entries decode_header sector cut_at store_at new_volume new_files repeated sector_after encode_table file_bytes encode_record entry_bytes encode_header padded
parts_read = refl

-- That record decided.
abbrev decided_tiny : Volume
decided_tiny = store_at tiny 1 (encode_record (rec 2 (entry 1 0 2 ∷ [])))

-- Looks at pages 0 and 1 while client 1 is open, by the map; decided, by its entry and by the map. Refused: no page 2, whose file there
-- is; no file 0 and no file 2, whatever the page; an array that isn't sound, whatever file and page.
abbrev looked_at : Volume → List (QueryAnswer × Bytes)
looked_at v = map (λ (x : ℕ × ℕ). (look v x.0 x.1, look_part v x.0 x.1)) ((1, 0) ∷ (1, 1) ∷ (1, 2) ∷ (0, 0) ∷ (2, 0) ∷ (2, 9) ∷ [])

abbrev refused_as : ℕ → QueryAnswer × Bytes
refused_as n = (query_refused n, [])

looks_found : map looked_at (tiny ∷ decided_tiny ∷ set tiny 0 0 ∷ [])
    ≡ ((found 3, page 3) ∷ (found 4, page 4) ∷ refused_as 9 ∷ replicate 3 (refused_as 6))
    ∷ ((found 5, page 5) ∷ (found 4, page 4) ∷ refused_as 9 ∷ replicate 3 (refused_as 6))
    ∷ replicate 6 (refused_as 1)
    ∷ []
unfolding query query_tests first redone sound lawful canonical encoded all view table_of record_in header_in decode_table decode_files decode_record decode_entries decode_header sector cut_at store_at new_volume new_files repeated sector_after encode_table file_bytes encode_record entry_bytes encode_header padded
looks_found = refl

-- With holder 0, and with an idle record as well.
abbrev half : Volume
half = store_at tiny 2 (encode_header (record { pages = 2; slots = 3 }) (header 0 (0 ∷ 1 ∷ [])))

abbrev freed : Volume
freed = store_at half 1 (encode_record idle_record)

-- The call tests the array that it is given, and stores into it within its budget: abort frees the file and idles the record.
called : map (call tiny active1 (abort 1)) (2 ∷ 1 ∷ [])
    ++ (call tiny new_session (abort 1) 2 ∷ call (set tiny 0 0) active1 (abort 1) 2 ∷ [])
    ≡ ends (done 2) new_session freed
    ∷ ends (crashed 1) new_session half
    ∷ ends (refused 5) new_session tiny
    ∷ ends (refused 1) active1 (set tiny 0 0)
    ∷ []
unfolding call tests plan recovery held_files all_stores first session_fits mark_fits client_holds_fit is_reading sound lawful canonical encoded all view table_of record_in header_in decode_table decode_files decode_record decode_entries decode_header sector cut_at store_at new_volume new_files repeated sector_after encode_table file_bytes encode_record entry_bytes encode_header padded
called = refl

-- The session after an open for reading: where client 1 holds the file for writing no hold is noted, and where nobody holds it, it is.
reading_noted : map (λ v. (executed v active1 (open_read 1 1) 0 []).session) (tiny ∷ half ∷ []) ≡ active1 ∷ reads active1 (1 ∷ 0 ∷ 0 ∷ 0 ∷ []) ∷ []
unfolding is_reading with_bit view table_of record_in header_in decode_table decode_files decode_record decode_entries decode_header sector cut_at store_at new_volume new_files repeated sector_after encode_table file_bytes encode_record entry_bytes encode_header padded
reading_noted = refl

-- It goes by the volume from before the call, also where a store takes client 1's hold for writing away.
hold_from_before : (executed tiny active1 (open_read 1 1) 1
    (record { target = 2; bytes = encode_header (record { pages = 2; slots = 3 }) (header 0 (0 ∷ 1 ∷ [])) } ∷ [])).session ≡ active1
unfolding is_reading with_bit view table_of record_in header_in decode_table decode_files decode_record decode_entries decode_header sector cut_at store_at new_volume new_files repeated sector_after encode_table file_bytes encode_record entry_bytes encode_header padded
hold_from_before = refl

-- The stores are those for the session given: client 1, marked, isn't recovered first.
session_counts : call_by 0 tiny active1 (begin 1) 1 ≡ ends (done 1) active1 (store_at tiny 1 (encode_record open_record))
unfolding plan begin_plan all_stores view table_of record_in header_in decode_table decode_files decode_record decode_entries decode_header sector cut_at store_at new_volume new_files repeated sector_after encode_table file_bytes encode_record entry_bytes encode_header padded
session_counts = refl
