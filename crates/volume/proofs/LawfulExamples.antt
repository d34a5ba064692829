-- Examples of what fits together, of sound volumes and of entries: the limits of a table, at each limit and one beyond
-- it, then each rule of "sound". The checker evaluates both sides.
use mathlib.Core.Path.{◌≡◌, refl}
use mathlib.Core.Bool.{true, false, not}
use mathlib.Core.List.{List, [], ◌∷◌, ◌++◌, map}
use Prim.Native.Nat.{ℕ, ◌+◌}
use native.Mathlib.Omega.{arith}
use lib.Dec.{eqb}
use lib.ListN.{take, replicate, set}
use Rattle.lists.specs.Lists.{when◌then◌else◌, all, every, from}
use Rattle.sector.specs.Contents.{Table, Record, Header, idle_record}
use Rattle.sector.specs.Sectors.{sector, store_at, byte, padded}
use Rattle.sector.specs.Encoding.{file_bytes, encode_table, entry_bytes, encode_record, encode_header}
use Rattle.sector.specs.Decoding.{decode_files, decode_table, decode_entries, decode_record, decode_header}
use Rattle.volume.specs.Places.{sector_after}
use Rattle.volume.specs.Views.{View, set_record, changed}
use Rattle.volume.specs.Volumes.{Volume, table_of, record_in, header_in, view}
use Rattle.volume.specs.Lawful.{table_fits, entry_fits, record_fits, apart, holder_fits, header_fits, lawful}
use Rattle.volume.specs.Sound.{encoded, canonical, sound, table_sound_in}
use Rattle.volume.specs.WellFormed.{HasEntry, no_entry}
use Rattle.volume.specs.Format.{repeated, new_files, new_volume}
use Rattle.volume.proofs.PlaceExamples.{file, table, entry, rec, header, three_files, before, opened, clients_from_1}

-- ------------------------------------------------------------------ Tables
abbrev fitting : List Table
fitting =
    -- "N at most 1,024"; "T, the kilns, 1 to 4"; "F, the files, 1 to 16"
    table 1024 1 (file 1 1 ∷ []) ∷ table 1024 4 (file 1 1 ∷ []) ∷ table 1024 1 (replicate 16 (file 1 1))
    -- "P pages (1 to 120), R real sectors (P to 240)"; "All ends at or before N."
    ∷ table 1024 1 (file 120 120 ∷ file 120 240 ∷ []) ∷ table 4 1 (file 1 1 ∷ [])
    ∷ []

abbrev unfitting : List Table
unfitting =
    -- N; T; F
    table 1025 1 (file 1 1 ∷ [])
    ∷ table 1024 0 (file 1 1 ∷ []) ∷ table 1024 5 (file 1 1 ∷ [])
    ∷ table 1024 1 [] ∷ table 1024 1 (replicate 17 (file 1 1))
    -- P; R, in the first file and in the last; the end, which is where a later header would be
    ∷ table 1024 1 (file 0 1 ∷ []) ∷ table 1024 1 (file 121 240 ∷ [])
    ∷ table 1024 1 (file 2 1 ∷ file 1 1 ∷ []) ∷ table 1024 1 (file 1 1 ∷ file 1 241 ∷ [])
    ∷ table 3 1 (file 1 1 ∷ [])
    ∷ []

tables_fit : every table_fits fitting ≡ true
unfolding all sector_after
tables_fit = refl

tables_unfit : every (λ t. not (table_fits t)) unfitting ≡ true
unfolding all sector_after
tables_unfit = refl

-- ------------------------------------------------------------------ Lawful
-- "entries name an existing file, page and real": files 1 to 3; page and slot of file 1, which has 2 pages and 3 slots.
entry_limits : map (entry_fits three_files) (entry 0 0 0 ∷ entry 1 0 0 ∷ entry 3 0 0 ∷ entry 4 0 0 ∷ entry 1 1 2 ∷ entry 1 2 0
    ∷ entry 1 0 3 ∷ [])
    ≡ false ∷ true ∷ true ∷ false ∷ true ∷ false ∷ false ∷ []
unfolding all
entry_limits = refl

-- "State: 0 idle, 1 open, 2 decided"; "an idle record has C = 0".
record_states : map (λ s. record_fits three_files (rec s [])) (0 ∷ 1 ∷ 2 ∷ 3 ∷ [])
    ++ map (λ s. record_fits three_files (rec s (entry 1 0 2 ∷ []))) (0 ∷ 1 ∷ 2 ∷ [])
    ≡ true ∷ true ∷ true ∷ false ∷ false ∷ true ∷ true ∷ []
unfolding all
record_states = refl

-- "count C (0 to 62)": pages from 0 on in slots from 70 on.
abbrev counted : ℕ → Record
counted n = rec 1 (map (λ p. entry 1 p (70 + p)) (from 0 n))

record_counts : map (λ n. record_fits (table 256 1 (file 70 240 ∷ [])) (counted n)) (62 ∷ 63 ∷ []) ≡ true ∷ false ∷ []
unfolding all
record_counts = refl

-- "in one record no (file, page) twice and no (file, real) twice": the same page and slot of two files are fine. Every entry is
-- tested.
record_entries : map (λ es. record_fits three_files (rec 1 es))
    ((entry 1 0 2 ∷ entry 2 0 2 ∷ []) ∷ (entry 1 0 2 ∷ entry 1 0 1 ∷ []) ∷ (entry 1 0 2 ∷ entry 1 1 2 ∷ [])
    ∷ (entry 1 0 2 ∷ entry 1 2 1 ∷ []) ∷ [])
    ≡ true ∷ false ∷ false ∷ false ∷ []
unfolding all
record_entries = refl

-- "no real that record k gives for f is in f's map": what it gives for another file may be.
given_apart : map (λ e. apart 1 (entry 1 1 2 ∷ e ∷ []) (0 ∷ 1 ∷ [])) (entry 1 0 3 ∷ entry 1 0 1 ∷ entry 2 0 1 ∷ [])
    ≡ true ∷ false ∷ true ∷ []
given_apart = refl

-- Every record, of any number, is in this state and gives slot 2 for file 1.
abbrev giving : (state : ℕ) → ℕ → Record
giving state k = rec state (entry 1 0 2 ∷ [])

-- "a header naming kiln k has k at most T and record k open or decided", and the slots given are apart from the map: states 0 to
-- 2; holders 2 and 3; slot 2 in the map.
holder_limits : map (λ s. holder_fits (giving s) three_files 1 (header 1 (0 ∷ 1 ∷ []))) (0 ∷ 1 ∷ 2 ∷ [])
    ++ map (holder_fits (giving 1) three_files 1) (header 2 (0 ∷ 1 ∷ []) ∷ header 3 (0 ∷ 1 ∷ []) ∷ header 2 (0 ∷ 2 ∷ []) ∷ [])
    ≡ false ∷ true ∷ true ∷ true ∷ false ∷ false ∷ []
unfolding all
holder_limits = refl

-- "map bytes are below R and distinct in a file", P of them; a holder is tested, holder 0 isn't.
header_limits : map (header_fits (giving 0) three_files 1) (header 0 (0 ∷ 2 ∷ []) ∷ header 0 (0 ∷ 3 ∷ []) ∷ header 0 (1 ∷ 1 ∷ [])
    ∷ header 0 (0 ∷ []) ∷ header 0 (0 ∷ 1 ∷ 2 ∷ []) ∷ [])
    ++ map (λ s. header_fits (giving s) three_files 1 (header 1 (0 ∷ 1 ∷ []))) (0 ∷ 1 ∷ [])
    ≡ true ∷ false ∷ false ∷ false ∷ false ∷ false ∷ true ∷ []
unfolding all
header_limits = refl

-- Two clients and three files of one page in one slot, which end at sector 9.
abbrev of_sectors : ℕ → Table
of_sectors n = table n 2 (replicate 3 (file 1 1))

-- A view of this table, with these records and headers.
abbrev seen : Table → (ℕ → Record) → (ℕ → Header) → View
seen t records headers = record { table = t; records = records; headers = headers; slots = λ f r. [] }

-- Record n, or header n, doesn't fit; all others do.
abbrev odd_record : ℕ → ℕ → Record
odd_record n k = when eqb k n then rec 3 [] else idle_record

abbrev odd_header : ℕ → ℕ → Header
odd_header n f = when eqb f n then header 9 [] else header 0 (0 ∷ [])

-- The table, the records of clients 1 to T and the headers of files 1 to F must fit, and no others.
lawful_views : lawful (seen (of_sectors 9) (odd_record 0) (odd_header 0))
    ∷ lawful (seen (of_sectors 8) (odd_record 0) (odd_header 0)) ∷ []
    ≡ true ∷ false ∷ []
unfolding lawful all sector_after
lawful_views = refl

lawful_records : map (λ n. lawful (seen (of_sectors 9) (odd_record n) (odd_header 0))) (1 ∷ 2 ∷ 3 ∷ []) ≡ false ∷ false ∷ true ∷ []
unfolding lawful all sector_after
lawful_records = refl

lawful_headers : map (λ n. lawful (seen (of_sectors 9) (odd_record 0) (odd_header n))) (1 ∷ 3 ∷ 4 ∷ []) ≡ false ∷ false ∷ true ∷ []
unfolding lawful all sector_after
lawful_headers = refl

-- ------------------------------------------------------------------ Sound
-- Two clients and two files of one page in one slot, and a sector after them.
abbrev tiny : Volume
tiny = new_volume (table 8 2 (file 1 1 ∷ file 1 1 ∷ []))

-- Sound. Not so with a 1 as the last byte of sector 0, of record 1 or 2 or of header 1 or 2, with a state 3, or with a byte
-- more. A slot and a later sector may be anything.
sound_volumes : map sound
    (tiny ∷ set tiny 255 1 ∷ set tiny 511 1 ∷ set tiny 767 1 ∷ set tiny 1023 1 ∷ set tiny 1535 1 ∷ set tiny 258 3
    ∷ (tiny ++ (0 ∷ [])) ∷ set tiny 1279 1 ∷ set tiny 2047 1 ∷ [])
    ≡ true ∷ false ∷ false ∷ false ∷ false ∷ false ∷ false ∷ false ∷ true ∷ true ∷ []
unfolding sound lawful canonical encoded all view table_of record_in header_in decode_table decode_files decode_record decode_entries decode_header sector new_volume new_files repeated sector_after encode_table file_bytes encode_record entry_bytes encode_header padded
sound_volumes = refl

-- Two files that leave slots: of 3 slots for 2 pages one, of 4 for 1 page three. Byte 3 of each header says so.
abbrev leaving : Volume
leaving = new_volume (table 12 1 (file 2 3 ∷ file 1 4 ∷ []))

byte_3 : map (byte (sector leaving 2)) (2 ∷ 3 ∷ 4 ∷ []) ++ map (byte (sector leaving 6)) (2 ∷ 3 ∷ 4 ∷ []) ≡ 0 ∷ 1 ∷ 0 ∷ 0 ∷ 3 ∷ 0 ∷ []
unfolding sector new_volume new_files repeated sector_after encode_table file_bytes encode_record entry_bytes encode_header padded
byte_3 = refl

-- "a sound volume has it right": not with another number there, in either header.
abbrev saying : (sector : ℕ) → (left : ℕ) → Volume
saying s n = store_at leaving s (set (sector leaving s) 3 n)

sound_counts : map (λ n. sound (saying 2 n)) (0 ∷ 1 ∷ 2 ∷ 3 ∷ []) ++ map (λ n. sound (saying 6 n)) (0 ∷ 1 ∷ 3 ∷ 4 ∷ [])
    ≡ false ∷ true ∷ false ∷ false ∷ false ∷ false ∷ true ∷ false ∷ []
unfolding sound lawful canonical encoded all view table_of record_in header_in decode_table decode_files decode_record decode_entries decode_header sector store_at new_volume new_files repeated sector_after encode_table file_bytes encode_record entry_bytes encode_header padded
sound_counts = refl

-- The length and sector 0 alone: each byte that is wrong there is found, and so is a byte too many or too few, one sector fewer than
-- the files need, with N to suit, and no byte at all. The records, headers, slots and later sectors may be anything.
tables_sound : map table_sound_in (tiny ∷ map (λ (x : ℕ × ℕ). set tiny x.0 x.1)
    ((258, 3) ∷ (256, 0) ∷ (511, 1) ∷ (768, 0) ∷ (1023, 1) ∷ (1279, 1) ∷ (2047, 1) ∷ []))
    ≡ replicate 8 true
unfolding table_sound_in all table_of decode_table decode_files sector new_volume new_files repeated sector_after encode_table file_bytes encode_record entry_bytes encode_header padded
tables_sound = refl

tables_unsound : map (λ (x : ℕ × ℕ). table_sound_in (set tiny x.0 x.1))
    ((0, 0) ∷ (1, 0x49) ∷ (2, 9) ∷ (3, 1) ∷ (4, 0) ∷ (4, 5) ∷ (5, 0) ∷ (5, 1) ∷ (6, 1) ∷ (7, 1) ∷ (8, 4) ∷ (10, 0) ∷ (10, 2) ∷ (11, 2) ∷ (12, 6) ∷ (15, 3) ∷ (16, 1) ∷ (255, 1) ∷ [])
    ++ map table_sound_in ((tiny ++ (0 ∷ [])) ∷ take 2047 tiny ∷ set (take 1536 tiny) 2 6 ∷ take 255 tiny ∷ [] ∷ [])
    ≡ replicate 23 false
unfolding table_sound_in all table_of decode_table decode_files sector new_volume new_files repeated sector_after encode_table file_bytes encode_record entry_bytes encode_header padded
tables_unsound = refl

-- ------------------------------------------------------------------ WellFormed
-- Record 1 of `before` has no entry; with one, that is the entry with index 0.
entry_exists : let a = changed before (set_record 1 opened) in HasEntry a 1 0 × (HasEntry a 1 1 → ⊥) × (HasEntry before 1 0 → ⊥)
    × (HasEntry a 0 0 → ⊥)
entry_exists = (
  record { client = clients_from_1.0; below = omega arith },
  λ h. omega (arith, h.below),
  λ h. omega (arith, h.below),
  λ h. clients_from_1.2 h.client,
)

no_entry_lem : no_entry ≡ entry 0 0 0
no_entry_lem = refl
