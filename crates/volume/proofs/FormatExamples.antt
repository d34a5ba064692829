-- Examples of format: the table that its arguments ask for, its refusals at each limit and one beyond it, by numbers alone, the
-- new volume, and what format answers. The checker evaluates both sides.
use mathlib.Core.Path.{◌≡◌, refl}
use mathlib.Core.Bool.{true}
use mathlib.Core.List.{List, [], ◌∷◌, ◌++◌, map}
use Prim.Native.Nat.{ℕ}
use lib.Dec.{eqb}
use lib.ListN.{length, replicate, set}
use Rattle.interface.specs.Answers.{FormatAnswer, format_done, format_refused}
use Rattle.lists.specs.Lists.{all, first, every}
use Rattle.sector.specs.Contents.{Bytes, Table}
use Rattle.sector.specs.Sectors.{padded}
use Rattle.volume.specs.Volumes.{Volume}
use Rattle.sector.specs.Encoding.{file_bytes, encode_table, entry_bytes, encode_record, encode_header}
use Rattle.volume.specs.Places.{sector_after}
use Rattle.sector.specs.Shapes.{files_of}
use Rattle.volume.specs.Format.{length_fits, shape_fits, end_fits, table_for, format_tests, repeated, new_files, new_volume, Formatted, format}
use Rattle.volume.proofs.PlaceExamples.{file, table, rec, header, small_table}

-- ------------------------------------------------------------------ Arguments
-- "a byte list of P, R pairs": a byte left over makes no file.
pairs : map files_of ([] ∷ (2 ∷ 3 ∷ 1 ∷ 4 ∷ []) ∷ (2 ∷ 3 ∷ 1 ∷ []) ∷ []) ≡ [] ∷ (file 2 3 ∷ file 1 4 ∷ []) ∷ (file 2 3 ∷ []) ∷ []
unfolding files_of
pairs = refl

-- N is counted in sectors.
table_for_lem : table_for 3072 2 (2 ∷ 3 ∷ 1 ∷ 3 ∷ []) ≡ small_table
unfolding files_of
table_for_lem = refl

-- ------------------------------------------------------------------ Refusals
-- The refusal, or 0, of an array of so many bytes, T and the list.
record Row : Type 0 where
  bytes : ℕ
  clients : ℕ
  shape : Bytes
  refusal : ℕ

abbrev row : ℕ → ℕ → Bytes → ℕ → Row
row n T l r = record { bytes = n; clients = T; shape = l; refusal = r }

-- In 1,024 sectors.
abbrev shaped : (clients : ℕ) → Bytes → (refusal : ℕ) → Row
shaped T l r = row 262144 T l r

abbrev rows : List Row
rows =
    -- 13: "length not 256 × N, N to 1,024"
    row 262144 1 (1 ∷ 1 ∷ []) 0 ∷ row 262400 1 (1 ∷ 1 ∷ []) 13 ∷ row 262143 1 (1 ∷ 1 ∷ []) 13 ∷ row 1920 1 (1 ∷ 1 ∷ []) 13
    -- 14: "T, list length (even, 2 to 32), P or R out of range"
    ∷ shaped 4 (1 ∷ 1 ∷ []) 0 ∷ shaped 5 (1 ∷ 1 ∷ []) 14 ∷ shaped 0 (1 ∷ 1 ∷ []) 14
    ∷ shaped 1 [] 14 ∷ shaped 1 (1 ∷ []) 14 ∷ shaped 1 (1 ∷ 1 ∷ 1 ∷ []) 14
    ∷ shaped 1 (repeated 16 (1 ∷ 1 ∷ [])) 0 ∷ shaped 1 (repeated 17 (1 ∷ 1 ∷ [])) 14
    ∷ shaped 1 (120 ∷ 240 ∷ []) 0 ∷ shaped 1 (121 ∷ 240 ∷ []) 14 ∷ shaped 1 (0 ∷ 1 ∷ []) 14
    ∷ shaped 1 (120 ∷ 120 ∷ []) 0 ∷ shaped 1 (120 ∷ 119 ∷ []) 14 ∷ shaped 1 (1 ∷ 241 ∷ []) 14
    ∷ shaped 1 (1 ∷ 1 ∷ 121 ∷ 240 ∷ []) 14 ∷ shaped 1 (2 ∷ 1 ∷ 1 ∷ 1 ∷ []) 14
    -- 15: "needs more than N sectors"
    ∷ row 1024 1 (1 ∷ 1 ∷ []) 0 ∷ row 768 1 (1 ∷ 1 ∷ []) 15 ∷ row 0 1 (1 ∷ 1 ∷ []) 15
    ∷ row 1792 2 (1 ∷ 1 ∷ 1 ∷ 1 ∷ []) 0 ∷ row 1536 2 (1 ∷ 1 ∷ 1 ∷ 1 ∷ []) 15
    -- "The lowest number that applies is given"
    ∷ row 262400 0 [] 13 ∷ row 769 1 (1 ∷ 241 ∷ []) 13 ∷ row 768 1 (1 ∷ 241 ∷ []) 14
    ∷ []

refusals_hold_lem : every (λ x. eqb (first (format_tests x.bytes x.clients x.shape)) x.refusal) rows ≡ true
unfolding all first sector_after files_of repeated format_tests length_fits shape_fits end_fits
refusals_hold_lem = refl

-- ------------------------------------------------------------------ New volumes
-- A table, the idle records, then of each file the header, "map[p] = p", held by nobody, and its zero slots; "all other sectors
-- zero".
new_volume_lem : new_volume (table 9 2 (file 2 3 ∷ file 1 1 ∷ []))
    ≡ encode_table (table 9 2 (file 2 3 ∷ file 1 1 ∷ []))
    ++ (encode_record (rec 0 []) ++ (encode_record (rec 0 [])
    ++ (encode_header (file 2 3) (header 0 (0 ∷ 1 ∷ [])) ++ (replicate 768 0
    ++ (encode_header (file 1 1) (header 0 (0 ∷ [])) ++ replicate 256 0)))))
unfolding new_volume repeated new_files sector_after encode_table encode_record encode_header file_bytes entry_bytes padded
new_volume_lem = refl

-- One client and one file of one page in one slot, in as many sectors as they need.
abbrev one_file : Table
one_file = table 4 1 (file 1 1 ∷ [])

abbrev formatted : FormatAnswer → Volume → Formatted
formatted a v = record { answer = a; volume = v }

-- "answers done without a count". "all other sectors zero": of what the array had, nothing stays, and its length does.
format_answers_done : map (λ v. format v 1 (1 ∷ 1 ∷ [])) (replicate 1024 0xEE ∷ replicate 1536 0xEE ∷ [])
    ≡ map (formatted format_done) (new_volume one_file ∷ (set (new_volume one_file) 2 6 ++ replicate 512 0) ∷ [])
unfolding format format_tests length_fits shape_fits end_fits first all files_of new_volume repeated new_files sector_after encode_table encode_record encode_header file_bytes entry_bytes padded
format_answers_done = refl

-- The array's length, T and the list are tested. Refused: the number, and the array as it was.
too_many_sectors : (v : Volume) → length v ≡ 262400 → format v 1 (1 ∷ 1 ∷ []) ≡ formatted (format_refused 13) v
unfolding first format_tests length_fits shape_fits end_fits format
too_many_sectors v e = rw e refl

too_many_clients : (v : Volume) → length v ≡ 1024 → format v 5 (1 ∷ 1 ∷ []) ≡ formatted (format_refused 14) v
unfolding first all format_tests length_fits shape_fits end_fits format
too_many_clients v e = rw e refl

too_many_slots : (v : Volume) → length v ≡ 1024 → format v 1 (1 ∷ 2 ∷ []) ≡ formatted (format_refused 15) v
unfolding first all format_tests length_fits shape_fits end_fits files_of sector_after format
too_many_slots v e = rw e refl
