-- Examples of the question how many slots are left: its answers on a sound volume, what it tests and in which order, and what it
-- doesn't look at; and of the counts taken from a map. The checker evaluates both sides.
-- What `sound` is made of is unfolded as well, so that a question which tested it would be refused by what it answers.
use mathlib.Core.Path.{◌≡◌, refl}
use mathlib.Core.List.{List, [], ◌∷◌, ◌++◌, map}
use Prim.Native.Nat.{ℕ, ◌+◌, ◌≤◌}
use native.Mathlib.Omega.{arith}
use lib.ListN.{length, take, replicate, set}
use Rattle.interface.specs.Answers.{CountAnswer, counted, count_refused}
use Rattle.lists.specs.Lists.{all, first}
use Rattle.sector.specs.Sectors.{sector, store_at, padded}
use Rattle.sector.specs.Encoding.{file_bytes, encode_table, entry_bytes, encode_record, encode_header}
use Rattle.sector.specs.Decoding.{decode_files, decode_table, decode_entries, decode_record, decode_header}
use Rattle.sector.specs.Encoded.{has_mark}
use Rattle.volume.specs.Places.{sector_after}
use Rattle.volume.specs.Views.{View}
use Rattle.volume.specs.Volumes.{Volume, table_of, record_in, header_in, view}
use Rattle.volume.specs.Lawful.{lawful}
use Rattle.volume.specs.Sound.{encoded, canonical, sound, table_sound_in}
use Rattle.volume.specs.Format.{repeated, new_files, new_volume}
use Rattle.rules.specs.Spare.{spare, SpareReads, mapped_slots, unmapped_slots, SpareIsCount, SlotsTogether, SlotOfEachPage}
use Rattle.rules.proofs.ExampleViews.{header, at, seen, records}

-- One client; file 1 with two pages in five slots, whose header is sector 2, and file 2 with one page in three, whose header is
-- sector 8; and a sector after them.
abbrev tiny : Volume
tiny = new_volume (record { sectors = 13; clients = 1; files = record { pages = 2; slots = 5 } ∷ record { pages = 1; slots = 3 } ∷ [] })

-- With byte i of sector s changed.
abbrev with : (sector : ℕ) → (i : ℕ) → ℕ → Volume
with s i x = store_at tiny s (set (sector tiny s) i x)

-- What is answered about files 1 and 2, and about 0 and 3, which there aren't.
abbrev asked : Volume → List CountAnswer
asked v = map (spare v) (1 ∷ 2 ∷ 0 ∷ 3 ∷ [])

abbrev answered : ℕ → ℕ → List CountAnswer
answered m n = counted m ∷ counted n ∷ count_refused 6 ∷ count_refused 6 ∷ []

-- Three slots are left of five, two of three.
spares : asked tiny ≡ answered 3 2
unfolding spare first table_sound_in sound lawful canonical encoded has_mark all view table_of record_in header_in decode_table decode_files decode_record decode_entries decode_header sector new_volume new_files repeated sector_after encode_table file_bytes encode_record entry_bytes encode_header padded
spares = refl

-- "answers that byte", right or wrong, and of that file.
as_it_stands : map asked (with 2 3 7 ∷ with 8 3 255 ∷ with 2 3 0 ∷ []) ≡ answered 7 2 ∷ answered 3 255 ∷ answered 0 2 ∷ []
unfolding spare first table_sound_in sound lawful canonical encoded has_mark all view table_of record_in header_in decode_table decode_files decode_record decode_entries decode_header sector store_at new_volume new_files repeated sector_after encode_table file_bytes encode_record entry_bytes encode_header padded
as_it_stands = refl

-- It looks at nothing else: the record's mark, state and last byte, a header's holder, map, zero bytes and last byte, a slot and a
-- later sector.
others : map asked (with 1 0 0 ∷ with 1 2 3 ∷ with 1 255 1 ∷ with 2 2 9 ∷ with 2 8 1 ∷ with 2 9 99 ∷ with 2 4 1 ∷ with 2 255 1 ∷ with 8 8 3 ∷ with 4 0 1 ∷ with 12 0 1 ∷ [])
    ≡ replicate 11 (answered 3 2)
unfolding spare first table_sound_in sound lawful canonical encoded has_mark all view table_of record_in header_in decode_table decode_files decode_record decode_entries decode_header sector store_at new_volume new_files repeated sector_after encode_table file_bytes encode_record entry_bytes encode_header padded
others = refl

-- "then that header's mark by 1", each of its bytes, and no other header's: after 6, which is given for a file that there isn't.
marks_tested : map asked (with 2 0 0 ∷ with 2 1 0x49 ∷ with 8 0 0 ∷ with 8 1 0x56 ∷ [])
    ≡ (count_refused 1 ∷ counted 2 ∷ count_refused 6 ∷ count_refused 6 ∷ [])
    ∷ (count_refused 1 ∷ counted 2 ∷ count_refused 6 ∷ count_refused 6 ∷ [])
    ∷ (counted 3 ∷ count_refused 1 ∷ count_refused 6 ∷ count_refused 6 ∷ [])
    ∷ (counted 3 ∷ count_refused 1 ∷ count_refused 6 ∷ count_refused 6 ∷ [])
    ∷ []
unfolding spare first table_sound_in sound lawful canonical encoded has_mark all view table_of record_in header_in decode_table decode_files decode_record decode_entries decode_header sector store_at new_volume new_files repeated sector_after encode_table file_bytes encode_record entry_bytes encode_header padded
marks_tested = refl

-- "sector 0 and the array's length by 1", whatever the file: the mark, N, T, F, a zero byte, a header's sector, P, and the last byte;
-- a byte more, a sector fewer, and no bytes.
table_tested : map asked (with 0 0 0 ∷ with 0 2 12 ∷ with 0 4 0 ∷ with 0 5 0 ∷ with 0 6 1 ∷ with 0 8 3 ∷ with 0 10 0 ∷ with 0 255 1 ∷ [])
    ++ map asked ((tiny ++ (0 ∷ [])) ∷ take 3072 tiny ∷ [] ∷ [])
    ≡ replicate 11 (replicate 4 (count_refused 1))
unfolding spare first table_sound_in sound lawful canonical encoded has_mark all view table_of record_in header_in decode_table decode_files decode_record decode_entries decode_header sector store_at new_volume new_files repeated sector_after encode_table file_bytes encode_record entry_bytes encode_header padded
table_tested = refl

-- ------------------------------------------------------------------ the count taken from the whole map
abbrev both : View → (file : ℕ) → List ℕ × List ℕ
both a f = (mapped_slots a f, unmapped_slots a f)

-- File 1 has 6 slots, file 2 has 3: in the map are 1, 5 and 2, and 0. There is no file 3. An entry of a record uses none.
mapped : map (both (at 1)) (1 ∷ 2 ∷ 3 ∷ [])
    ≡ (1 ∷ 2 ∷ 5 ∷ [], 0 ∷ 3 ∷ 4 ∷ []) ∷ (0 ∷ [], 1 ∷ 2 ∷ []) ∷ ([], []) ∷ []
mapped = refl

-- File 1's map has a slot twice, and a number that is none of its slots; file 2's map is empty.
abbrev odd : View
odd = seen (records 1) (header 0 (4 ∷ 4 ∷ 9 ∷ [])) (header 0 [])

-- A slot that is in the map twice is one, and what isn't a slot is none.
mapped_oddly : map (both odd) (1 ∷ 2 ∷ [])
    ≡ (4 ∷ [], 0 ∷ 1 ∷ 2 ∷ 3 ∷ 5 ∷ []) ∷ ([], 0 ∷ 1 ∷ 2 ∷ []) ∷ []
mapped_oddly = refl

-- ------------------------------------------------------------------ the claims hold of these
-- Another record's mark, and another map of file 1: the answer about file 2 is the same.
reads_here : SpareReads → spare (with 1 0 0) 2 ≡ spare (with 2 8 99) 2
unfolding view table_of decode_table decode_files sector store_at new_volume new_files repeated sector_after encode_table file_bytes encode_record entry_bytes encode_header padded
reads_here h = h (with 1 0 0) (with 2 8 99) 2 refl refl (λ i. refl)

-- There is no file 3: nothing of the sector behind file 2 is asked for, though a third header would be there.
reads_no_file : SpareReads → spare (with 12 0 1) 3 ≡ spare tiny 3
unfolding view table_of decode_table decode_files sector store_at new_volume new_files repeated sector_after encode_table file_bytes encode_record entry_bytes encode_header padded
reads_no_file h = h (with 12 0 1) tiny 3 refl refl (λ i. absurd (not_3 i.high))
  where
    not_3 : 3 ≤ 2 → ⊥
    not_3 le = omega (arith, le)

-- On a sound volume the question answers as many as its map doesn't use.
count_here : SpareIsCount → (spare tiny 1 ≡ counted 3) × (spare tiny 2 ≡ counted 2)
unfolding sound lawful canonical encoded all view table_of record_in header_in decode_table decode_files decode_record decode_entries decode_header sector new_volume new_files repeated sector_after encode_table file_bytes encode_record entry_bytes encode_header padded
count_here h = (h tiny 1 refl (record { low = omega arith; high = omega arith }), h tiny 2 refl (record { low = omega arith; high = omega arith }))

-- Mapped and unmapped slots together are all of a file, with an odd map too; a file that there isn't has none.
together_here : SlotsTogether → (length (mapped_slots odd 1) + length (unmapped_slots odd 1) ≡ 6)
    × (length (mapped_slots odd 3) + length (unmapped_slots odd 3) ≡ 0)
together_here h = (h odd 1, h odd 3)

-- On a sound volume as many slots are mapped as the file has pages: two of file 1, one of file 2.
each_page_here : SlotOfEachPage → (length (mapped_slots (view tiny) 1) ≡ 2) × (length (mapped_slots (view tiny) 2) ≡ 1)
unfolding sound lawful canonical encoded all view table_of record_in header_in decode_table decode_files decode_record decode_entries decode_header sector new_volume new_files repeated sector_after encode_table file_bytes encode_record entry_bytes encode_header padded
each_page_here h = (h tiny 1 refl (record { low = omega arith; high = omega arith }), h tiny 2 refl (record { low = omega arith; high = omega arith }))
