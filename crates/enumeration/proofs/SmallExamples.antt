-- Examples of `Lists`, `Choices`, `Small`, `Statements` and `Advances`, at their limits. The checker evaluates both sides.
use mathlib.Core.Path.{◌≡◌, refl, ap}
use mathlib.Core.Bool.{true, false}
use mathlib.Core.List.{List, [], ◌∷◌, ◌++◌, map, flat_map}
use Prim.Native.Nat.{ℕ}
use lib.ListN.{get_or, take, replicate}
use Rattle.lists.specs.Lists.{all}
use Rattle.sector.specs.Contents.{idle_record, new_header}
use Rattle.sector.specs.Sectors.{sector, padded, zero_sector}
use Rattle.sector.specs.Encoding.{file_bytes, encode_table, entry_bytes, encode_record, encode_header}
use Rattle.sector.specs.Decoding.{decode_files, decode_table, decode_entries, decode_record, decode_header}
use Rattle.volume.specs.Places.{sector_after}
use Rattle.volume.specs.Lawful.{lawful}
use Rattle.volume.specs.Volumes.{Volume, table_of, record_in, header_in, slot_in, view}
use Rattle.volume.specs.Sound.{encoded, canonical, sound}
use Rattle.volume.specs.Assembled.{file_owners, owners, joined}
use Rattle.volume.specs.Format.{repeated, new_files, new_volume}
use Rattle.std.specs.Prelude.{Ok, Err, Some, None}
use Rattle.enumeration.specs.Lists.{lists_of}
use Rattle.enumeration.specs.Choices.{small_file, small_table, entry_choices, entry_lists, record_choices, slots_left, map_choices, header_choices}
use Rattle.enumeration.specs.Small.{small_volume, candidates, small_volumes}
use Rattle.enumeration.specs.Statements.{precedes}
use Rattle.enumeration.specs.Advances.{bad_length, first_sound, advance, walked}
use Rattle.enumeration.proofs.CountLaws.{fitted, volumes_fitted}

-- ------------------------------------------------------------------ lists and their order
-- None, and two, of two, the first element slowest.
lists_of_lem : lists_of {A = ℕ} 0 (1 ∷ 5 ∷ []) ++ lists_of 2 (1 ∷ 5 ∷ []) ≡ [] ∷ (1 ∷ 1 ∷ []) ∷ (1 ∷ 5 ∷ []) ∷ (5 ∷ 1 ∷ []) ∷ (5 ∷ 5 ∷ []) ∷ []
unfolding flat_map lists_of
lists_of_lem = refl

-- The first place that differs decides, whatever comes behind it; a front comes before the whole.
comes_before : precedes (1 ∷ 9 ∷ []) (2 ∷ 0 ∷ []) ∷ precedes (1 ∷ 2 ∷ []) (1 ∷ 3 ∷ []) ∷ precedes [] (0 ∷ []) ∷ [] ≡ true ∷ true ∷ true ∷ []
comes_before = refl

-- The same turned round, and nothing comes before itself.
comes_not_before : precedes (2 ∷ 0 ∷ []) (1 ∷ 9 ∷ []) ∷ precedes (1 ∷ 3 ∷ []) (1 ∷ 2 ∷ []) ∷ precedes (0 ∷ []) [] ∷ []
    ≡ false ∷ false ∷ false ∷ []
comes_not_before = refl

not_itself : precedes (1 ∷ 2 ∷ []) (1 ∷ 2 ∷ []) ∷ precedes [] [] ∷ [] ≡ false ∷ false ∷ []
not_itself = refl

-- ------------------------------------------------------------------ choices
-- "T = 1, F = 1, P = 2, R = 3, N = 6": mark, N, T, F, 00 00, the file's header in sector 2, P and R.
table_bytes_lem : take 13 (encode_table small_table) ≡ 0x4B ∷ 0x56 ∷ 6 ∷ 0 ∷ 1 ∷ 1 ∷ 0 ∷ 0 ∷ 2 ∷ 0 ∷ 2 ∷ 3 ∷ 0 ∷ []
unfolding padded encode_table file_bytes
table_bytes_lem = refl

-- Pages before slots.
entries_in_order : map (λ e. e.page ∷ e.slot ∷ []) entry_choices
    ≡ (0 ∷ 0 ∷ []) ∷ (0 ∷ 1 ∷ []) ∷ (0 ∷ 2 ∷ []) ∷ (1 ∷ 0 ∷ []) ∷ (1 ∷ 1 ∷ []) ∷ (1 ∷ 2 ∷ []) ∷ []
unfolding flat_map entry_choices
entries_in_order = refl

-- A byte that is no slot leaves one more; a slot that two pages name counts twice.
slots_left_lem : map slots_left ((0 ∷ 2 ∷ []) ∷ (0xFF ∷ 1 ∷ []) ∷ (3 ∷ 0xFF ∷ []) ∷ (2 ∷ 2 ∷ []) ∷ []) ≡ 1 ∷ 2 ∷ 3 ∷ 1 ∷ []
slots_left_lem = refl

-- ------------------------------------------------------------------ small volumes
-- The first is the one that format lays out.
first_small : get_or small_volumes 0 [] ≡ new_volume small_table
unfolding all flat_map lists_of entry_choices entry_lists record_choices map_choices header_choices fitted small_volume padded zero_sector file_bytes encode_table entry_bytes encode_record encode_header file_owners owners joined sector_after new_volume repeated new_files
first_small = ap (λ (l : List Volume). get_or l 0 []) volumes_fitted

-- The last one: decided, page 1 to slot 2 and page 0 to slot 1; nobody holds the file, and its map is 02 01.
abbrev last_volume : Volume
last_volume = small_volume (record { state = 2; entries = record { file = 1; page = 1; slot = 2 } ∷ record { file = 1; page = 0; slot = 1 } ∷ [] })
    (record { holder = 0; map = 2 ∷ 1 ∷ [] })

last_small : get_or small_volumes 269 [] ≡ last_volume
unfolding all flat_map lists_of entry_choices entry_lists record_choices map_choices header_choices fitted
last_small = ap (λ (l : List Volume). get_or l 269 []) volumes_fitted

-- ------------------------------------------------------------------ advances
-- An array of other bytes than zeros.
sevens : ℕ → Volume
sevens n = replicate n 7

-- Of another length it stays as it is, wherever the advance begins.
other_lengths : map (λ n. advance (sevens n) 0) (0 ∷ 1535 ∷ 1537 ∷ []) ≡ map (λ n. record { answer = Err bad_length; volume = sevens n }) (0 ∷ 1535 ∷ 1537 ∷ [])
unfolding advance sevens
other_lengths = refl

short_at_the_end : advance (sevens 1535) 2322 ≡ record { answer = Err bad_length; volume = sevens 1535 }
unfolding advance sevens
short_at_the_end = refl

-- So a walk there puts nothing.
no_walk : walked 1 (sevens 1535) 0 ≡ []
unfolding walked advance sevens
no_walk = refl

-- Candidate 0 has the map 00 00, which isn't sound; 1 is.
first_advance : advance (sevens 1536) 0 ≡ record { answer = Ok (Some 2); volume = small_volume idle_record (new_header small_file) }
unfolding sevens flat_map lists_of entry_choices entry_lists record_choices map_choices header_choices candidates first_sound advance small_volume owners file_owners joined zero_sector all sector padded file_bytes encode_table entry_bytes encode_record encode_header decode_files decode_table decode_entries decode_record decode_header sector_after lawful table_of record_in header_in slot_in view encoded canonical sound
first_advance = refl

-- Candidate 2,239 is the last that is sound; there are 2,322.
last_advances : map (advance (sevens 1536)) (2239 ∷ 2240 ∷ 2322 ∷ 5000 ∷ [])
    ≡ record { answer = Ok (Some 2240); volume = last_volume } ∷ map (λ (n : ℕ). record { answer = Ok None; volume = sevens 1536 }) (1 ∷ 2 ∷ 3 ∷ [])
unfolding sevens flat_map lists_of entry_choices entry_lists record_choices map_choices header_choices candidates first_sound advance small_volume owners file_owners joined zero_sector all sector padded file_bytes encode_table entry_bytes encode_record encode_header decode_files decode_table decode_entries decode_record decode_header sector_after lawful table_of record_in header_in slot_in view encoded canonical sound
last_advances = refl
