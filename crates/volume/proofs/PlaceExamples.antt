-- Examples of where everything lies and of what stands there: places, views and updates, stores, the view of a volume. The
-- checker evaluates both sides. The other examples share the names at the top.
use mathlib.Core.Path.{◌≡◌, refl}
use mathlib.Core.Bool.{true, false}
use mathlib.Core.List.{List, [], ◌∷◌, ◌++◌, map}
use Prim.Native.Nat.{ℕ}
use native.Mathlib.Omega.{arith}
use lib.ListN.{get_or, replicate}
use Rattle.sector.specs.Contents.{File, Table, Entry, Record, Header, idle_record}
use Rattle.sector.specs.Sectors.{sector, store_at, padded}
use Rattle.sector.specs.Encoding.{file_bytes, encode_table, entry_bytes, encode_record, encode_header}
use Rattle.sector.specs.Decoding.{decode_files, decode_table, decode_entries, decode_record, decode_header}
use Rattle.volume.specs.Places.{is_client, client_numbers, is_file, file_numbers, file_at, IsClient, IsFile, IsPage, sector_after, header_sector, end_sector, table_place, record_place, header_place, slot_place, sector_of}
use Rattle.volume.specs.Views.{View, no_header, set_record, set_header, set_slot, place_of, changed, changed_by}
use Rattle.volume.specs.Volumes.{Volume, table_of, record_in, header_in, slot_in, view}
use Rattle.volume.specs.Stores.{cut_at, stores_of, updated, all_stores}
use Rattle.volume.specs.Format.{repeated, new_files, new_volume}

abbrev pub file : (pages : ℕ) → (slots : ℕ) → File
file p r = record { pages = p; slots = r }

abbrev pub table : (sectors : ℕ) → (clients : ℕ) → List File → Table
table n t fs = record { sectors = n; clients = t; files = fs }

abbrev pub entry : (file : ℕ) → (page : ℕ) → (slot : ℕ) → Entry
entry f p r = record { file = f; page = p; slot = r }

abbrev pub rec : (state : ℕ) → List Entry → Record
rec state es = record { state = state; entries = es }

abbrev pub header : (holder : ℕ) → List ℕ → Header
header holder m = record { holder = holder; map = m }

-- Two clients and three files, in as many sectors as they need.
abbrev pub three_files : Table
three_files = table 13 2 (file 2 3 ∷ file 1 3 ∷ file 1 1 ∷ [])

-- ------------------------------------------------------------------ Places
-- Clients are "1 to T", files "count from 1".
who_is_client : map (is_client three_files) (0 ∷ 1 ∷ 2 ∷ 3 ∷ []) ≡ false ∷ true ∷ true ∷ false ∷ []
who_is_client = refl

which_is_file : map (is_file three_files) (0 ∷ 1 ∷ 3 ∷ 4 ∷ []) ≡ false ∷ true ∷ true ∷ false ∷ []
which_is_file = refl

all_clients_and_files : client_numbers three_files ∷ file_numbers three_files ∷ [] ≡ (1 ∷ 2 ∷ []) ∷ (1 ∷ 2 ∷ 3 ∷ []) ∷ []
all_clients_and_files = refl

-- A file that there isn't has no page and no slot.
files_by_number : map (file_at three_files) (1 ∷ 2 ∷ 3 ∷ 4 ∷ []) ≡ file 2 3 ∷ file 1 3 ∷ file 1 1 ∷ file 0 0 ∷ []
files_by_number = refl

-- The same as facts.
pub clients_from_1 : IsClient three_files 1 × IsClient three_files 2 × (IsClient three_files 0 → ⊥) × (IsClient three_files 3 → ⊥)
clients_from_1 = (
  record { low = omega arith; high = omega arith },
  record { low = omega arith; high = omega arith },
  λ h. omega (arith, h.low),
  λ h. omega (arith, h.high),
)

files_from_1 : IsFile three_files 1 × IsFile three_files 3 × (IsFile three_files 0 → ⊥) × (IsFile three_files 4 → ⊥)
files_from_1 = (
  record { low = omega arith; high = omega arith },
  record { low = omega arith; high = omega arith },
  λ h. omega (arith, h.low),
  λ h. omega (arith, h.high),
)

-- File 1 has pages 0 and 1, but no page 2.
pages_from_0 : IsPage three_files 1 0 × IsPage three_files 1 1 × (IsPage three_files 1 2 → ⊥) × (IsPage three_files 4 0 → ⊥)
pages_from_0 = (
  record { file = files_from_1.0; below = omega arith },
  record { file = files_from_1.0; below = omega arith },
  λ h. omega (arith, h.below),
  λ h. omega (arith, h.file.high),
)

-- "File 1's header is sector T + 1; each next header follows the previous file's last real sector."
headers_in_lem : map (header_sector three_files) (1 ∷ 2 ∷ 3 ∷ []) ++ (end_sector three_files ∷ []) ≡ 3 ∷ 7 ∷ 11 ∷ 13 ∷ []
unfolding sector_after
headers_in_lem = refl

-- "kiln k's intentions record in sector k"; "Real r of a file is the sector at header + 1 + r."
sectors_of : map (sector_of three_files) (table_place ∷ record_place 2 ∷ header_place 2 ∷ slot_place 2 0 ∷ slot_place 2 1 ∷ [])
    ≡ 0 ∷ 2 ∷ 7 ∷ 8 ∷ 9 ∷ []
unfolding sector_after
sectors_of = refl

-- ------------------------------------------------------------------ Views
-- Every record is open, and every header is held by client 1.
abbrev pub before : View
before = record { table = three_files; records = λ k. rec 1 []; headers = λ f. header 1 (0 ∷ []); slots = λ f r. f ∷ r ∷ [] }

-- "A number that names nothing has an empty one."
no_header_lem : no_header ≡ header 0 []
no_header_lem = refl

places_of : map place_of (set_record 3 idle_record ∷ set_header 2 no_header ∷ set_slot 2 1 [] ∷ [])
    ≡ record_place 3 ∷ header_place 2 ∷ slot_place 2 1 ∷ []
places_of = refl

-- One record, one header, one slot changes, and nothing beside it.
record_changed : map (changed before (set_record 2 idle_record)).records (1 ∷ 2 ∷ 3 ∷ []) ≡ rec 1 [] ∷ idle_record ∷ rec 1 [] ∷ []
record_changed = refl

header_changed : map (changed before (set_header 2 no_header)).headers (1 ∷ 2 ∷ 3 ∷ [])
    ≡ header 1 (0 ∷ []) ∷ no_header ∷ header 1 (0 ∷ []) ∷ []
header_changed = refl

slot_changed : let a = changed before (set_slot 2 1 []) in
    a.slots 2 1 ∷ a.slots 1 1 ∷ a.slots 2 0 ∷ a.slots 1 2 ∷ [] ≡ [] ∷ (1 ∷ 1 ∷ []) ∷ (2 ∷ 0 ∷ []) ∷ (1 ∷ 2 ∷ []) ∷ []
slot_changed = refl

rest_unchanged : let r = changed before (set_record 2 idle_record) in
    let h = changed before (set_header 2 no_header) in
    let d = changed before (set_slot 2 1 []) in
    (r.table ∷ h.table ∷ d.table ∷ [] ≡ three_files ∷ three_files ∷ three_files ∷ [])
    × (h.records 2 ∷ d.records 2 ∷ [] ≡ rec 1 [] ∷ rec 1 [] ∷ [])
    × (r.headers 2 ∷ d.headers 2 ∷ [] ≡ header 1 (0 ∷ []) ∷ header 1 (0 ∷ []) ∷ [])
    × (r.slots 2 1 ∷ h.slots 2 1 ∷ [] ≡ (2 ∷ 1 ∷ []) ∷ (2 ∷ 1 ∷ []) ∷ [])
rest_unchanged = (refl, refl, refl, refl)

-- In order: of two updates of a place the later one stays, and one of another place too.
changed_in_order : let a = changed_by before (set_record 2 (rec 2 []) ∷ set_record 1 (rec 2 []) ∷ set_record 2 idle_record ∷ []) in
    map a.records (1 ∷ 2 ∷ 3 ∷ []) ≡ rec 2 [] ∷ idle_record ∷ rec 1 [] ∷ []
changed_in_order = refl

-- ------------------------------------------------------------------ Stores
-- The sector and the bytes of each kind of update, in their order.
stores_of_lem : all_stores three_files (set_header 2 (header 1 (0 ∷ [])) ∷ set_record 2 (rec 1 []) ∷ set_slot 2 1 (7 ∷ []) ∷ [])
    ≡ record { target = 7; bytes = encode_header (file 1 3) (header 1 (0 ∷ [])) }
    ∷ record { target = 2; bytes = encode_record (rec 1 []) }
    ∷ record { target = 9; bytes = 7 ∷ [] }
    ∷ []
unfolding all_stores sector_after
stores_of_lem = refl

-- The first so many are made, the first one first: of two stores into a sector the later one stays.
cut_in_order : map (cut_at (replicate 512 1) (record { target = 1; bytes = replicate 256 2 }
    ∷ record { target = 0; bytes = replicate 256 3 } ∷ record { target = 1; bytes = replicate 256 4 } ∷ [])) (0 ∷ 1 ∷ 2 ∷ 3 ∷ 4 ∷ [])
    ≡ replicate 512 1
    ∷ (replicate 256 1 ++ replicate 256 2)
    ∷ (replicate 256 3 ++ replicate 256 2)
    ∷ (replicate 256 3 ++ replicate 256 4)
    ∷ (replicate 256 3 ++ replicate 256 4)
    ∷ []
unfolding cut_at store_at
cut_in_order = refl

-- An update makes its one store.
update_stored : updated three_files (replicate 1024 0) (set_record 2 (rec 1 []))
    ≡ cut_at (replicate 1024 0) (stores_of three_files (set_record 2 (rec 1 []))) 1
unfolding cut_at
update_stored = refl

-- ------------------------------------------------------------------ Volumes
-- V in 12 sectors: record 1 is open and gives slot 2 for file 1, which it holds, and the sector after the last file has bytes of
-- its own.
abbrev pub small_table : Table
small_table = table 12 2 (file 2 3 ∷ file 1 3 ∷ [])

abbrev pub opened : Record
opened = rec 1 (entry 1 0 2 ∷ [])

abbrev small : Volume
small = cut_at (new_volume small_table)
    (record { target = 1; bytes = encode_record opened }
    ∷ record { target = 3; bytes = encode_header (file 2 3) (header 1 (0 ∷ 1 ∷ [])) }
    ∷ record { target = 6; bytes = replicate 256 0xA1 }
    ∷ record { target = 11; bytes = replicate 256 7 }
    ∷ []) 4

-- The table, the records of clients 1 and 2 and the headers of files 1 and 2; a client and a file 0 or 3 have an empty one.
small_view_lem : let a = view small in
    (a.table ≡ small_table)
    × (map a.records (0 ∷ 1 ∷ 2 ∷ 3 ∷ []) ≡ idle_record ∷ opened ∷ idle_record ∷ idle_record ∷ [])
    × (map a.headers (0 ∷ 1 ∷ 2 ∷ 3 ∷ []) ≡ no_header ∷ header 1 (0 ∷ 1 ∷ []) ∷ header 0 (0 ∷ []) ∷ no_header ∷ [])
unfolding view table_of record_in header_in decode_table decode_files decode_record decode_entries decode_header sector cut_at store_at new_volume new_files repeated sector_after encode_table file_bytes encode_record entry_bytes encode_header padded
small_view_lem = (refl, refl, refl)

-- The table is read from sector 0 alone: a 63rd file would lie in the next one.
table_in_sector_0 : map (λ i. get_or (table_of (replicate 512 63)).files i (file 1 1)) (61 ∷ 62 ∷ []) ≡ file 63 63 ∷ file 0 0 ∷ []
unfolding table_of decode_table decode_files sector
table_in_sector_0 = refl

-- Slots 0 and 2 of file 1; its slot 3, and slot 0 of a file 0 or 3, aren't there.
small_slots : let a = view small in
    a.slots 1 0 ∷ a.slots 1 2 ∷ a.slots 1 3 ∷ a.slots 0 0 ∷ a.slots 3 0 ∷ []
    ≡ replicate 256 0 ∷ replicate 256 0xA1 ∷ [] ∷ [] ∷ [] ∷ []
unfolding view table_of slot_in decode_table decode_files sector cut_at store_at new_volume new_files repeated sector_after encode_table file_bytes encode_record entry_bytes encode_header padded
small_slots = refl
