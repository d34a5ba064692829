-- Examples of the tests over lists, of sectors and stores, and of what each control sector's bytes say. The checker evaluates
-- both sides.
use mathlib.Core.Path.{◌≡◌, refl}
use mathlib.Core.Bool.{Bool, true, false}
use mathlib.Core.List.{List, [], ◌∷◌, ◌++◌, map}
use mathlib.Core.Option.{none, some}
use Prim.Native.Nat.{ℕ}
use lib.Dec.{eqb, ltb}
use lib.ListN.{replicate, set}
use Rattle.lists.specs.Lists.{when◌then◌else◌, between, all, first, every, any, filter, find, is_some, distinct, member, same, from}
use Rattle.sector.specs.Layout.{sector_limit, client_limit, file_limit, page_limit, slot_limit, entry_limit}
use Rattle.sector.specs.Contents.{Bytes, File, Table, Entry, Record, Header, first_header, next_header, spare_slots, is_idle, is_open, is_decided_record, idle_record, open_record, decided_record, appended}
use Rattle.sector.specs.Entries.{for_file, for_page, gives_slot, redone, pages_below, file_pages_below}
use Rattle.sector.specs.Sectors.{sector, store_at, byte, word, word_bytes, padded, zero_sector}
use Rattle.sector.specs.Encoding.{file_bytes, encode_table, entry_bytes, encode_record, header_with, encode_header}
use Rattle.sector.specs.Decoding.{sectors_in, clients_in, file_count_in, header_sector_in, file_in, decode_files, decode_table, state_in, count_in, entry_in, decode_entries, decode_record, holder_in, spare_in, map_in, decode_header}
use Rattle.sector.specs.Encoded.{is_table_encoding, is_record_encoding, is_header_encoding, has_mark, has_header_mark}
use Rattle.sector.specs.Edits.{entry_applied, entries_applied}

-- ------------------------------------------------------------------ Lists
abbrev picked : Bool → ℕ
picked b = when b then 1 else 2

choice : map picked (true ∷ false ∷ []) ≡ 1 ∷ 2 ∷ []
choice = refl

-- Both ends belong to it.
ends_included : map (λ x. between 2 x 4) (1 ∷ 2 ∷ 4 ∷ 5 ∷ []) ≡ false ∷ true ∷ true ∷ false ∷ []
ends_included = refl

-- One test that fails is enough, wherever it stands; of no tests all hold.
all_tests : all [] ∷ all (true ∷ true ∷ []) ∷ all (false ∷ true ∷ []) ∷ all (true ∷ false ∷ []) ∷ []
    ≡ true ∷ true ∷ false ∷ false ∷ []
unfolding all
all_tests = refl

-- The first that holds, not the last; 0 where none does.
first_test : first ((3, false) ∷ (5, true) ∷ (7, true) ∷ []) ∷ first ((3, false) ∷ []) ∷ first [] ∷ [] ≡ 5 ∷ 0 ∷ 0 ∷ []
unfolding first
first_test = refl

-- Is a number below 3?
abbrev low : ℕ → Bool
low n = ltb n 3

every_one : map (every low) ([] ∷ (1 ∷ 2 ∷ []) ∷ (3 ∷ 1 ∷ []) ∷ (1 ∷ 3 ∷ []) ∷ []) ≡ true ∷ true ∷ false ∷ false ∷ []
every_one = refl

any_one : map (any low) ([] ∷ (4 ∷ 3 ∷ []) ∷ (1 ∷ 3 ∷ []) ∷ (3 ∷ 1 ∷ []) ∷ []) ≡ false ∷ false ∷ true ∷ true ∷ []
any_one = refl

-- In the order of the list.
filtered : filter low (2 ∷ 4 ∷ 1 ∷ 3 ∷ 2 ∷ []) ≡ 2 ∷ 1 ∷ 2 ∷ []
filtered = refl

-- The first of those that fit.
found_first : map (find low) ((4 ∷ 2 ∷ 1 ∷ []) ∷ (4 ∷ 3 ∷ []) ∷ [] ∷ []) ≡ some 2 ∷ none ∷ none ∷ []
found_first = refl

there_is_one : map is_some (some true ∷ none ∷ []) ≡ true ∷ false ∷ []
there_is_one = refl

-- Each is compared with every later one, not with its neighbour alone; the earlier one comes first in the test.
distinct_ones : map (distinct eqb) ([] ∷ (1 ∷ 2 ∷ 3 ∷ []) ∷ (1 ∷ 2 ∷ 1 ∷ []) ∷ (2 ∷ 1 ∷ 1 ∷ []) ∷ [])
    ++ map (distinct ltb) ((2 ∷ 1 ∷ []) ∷ (1 ∷ 2 ∷ []) ∷ [])
    ≡ true ∷ true ∷ false ∷ false ∷ true ∷ false ∷ []
distinct_ones = refl

members : map (λ x. member x (4 ∷ 2 ∷ [])) (2 ∷ 3 ∷ 4 ∷ []) ≡ true ∷ false ∷ true ∷ []
members = refl

-- Lists of which one begins with the other are not the same.
same_lists : same [] [] ∷ same [] (1 ∷ []) ∷ same (1 ∷ []) [] ∷ same (1 ∷ 2 ∷ []) (1 ∷ 2 ∷ []) ∷ same (1 ∷ 2 ∷ []) (1 ∷ 3 ∷ [])
    ∷ same (1 ∷ 2 ∷ []) (3 ∷ 2 ∷ []) ∷ []
    ≡ true ∷ false ∷ false ∷ true ∷ false ∷ false ∷ []
same_lists = refl

numbers_from : from 3 2 ++ from 1 0 ≡ 3 ∷ 4 ∷ []
numbers_from = refl

-- ------------------------------------------------------------------ Sectors
-- Two sectors and 2 bytes.
abbrev volume : Bytes
volume = replicate 256 1 ++ (replicate 256 2 ++ (3 ∷ 4 ∷ []))

-- "Sector s is the 256 bytes from 256 × s."
sectors : map (sector volume) (0 ∷ 1 ∷ 2 ∷ []) ≡ replicate 256 1 ∷ replicate 256 2 ∷ (3 ∷ 4 ∷ []) ∷ []
unfolding sector
sectors = refl

-- "A store replaces the 256 bytes of one sector": what is before and after it stays.
stores : map (λ s. store_at volume s (replicate 256 9)) (0 ∷ 1 ∷ [])
    ≡ (replicate 256 9 ++ (replicate 256 2 ++ (3 ∷ 4 ∷ []))) ∷ (replicate 256 1 ++ (replicate 256 9 ++ (3 ∷ 4 ∷ []))) ∷ []
unfolding store_at
stores = refl

-- Past the end there is 00.
bytes : map (byte (7 ∷ 8 ∷ [])) (0 ∷ 1 ∷ 2 ∷ []) ≡ 7 ∷ 8 ∷ 0 ∷ []
bytes = refl

-- "Two-byte numbers are unsigned, low byte first": 0B 01 is 267.
low_byte_first : word (0xFF ∷ 0x0B ∷ 0x01 ∷ []) 1 ≡ 267
low_byte_first = refl

low_byte_written_first : word_bytes 267 (9 ∷ []) ∷ word_bytes 1024 [] ∷ [] ≡ (0x0B ∷ 0x01 ∷ 9 ∷ []) ∷ (0x00 ∷ 0x04 ∷ []) ∷ []
low_byte_written_first = refl

-- "A control sector's bytes not named here are 00", up to 256 bytes in all.
padding : map padded ((7 ∷ 8 ∷ []) ∷ replicate 256 7 ∷ []) ≡ (7 ∷ 8 ∷ replicate 254 0) ∷ replicate 256 7 ∷ []
unfolding padded
padding = refl

zeros : zero_sector ≡ replicate 256 0
unfolding zero_sector
zeros = refl

-- ------------------------------------------------------------------ Layout
-- "N at most 1,024"; "1 to 4"; "1 to 16"; "1 to 120"; "P to 240"; "0 to 62".
limits : sector_limit ∷ client_limit ∷ file_limit ∷ page_limit ∷ slot_limit ∷ entry_limit ∷ [] ≡ 1024 ∷ 4 ∷ 16 ∷ 120 ∷ 240 ∷ 62 ∷ []
limits = refl

-- ------------------------------------------------------------------ Contents
abbrev entry : ℕ → ℕ → ℕ → Entry
entry f p r = record { file = f; page = p; slot = r }

-- A record in this state, with an entry.
abbrev written : (state : ℕ) → Record
written state = record { state = state; entries = entry 1 0 2 ∷ [] }

-- "File 1's header is sector T + 1; each next header follows the previous file's last real sector": in V 3 and 7.
headers_in_lem : first_header 2 ∷ next_header 3 (record { pages = 2; slots = 3 }) ∷ [] ≡ 3 ∷ 7 ∷ []
headers_in_lem = refl

-- "State: 0 idle, 1 open, 2 decided"; 3 is none of them.
states : map (λ s. is_idle (written s) ∷ is_open (written s) ∷ is_decided_record (written s) ∷ []) (0 ∷ 1 ∷ 2 ∷ 3 ∷ [])
    ≡ (true ∷ false ∷ false ∷ []) ∷ (false ∷ true ∷ false ∷ []) ∷ (false ∷ false ∷ true ∷ []) ∷ (false ∷ false ∷ false ∷ []) ∷ []
states = refl

-- Idle and open "C = 0 and no entries"; commit's record has the entries that there were.
records_made : idle_record ∷ open_record ∷ decided_record (written 1) ∷ []
    ≡ record { state = 0; entries = [] } ∷ record { state = 1; entries = [] } ∷ written 2 ∷ []
records_made = refl

-- "with the entry appended": last, and the state stays.
entry_last : map (λ s. appended (written s) (entry 2 0 1)) (1 ∷ 2 ∷ [])
    ≡ map (λ s. record { state = s; entries = entry 1 0 2 ∷ entry 2 0 1 ∷ [] }) (1 ∷ 2 ∷ [])
entry_last = refl

-- ------------------------------------------------------------------ Entries
-- Of the file; of the file and the page; of the file and the slot. The entry is for page 0 of file 1, in slot 2.
which_file : map (λ f. for_file f (entry 1 0 2)) (0 ∷ 1 ∷ 2 ∷ []) ≡ false ∷ true ∷ false ∷ []
which_file = refl

which_page : for_page 1 0 (entry 1 0 2) ∷ for_page 2 0 (entry 1 0 2) ∷ for_page 1 1 (entry 1 0 2) ∷ for_page 1 2 (entry 1 0 2) ∷ []
    ≡ true ∷ false ∷ false ∷ false ∷ []
which_page = refl

which_slot : gives_slot 1 2 (entry 1 0 2) ∷ gives_slot 2 2 (entry 1 0 2) ∷ gives_slot 1 1 (entry 1 0 2) ∷ gives_slot 1 0 (entry 1 0 2)
    ∷ []
    ≡ true ∷ false ∷ false ∷ false ∷ []
which_slot = refl

-- Entries for files 1 and 2: page 0 of file 1 stands there twice.
abbrev several : List Entry
several = entry 1 0 2 ∷ entry 2 1 7 ∷ entry 1 1 4 ∷ entry 1 0 3 ∷ []

-- "map[p] = real for each of its entries for that file", in order: the later one of a page stays.
redone_in_order : map (λ f. redone f several (0 ∷ 1 ∷ 5 ∷ [])) (1 ∷ 2 ∷ 3 ∷ [])
    ≡ (3 ∷ 4 ∷ 5 ∷ []) ∷ (0 ∷ 7 ∷ 5 ∷ []) ∷ (0 ∷ 1 ∷ 5 ∷ []) ∷ []
unfolding redone
redone_in_order = refl

-- Every page is below 2 but not below 1; those of file 1 so too, and file 3 has none.
pages_below_lem : pages_below 2 several ∷ pages_below 1 several ∷ pages_below 1 (written 1).entries ∷ [] ≡ true ∷ false ∷ true ∷ []
pages_below_lem = refl

file_pages_below_lem : file_pages_below 1 2 several ∷ file_pages_below 1 1 several ∷ file_pages_below 3 0 several
    ∷ file_pages_below 2 1 several ∷ file_pages_below 1 1 (written 1).entries ∷ []
    ≡ true ∷ false ∷ true ∷ false ∷ true ∷ []
file_pages_below_lem = refl

-- ------------------------------------------------------------------ Encoding, Decoding: the table
-- More than 255 sectors, and a header beyond sector 255.
abbrev table : Table
table = record {
  sectors = 600;
  clients = 4;
  files = record { pages = 1; slots = 240 } ∷ record { pages = 120; slots = 240 } ∷ record { pages = 2; slots = 3 } ∷ [];
}

-- "mark 4B 56; N (2 bytes); T ..; F ..; 00 00; then F entries of 4 bytes: header sector (2 bytes), P pages .., R real sectors".
abbrev table_bytes : Bytes
table_bytes = padded
    (0x4B ∷ 0x56 ∷ 0x58 ∷ 0x02 ∷ 0x04 ∷ 0x03 ∷ 0x00 ∷ 0x00
    ∷ 0x05 ∷ 0x00 ∷ 0x01 ∷ 0xF0 ∷ 0xF6 ∷ 0x00 ∷ 0x78 ∷ 0xF0 ∷ 0xE7 ∷ 0x01 ∷ 0x02 ∷ 0x03 ∷ [])

table_written : encode_table table ≡ table_bytes
unfolding encode_table file_bytes padded
table_written = refl

table_read : decode_table table_bytes ≡ table
unfolding decode_table decode_files padded
table_read = refl

-- Each field at its place: N, T, F, and the header's sector, pages and slots of the file with index 1, and of that with index 2.
table_fields : sectors_in table_bytes ∷ clients_in table_bytes ∷ file_count_in table_bytes ∷ header_sector_in table_bytes 1
    ∷ header_sector_in table_bytes 2 ∷ []
    ≡ 600 ∷ 4 ∷ 3 ∷ 246 ∷ 487 ∷ []
unfolding padded
table_fields = refl

table_files : map (file_in table_bytes) (0 ∷ 1 ∷ 2 ∷ []) ≡ table.files
unfolding padded
table_files = refl

-- ------------------------------------------------------------------ Encoding, Decoding: a record
-- "mark 4B 49; state; count C ..; four 00; C entries of 4 bytes: file, page, real, 00"
abbrev two_entries : Record
two_entries = record { state = 2; entries = entry 1 5 2 ∷ entry 3 4 6 ∷ [] }

abbrev record_bytes : Bytes
record_bytes = padded
    (0x4B ∷ 0x49 ∷ 0x02 ∷ 0x02 ∷ 0x00 ∷ 0x00 ∷ 0x00 ∷ 0x00 ∷ 0x01 ∷ 0x05 ∷ 0x02 ∷ 0x00 ∷ 0x03 ∷ 0x04 ∷ 0x06 ∷ 0x00 ∷ [])

record_written : encode_record two_entries ≡ record_bytes
unfolding encode_record entry_bytes padded
record_written = refl

record_read : decode_record record_bytes ≡ two_entries
unfolding decode_record decode_entries padded
record_read = refl

-- Four bytes for each file and for each entry, and no more.
four_bytes_each : file_bytes 5 table.files ∷ entry_bytes two_entries.entries ∷ []
    ≡ (0x05 ∷ 0x00 ∷ 0x01 ∷ 0xF0 ∷ 0xF6 ∷ 0x00 ∷ 0x78 ∷ 0xF0 ∷ 0xE7 ∷ 0x01 ∷ 0x02 ∷ 0x03 ∷ [])
    ∷ (0x01 ∷ 0x05 ∷ 0x02 ∷ 0x00 ∷ 0x03 ∷ 0x04 ∷ 0x06 ∷ 0x00 ∷ [])
    ∷ []
unfolding file_bytes entry_bytes
four_bytes_each = refl

record_fields : state_in (0x4B ∷ 0x49 ∷ 0x01 ∷ 0x07 ∷ []) ∷ count_in (0x4B ∷ 0x49 ∷ 0x01 ∷ 0x07 ∷ []) ∷ [] ≡ 1 ∷ 7 ∷ []
record_fields = refl

record_entries : map (entry_in record_bytes) (0 ∷ 1 ∷ 2 ∷ []) ≡ entry 1 5 2 ∷ entry 3 4 6 ∷ entry 0 0 0 ∷ []
unfolding padded
record_entries = refl

-- ------------------------------------------------------------------ Encoding, Decoding: a header
-- "mark 4B 46; the kiln holding it, or 0", the 4 slots of 6 that two pages leave, four 00, "then P map bytes": of what follows
-- those, nothing is read.
abbrev header_bytes : (after : ℕ) → Bytes
header_bytes x = padded (0x4B ∷ 0x46 ∷ 0x03 ∷ 0x04 ∷ 0x00 ∷ 0x00 ∷ 0x00 ∷ 0x00 ∷ 0x05 ∷ 0x01 ∷ x ∷ [])

abbrev two_pages : File
two_pages = record { pages = 2; slots = 6 }

abbrev held : Header
held = record { holder = 3; map = 5 ∷ 1 ∷ [] }

header_written : encode_header two_pages held ≡ header_bytes 0
unfolding encode_header padded
header_written = refl

header_read : decode_header two_pages (header_bytes 9) ≡ held
unfolding decode_header padded
header_read = refl

header_fields : holder_in (header_bytes 9) ∷ spare_in (header_bytes 9) ∷ map_in (header_bytes 9) 0 ∷ map_in (header_bytes 9) 1 ∷ []
    ≡ 3 ∷ 4 ∷ 5 ∷ 1 ∷ []
unfolding padded
header_fields = refl

-- The slots that the map doesn't use: of 6 with 2 pages 4, of as many slots as pages none, of 240 with one page 239. The map's length
-- is taken off, not P: an empty map leaves all 6.
slots_left_lem : spare_slots two_pages (5 ∷ 1 ∷ []) ∷ spare_slots (record { pages = 2; slots = 2 }) (1 ∷ 0 ∷ [])
    ∷ spare_slots (record { pages = 1; slots = 240 }) (7 ∷ []) ∷ spare_slots two_pages [] ∷ []
    ≡ 4 ∷ 0 ∷ 239 ∷ 6 ∷ []
slots_left_lem = refl

-- Byte 3 is the number told, and nothing else changes with it.
byte_3 : map (λ n. header_with n held) (4 ∷ 0 ∷ 239 ∷ []) ≡ map (set (header_bytes 0) 3) (4 ∷ 0 ∷ 239 ∷ [])
unfolding padded
byte_3 = refl

-- ------------------------------------------------------------------ Encoded
-- With its mark, its zero bytes and each header where the files before end; so not with a 9 in one of these places. A byte of
-- the state, of an entry, of the holder or of the map may be any.
tables : map (λ i. is_table_encoding (set table_bytes i 9)) (0 ∷ 1 ∷ 6 ∷ 7 ∷ 12 ∷ 13 ∷ 20 ∷ 255 ∷ []) ≡ replicate 8 false
unfolding encode_table file_bytes decode_table decode_files padded
tables = refl

records : map (λ i. is_record_encoding (set record_bytes i 9)) (0 ∷ 1 ∷ 4 ∷ 7 ∷ 11 ∷ 15 ∷ 16 ∷ 255 ∷ []) ≡ replicate 8 false
unfolding encode_record entry_bytes decode_record decode_entries padded
records = refl

headers : map (λ i. is_header_encoding two_pages (set (header_bytes 0) i 9)) (0 ∷ 1 ∷ 3 ∷ 4 ∷ 7 ∷ 10 ∷ 255 ∷ []) ≡ replicate 7 false
unfolding encode_header decode_header padded
headers = refl

-- Byte 3 is the number of slots left, and no other: not 0, not one less or more, not the 2 that are used, not all 6.
headers_left : map (λ n. is_header_encoding two_pages (set (header_bytes 0) 3 n)) (0 ∷ 2 ∷ 3 ∷ 4 ∷ 5 ∷ 6 ∷ [])
    ≡ false ∷ false ∷ false ∷ true ∷ false ∷ false ∷ []
unfolding encode_header decode_header padded
headers_left = refl

-- A mark is both bytes, and another control sector's is no header's.
header_marks : map (λ d. has_header_mark d) (header_bytes 0 ∷ set (header_bytes 0) 0 9 ∷ set (header_bytes 0) 1 9 ∷ record_bytes ∷ table_bytes ∷ (0x4B ∷ 0x46 ∷ []) ∷ [])
    ≡ true ∷ false ∷ false ∷ false ∷ false ∷ true ∷ []
unfolding has_mark padded
header_marks = refl

encodings : is_table_encoding table_bytes ∷ is_record_encoding (set (set record_bytes 2 9) 8 9) ∷ is_header_encoding two_pages (set (set (header_bytes 0) 2 9) 9 9) ∷ []
    ≡ replicate 3 true
unfolding encode_table file_bytes decode_table decode_files encode_record entry_bytes decode_record decode_entries encode_header decode_header padded
encodings = refl

-- ------------------------------------------------------------------ Edits
-- The slot goes to the page's place in the map, byte 8 + p, if the entry is for the file.
applied_one : map (λ f. entry_applied f (entry 1 1 7) (header_bytes 9)) (1 ∷ 2 ∷ [])
    ≡ padded (0x4B ∷ 0x46 ∷ 0x03 ∷ 4 ∷ 0 ∷ 0 ∷ 0 ∷ 0 ∷ 0x05 ∷ 0x07 ∷ 0x09 ∷ []) ∷ header_bytes 9 ∷ []
unfolding entry_applied padded
applied_one = refl

-- In order: what is redone in the map is applied to the bytes.
applied_in_order : map (λ f. entries_applied f several (header_bytes 0)) (1 ∷ 2 ∷ 3 ∷ [])
    ≡ map (λ m. encode_header two_pages (record { holder = 3; map = m })) ((3 ∷ 4 ∷ []) ∷ (5 ∷ 7 ∷ []) ∷ (5 ∷ 1 ∷ []) ∷ [])
unfolding entries_applied entry_applied encode_header padded
applied_in_order = refl
