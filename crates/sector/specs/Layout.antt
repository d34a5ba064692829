-- Where each byte of a control sector lies, and the limits: each number once. A control sector is a mark, fields, and from
-- `items_offset` on its items: the table's files, a record's entries, a header's map bytes.
use Rattle.std.specs.Prelude.{ℕ, ◌+◌, ◌*◌, ◌-◌}

-- "mark 4B 56", "4B 49", "4B 46": the first byte, and the second one of the table, of a record and of a header.
abbrev pub mark_byte : ℕ
mark_byte = 0x4B

abbrev pub table_mark : ℕ
table_mark = 0x56

abbrev pub record_mark : ℕ
record_mark = 0x49

abbrev pub header_mark : ℕ
header_mark = 0x46

-- Where the fields begin, where the items, and how many bytes there are for items.
abbrev pub fields_offset : ℕ
fields_offset = 2

abbrev pub items_offset : ℕ
items_offset = 8

abbrev pub items_room : ℕ
items_room = 256 - items_offset

-- "entries of 4 bytes", in the table and in a record; where the one with index i begins.
abbrev pub item_length : ℕ
item_length = 4

abbrev pub item_offset : ℕ → ℕ
item_offset i = items_offset + item_length * i

-- The table: "N (2 bytes)", "T" and "F".
abbrev pub sectors_offset : ℕ
sectors_offset = 2

abbrev pub clients_offset : ℕ
clients_offset = 4

abbrev pub files_offset : ℕ
files_offset = 5

-- In a file's entry, "header sector (2 bytes), P pages .., R real sectors", which begins with the header's sector.
abbrev pub pages_offset : ℕ
pages_offset = 2

abbrev pub slots_offset : ℕ
slots_offset = 3

-- An intentions record: "state" and "count C".
abbrev pub state_offset : ℕ
state_offset = 2

abbrev pub count_offset : ℕ
count_offset = 3

-- In an entry, "file, page, real, 00", which begins with the file.
abbrev pub page_offset : ℕ
page_offset = 1

abbrev pub slot_offset : ℕ
slot_offset = 2

abbrev pub zero_offset : ℕ
zero_offset = 3

-- "State: 0 idle, 1 open, 2 decided."
abbrev pub idle_state : ℕ
idle_state = 0

abbrev pub open_state : ℕ
open_state = 1

abbrev pub decided_state : ℕ
decided_state = 2

-- A file header: "the kiln holding it, or 0"; and M-104's "Header byte 3".
abbrev pub holder_offset : ℕ
holder_offset = 2

abbrev pub spare_offset : ℕ
spare_offset = 3

-- The most that there may be: "N at most 1,024"; "T, the kilns, 1 to 4"; "F, the files, 1 to 16".
abbrev pub sector_limit : ℕ
sector_limit = 1024

abbrev pub client_limit : ℕ
client_limit = 4

abbrev pub file_limit : ℕ
file_limit = 16

-- "P pages (1 to 120), R real sectors (P to 240)"; "count C (0 to 62)".
abbrev pub page_limit : ℕ
page_limit = 120

abbrev pub slot_limit : ℕ
slot_limit = 240

abbrev pub entry_limit : ℕ
entry_limit = 62
