-- What there is to choose for a volume of the small shape: every entry, record, map and header, each in the order of its bytes.
use mathlib.Core.List.{List, [], ◌∷◌, map, flat_map}
use Rattle.std.specs.Prelude.{ℕ, suc, ◌-◌, eqb, ltb, length}
use Rattle.lists.specs.Lists.{filter, from}
use Rattle.sector.specs.Layout.{decided_state}
use Rattle.sector.specs.Contents.{Table, Record, Header}
use Rattle.sector.specs.declared.layout.File.{File}
use Rattle.sector.specs.declared.layout.Entry.{Entry}
use Rattle.enumeration.specs.Lists.{lists_of}

-- "P = 2, R = 3"
abbrev pub small_file : File
small_file = record { pages = 2; slots = 3 }

-- "T = 1, F = 1, .. N = 6"
abbrev pub small_table : Table
small_table = record { sectors = 6; clients = 1; files = small_file ∷ [] }

-- Every page of the file.
abbrev pub page_choices : List ℕ
page_choices = from 0 small_file.pages

-- Every slot of the file.
abbrev pub slot_choices : List ℕ
slot_choices = from 0 small_file.slots

-- "file, page, real": every entry that names what exists.
unfoldable pub entry_choices : List Entry
entry_choices = flat_map (λ p. map (λ r. record { file = 1; page = p; slot = r }) slot_choices) page_choices

-- "count C": no more than there are pages, since "in one record no (file, page) twice".
abbrev pub count_choices : List ℕ
count_choices = from 0 (suc small_file.pages)

-- Every list of so many entries, by their number and then by the entries.
unfoldable pub entry_lists : List (List Entry)
entry_lists = flat_map (λ c. lists_of c entry_choices) count_choices

-- "State: 0 idle, 1 open, 2 decided."
abbrev pub state_choices : List ℕ
state_choices = from 0 (suc decided_state)

-- Every record, by state and then by its entries.
unfoldable pub record_choices : List Record
record_choices = flat_map (λ s. map (λ es. record { state = s; entries = es }) entry_lists) state_choices

-- "the kiln holding it, or 0"
abbrev pub holder_choices : List ℕ
holder_choices = from 0 (suc small_table.clients)

-- What a map byte can be.
abbrev pub map_values : List ℕ
map_values = slot_choices

-- The slots of the file, less the map's bytes that are slots: for a map without repetition, how many slots it leaves free.
abbrev pub slots_left : List ℕ → ℕ
slots_left m = small_file.slots - length (filter (λ r. ltb r small_file.slots) m)

-- Every map, by the slots that it leaves free, then by its bytes: byte 3 of a header stands before the map, and M-104 makes it
-- that number.
unfoldable pub map_choices : List (List ℕ)
map_choices = flat_map (λ n. filter (λ m. eqb (slots_left m) n) (lists_of small_file.pages map_values)) (from 0 (suc small_file.slots))

-- Every header, by holder and then by its map.
unfoldable pub header_choices : List Header
header_choices = flat_map (λ k. map (λ m. record { holder = k; map = m }) map_choices) holder_choices
