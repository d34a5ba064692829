-- A volume put together from what stands in each place, sector by sector; and the volume of a view.
use Rattle.std.specs.Prelude.{List, [], ◌∷◌, ◌++◌, map, ℕ, suc}
use Rattle.lists.specs.Lists.{from}
use Rattle.sector.specs.Contents.{Bytes, File, Table}
use Rattle.sector.specs.Encoding.{encode_table, encode_record, encode_header}
use Rattle.volume.specs.Volumes.{Volume}
use Rattle.volume.specs.Places.{client_numbers, file_at, Place, table_place, record_place, header_place, slot_place}
use Rattle.volume.specs.Views.{View}

-- Whose sectors a file has, and the files after it, if the first one's number is f.
unfoldable pub file_owners : ℕ → List File → List Place
file_owners f [] = []
file_owners f (x ∷ xs) = header_place f ∷ (map (slot_place f) (from 0 x.slots) ++ file_owners (suc f) xs)

-- Whose sectors they are, from sector 0 to the end of the last file.
unfoldable pub owners : Table → List Place
owners t = table_place ∷ (map record_place (client_numbers t) ++ file_owners 1 t.files)

-- The bytes of these places one after the other, then the rest.
unfoldable pub joined : (Place → Bytes) → List Place → (rest : Bytes) → Bytes
joined at [] rest = rest
joined at (p ∷ ps) rest = at p ++ joined at ps rest

-- The bytes of all places, then the later sectors.
abbrev pub assembled : Table → (Place → Bytes) → (rest : Bytes) → Volume
assembled t at rest = joined at (owners t) rest

-- What stands in each place if this is the view.
abbrev pub bytes_for : View → Place → Bytes
bytes_for a table_place = encode_table a.table
bytes_for a (record_place k) = encode_record (a.records k)
bytes_for a (header_place f) = encode_header (file_at a.table f) (a.headers f)
bytes_for a (slot_place f r) = a.slots f r

-- The volume with this view and these later sectors.
abbrev pub volume_of : View → (rest : Bytes) → Volume
volume_of a rest = assembled a.table (bytes_for a) rest
