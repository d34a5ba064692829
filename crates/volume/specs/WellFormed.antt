-- What code may rely on once a volume has been found sound, and still has after each store of a call: the table fits, and
-- every control sector is the encoding of what the view has for it.
use Rattle.std.specs.Prelude.{◌≡◌, true, ℕ, ◌*◌, ◌≤◌, ◌<◌, length}
use Rattle.sector.specs.Contents.{Table, Entry}
use Rattle.sector.specs.Encoding.{encode_table, encode_record, encode_header}
use Rattle.volume.specs.Places.{IsClient, file_at, end_sector, table_place, record_place, header_place}
use Rattle.volume.specs.Views.{View}
use Rattle.volume.specs.Lawful.{table_fits, record_fits}
use Rattle.volume.specs.Volumes.{Volume, bytes_at, view}

-- The volume has the table's sectors, and room for all its places.
pub record Shaped (t : Table) (v : Volume) : Type 0 where
  pub size : length v ≡ 256 * t.sectors
  pub ends : end_sector t ≤ t.sectors

-- Of the volume v, whose view is a: its length and its table.
pub record TableFormedBy (a : View) (v : Volume) : Type 0 where
  pub shaped : Shaped a.table v
  pub fits : table_fits a.table ≡ true
  pub table : bytes_at a.table v table_place ≡ encode_table a.table

abbrev pub TableFormed : Volume → Type 0
TableFormed v = TableFormedBy (view v) v

-- All of it.
pub record WellFormedBy (a : View) (v : Volume) : Type 0 where
  pub tabled : TableFormedBy a v
  pub record_bytes : (k : ℕ) → 1 ≤ k → k ≤ a.table.clients → bytes_at a.table v (record_place k) ≡ encode_record (a.records k)
  pub record_fits : (k : ℕ) → 1 ≤ k → k ≤ a.table.clients → record_fits a.table (a.records k) ≡ true
  pub header_bytes : (f : ℕ) → 1 ≤ f → f ≤ length a.table.files
      → bytes_at a.table v (header_place f) ≡ encode_header (file_at a.table f) (a.headers f)
  pub map_size : (f : ℕ) → 1 ≤ f → f ≤ length a.table.files → length (a.headers f).map ≡ (file_at a.table f).pages

abbrev pub WellFormed : Volume → Type 0
WellFormed v = WellFormedBy (view v) v

-- The entry with index i of a record exists.
pub record HasEntry (a : View) (k i : ℕ) : Type 0 where
  pub client : IsClient a.table k
  pub below : i < length (a.records k).entries

-- What stands for an entry that there isn't.
abbrev pub no_entry : Entry
no_entry = record { file = 0; page = 0; slot = 0 }
