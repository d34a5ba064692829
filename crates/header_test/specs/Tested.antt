-- What the tests before the headers have shown to those of the headers.
use Rattle.std.specs.Prelude.{◌≡◌, ℕ, ◌+◌, ◌*◌, ◌-◌, ◌≤◌, length}
use Rattle.sector.specs.Layout.{sector_limit, client_limit, file_limit, page_limit, entry_limit}
use Rattle.sector.specs.Contents.{Bytes}
use Rattle.sector.specs.Decoding.{clients_in, file_count_in, header_sector_in, file_in, count_in, decode_table}
use Rattle.volume.specs.Places.{header_sector, record_place}
use Rattle.volume.specs.Volumes.{Volume, bytes_at}

-- What holds of a volume v and its sector 0, tb, once all but the headers has been tested.
pub record Tested (v : Volume) (tb : Bytes) : Type 0 where
  pub clients : clients_in tb ≤ client_limit
  pub files : file_count_in tb ≤ file_limit
  -- Each record and each header is one of them.
  pub short : length v ≤ 256 * sector_limit
  pub records : 256 * clients_in tb + 256 ≤ length v
  pub headers : (f : ℕ) → 1 ≤ f → f ≤ file_count_in tb → 256 * header_sector_in tb (f - 1) + 256 ≤ length v
  pub header_is : (f : ℕ) → 1 ≤ f → f ≤ file_count_in tb → header_sector_in tb (f - 1) ≡ header_sector (decode_table tb) f
  pub pages : (f : ℕ) → 1 ≤ f → f ≤ file_count_in tb → (file_in tb (f - 1)).pages ≤ page_limit
  pub slots : (f : ℕ) → 1 ≤ f → f ≤ file_count_in tb → (file_in tb (f - 1)).pages ≤ (file_in tb (f - 1)).slots
  pub counts : (k : ℕ) → 1 ≤ k → k ≤ clients_in tb → count_in (bytes_at (decode_table tb) v (record_place k)) ≤ entry_limit
