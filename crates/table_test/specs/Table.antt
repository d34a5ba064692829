-- The table: what `sound` asks of it alone, and the parts of that which are about its counts and about its files.
use Rattle.std.specs.Prelude.{Bool, ◌&&◌, [], ◌∷◌, ℕ, leb}
use Rattle.lists.specs.Lists.{between, all, every}
use Rattle.sector.specs.Layout.{sector_limit, client_limit, file_limit}
use Rattle.sector.specs.Contents.{Bytes}
use Rattle.sector.specs.Decoding.{sectors_in, clients_in, file_count_in, decode_table}
use Rattle.volume.specs.Places.{sector_after}
use Rattle.volume.specs.Lawful.{file_fits, table_fits}
use Rattle.sector.specs.Encoded.{is_table_encoding, headers_in}

-- The numbers of sectors, clients and files are in range.
unfoldable pub counts_fit : Bytes → Bool
counts_fit d = all (leb (sectors_in d) sector_limit ∷ between 1 (clients_in d) client_limit ∷ between 1 (file_count_in d) file_limit ∷ [])

-- What `sound` asks of the table alone.
unfoldable pub table_sound : Bytes → Bool
table_sound d = is_table_encoding d && table_fits (decode_table d)

-- Each of the files fits and names the header that follows from the files before, the first one's sector h; and they end at or
-- before the end of the volume.
unfoldable pub files_sound : (h : ℕ) → Bytes → Bool
files_sound h d = all (headers_in h d ∷ every file_fits (decode_table d).files ∷ leb (sector_after h (decode_table d).files) (sectors_in d) ∷ [])
