-- The list of bytes that says which files a new table has.
use Rattle.std.specs.Prelude.{List, [], ◌∷◌, ℕ, ◌+◌, ◌*◌}
use Rattle.sector.specs.Contents.{Bytes, File}
use Rattle.sector.specs.Sectors.{byte}

-- "a byte list of P, R pairs"
unfoldable pub files_of : Bytes → List File
files_of [] = []
files_of (p ∷ []) = []
files_of (p ∷ r ∷ l) = record { pages = p; slots = r } ∷ files_of l

-- The file with index i, which counts from 0.
abbrev pub pair_at : Bytes → ℕ → File
pair_at l i = record { pages = byte l (2 * i); slots = byte l (2 * i + 1) }
