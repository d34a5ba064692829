-- What a format that isn't refused has.
use Rattle.std.specs.Prelude.{◌≡◌, true, ℕ, ◌*◌, ◌/◌, ◌≤◌}
use Rattle.lists.specs.Lists.{every}
use Rattle.sector.specs.Layout.{sector_limit}
use Rattle.sector.specs.Contents.{Bytes}
use Rattle.sector.specs.Shapes.{files_of}
use Rattle.volume.specs.Places.{end_sector}
use Rattle.volume.specs.Lawful.{file_fits}
use Rattle.volume.specs.Format.{table_for}

-- n bytes are whole sectors, not too many; each file of the list fits, and all end inside the array.
pub record Fits (n T : ℕ) (l : Bytes) : Type 0 where
  pub size : n ≡ 256 * (n / 256)
  pub small : n ≤ 256 * sector_limit
  pub files : every file_fits (files_of l) ≡ true
  pub ends : end_sector (table_for n T l) ≤ n / 256
