-- "all sound volumes with T = 1, F = 1, P = 2, R = 3, N = 6 and every real sector zero": which these are, and their list.
use Rattle.std.specs.Prelude.{◌≡◌, true, ℕ, ◌<◌}
use mathlib.Core.List.{List, [], map, flat_map}
use Rattle.lists.specs.Lists.{filter}
use Rattle.sector.specs.Contents.{Record, Header}
use Rattle.sector.specs.Sectors.{zero_sector}
use Rattle.volume.specs.Views.{View}
use Rattle.volume.specs.Volumes.{Volume, view}
use Rattle.volume.specs.Sound.{sound}
use Rattle.volume.specs.Assembled.{volume_of}
use Rattle.enumeration.specs.Choices.{small_file, small_table, record_choices, header_choices}

-- "sound", "with T = 1, F = 1, P = 2, R = 3, N = 6", "and every real sector zero".
pub record IsSmall (v : Volume) : Type 0 where
  pub is_sound : sound v ≡ true
  pub table : (view v).table ≡ small_table
  pub zeros : (r : ℕ) → r < small_file.slots → (view v).slots 1 r ≡ zero_sector

-- The view with this record and this header, every slot zero.
abbrev pub small_view : Record → Header → View
small_view r h = record { table = small_table; records = λ k. r; headers = λ f. h; slots = λ f s. zero_sector }

-- The volume with this view.
unfoldable pub small_volume : Record → Header → Volume
small_volume r h = volume_of (small_view r h) []

-- Every record with every header: sound or not, by the bytes of the record and then of the header.
unfoldable pub candidates : List Volume
candidates = flat_map (λ r. map (small_volume r) header_choices) record_choices

-- Those that are sound.
unfoldable pub small_volumes : List Volume
small_volumes = filter sound candidates
