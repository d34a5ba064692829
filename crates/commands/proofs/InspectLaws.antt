-- Lines that change a byte of the volume or show a sector, by the tests of their definitions.
use mathlib.Core.Path.{◌≡◌}
use mathlib.Core.Bool.{true, false}
use Prim.Native.Nat.{ℕ, ◌/◌, ◌≤◌, ◌<◌}
use borrow.Author.Tests.{lt-ltb, le-ltb}
use lib.ListN.{length, set}
use Rattle.std.specs.Prelude.{Option, Some, None}
use Rattle.sector.specs.Contents.{Bytes}
use Rattle.sector.specs.Sectors.{sector}
use Rattle.volume.specs.Volumes.{Volume}
use Rattle.script.specs.Fields.{argument}
use Rattle.commands.specs.Lines.{byte_argument}
use Rattle.commands.specs.Inspect.{Poked, poked, dumped}

-- `at` is the first argument.
module _ (v : Volume) (l : Bytes) (at : ℕ) where
  pub poked_outside : at ≡ argument 1 l → length v ≤ at → ◌≡◌ {A = Poked} (record { is_inside = false; volume = v }) (poked v l)
  unfolding poked
  poked_outside e h = rw (← e, le-ltb _ _ h)

  pub poked_inside : (b : ℕ) → at ≡ argument 1 l → b ≡ byte_argument 2 l → at < length v
      → ◌≡◌ {A = Poked} (record { is_inside = true; volume = set v at b }) (poked v l)
  unfolding poked
  poked_inside b e f h = rw (← e, lt-ltb _ _ h, f)

  pub dumped_nothing : at ≡ argument 1 l → length v / 256 ≤ at → ◌≡◌ {A = Option Bytes} None (dumped v l)
  unfolding dumped
  dumped_nothing e h = rw (← e, le-ltb _ _ h)

  pub dumped_sector : at ≡ argument 1 l → at < length v / 256 → Some (sector v at) ≡ dumped v l
  unfolding dumped
  dumped_sector e h = rw (← e, lt-ltb _ _ h)
