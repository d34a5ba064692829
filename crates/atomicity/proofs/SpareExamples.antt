-- What `Spares` claims, on a small volume: the claim has its instance, after any list of steps.
use mathlib.Core.Path.{◌≡◌, refl}
use mathlib.Core.List.{List}
use Prim.Native.Nat.{ℕ, ◌-◌}
use lib.ListN.{length, replicate}
use Rattle.interface.specs.Answers.{counted}
use Rattle.lists.specs.Lists.{all, first}
use Rattle.sector.specs.Shapes.{files_of}
use Rattle.volume.specs.Places.{IsFile, sector_after, file_at}
use Rattle.volume.specs.Volumes.{view}
use Rattle.volume.specs.Format.{length_fits, shape_fits, end_fits, format_tests, format}
use Rattle.rules.specs.Spare.{unmapped_slots, spare}
use Rattle.atomicity.specs.Runs.{Step, started, ran_over}
use Rattle.atomicity.specs.Spares.{SparesKept}
use Rattle.atomicity.proofs.StatementExamples.{shape, table, fresh}

-- Each file of the new volume leaves what its map doesn't use, and that is its slots less its pages.
kept_here : SparesKept → (steps : List Step) (f : ℕ) → let r = ran_over (started fresh) steps in
    IsFile table f → (spare r.volume f ≡ counted (length (unmapped_slots (view r.volume) f)))
    × (spare r.volume f ≡ counted ((file_at table f).slots - (file_at table f).pages))
unfolding format format_tests length_fits shape_fits end_fits first all files_of sector_after
kept_here h = h (replicate 2304 0xEE) 2 shape refl
