-- `put_files` meets its contract. The invariant: what lays out the files that are left lays out, from the start, all of them;
-- they fit and end where all end. At the end none are left.
use mathlib.Core.Path.{◌≡◌}
use mathlib.Core.Bool.{true}
use mathlib.Core.List.{List}
use Prim.Native.Nat.{ℕ, ◌*◌, ◌≤◌}
use lib.ListN.{length}
use Rattle.lists.specs.Lists.{every}
use Rattle.sector.specs.Puts.{Puts}
use Rattle.sector.specs.Walks.{files_left}
use Rattle.volume.specs.Places.{sector_after}
use Rattle.volume.specs.Lawful.{file_fits}
use Rattle.volume.specs.Format.{new_files}
use Rattle.format.proofs.layout.put_files.Given as goal

abbrev pub invariant-loop-x : goal.invariant-loop-x
invariant-loop-x l =
    (length l.v ≡ length l.initial.v) × (256 * sector_after l.h (files_left l.x-iterator) ≤ length l.initial.v)
    × (every file_fits (files_left l.x-iterator) ≡ true)
    × ((w : List ℕ) → Puts (256 * l.h) (new_files (files_left l.x-iterator)) l.v w → Puts (256 * l.first) (new_files (files_left l.files)) l.initial.v w)
