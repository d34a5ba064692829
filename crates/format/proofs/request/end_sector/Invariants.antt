-- `end_sector` meets its contract. The invariant: the files that are left, laid from `h` on, end where all of them end.
use mathlib.Core.Path.{◌≡◌}
use Prim.Native.Nat.{◌+◌, ◌*◌, ◌≤◌}
use lib.ListN.{length}
use Rattle.sector.specs.Layout.{file_limit}
use Rattle.sector.specs.Walks.{files_left}
use Rattle.volume.specs.Places.{sector_after}
use Rattle.format.proofs.request.end_sector.Given as goal

abbrev pub invariant-loop-x : goal.invariant-loop-x
invariant-loop-x l =
    (l.h + 256 * length (files_left l.x-iterator) ≤ 256 + 256 * file_limit)
    × (sector_after l.h (files_left l.x-iterator) ≡ sector_after (l.clients + 1) (files_left l.files))
