-- The invariant of `redo_map`: the entries to come have places in the map, and applied to the buffer they give what all entries
-- give of the buffer at the start.
use mathlib.Core.Path.{◌≡◌}
use mathlib.Core.Bool.{true}
use Rattle.sector.specs.Layout.{items_room}
use Rattle.sector.specs.Entries.{pages_below}
use Rattle.sector.specs.Edits.{entries_applied}
use Rattle.sector.specs.Walks.{entries_left}
use Rattle.sector.proofs.build.redo_map.Given as goal

abbrev pub invariant-loop-e : goal.invariant-loop-e
invariant-loop-e l =
    (pages_below items_room (entries_left l.e-iterator) ≡ true)
    × (entries_applied l.f (entries_left l.e-iterator) l.buf ≡ entries_applied l.f (entries_left l.entries) l.initial.buf)
