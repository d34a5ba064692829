-- The invariant of `put_entries`: there is room for the entries to come, and what puts them puts, from the start, the entries of all
-- files.
use mathlib.Core.List.{List}
use Prim.Native.Nat.{ℕ, ◌+◌, ◌*◌, ◌≤◌}
use lib.ListN.{length}
use Rattle.sector.specs.Layout.{items_offset, item_length, item_offset, file_limit}
use Rattle.sector.specs.Encoding.{file_bytes}
use Rattle.sector.specs.Puts.{Puts}
use Rattle.sector.specs.Walks.{files_left}
use Rattle.sector.proofs.fresh.put_entries.Given as goal

abbrev pub invariant-loop-x : goal.invariant-loop-x
invariant-loop-x l =
    (l.at + item_length * length (files_left l.x-iterator) ≤ item_offset file_limit)
    × (l.h + 256 * length (files_left l.x-iterator) ≤ 256 + 256 * file_limit)
    × ((w : List ℕ) → Puts l.at (file_bytes l.h (files_left l.x-iterator)) l.buf w → Puts items_offset (file_bytes l.first (files_left l.files)) l.initial.buf w)
