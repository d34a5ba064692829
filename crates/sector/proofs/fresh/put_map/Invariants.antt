-- The invariant of `put_map`: what puts the slots from page `p` on puts, from the start, the whole map.
use mathlib.Core.List.{List}
use Prim.Native.Nat.{ℕ, ◌+◌, ◌-◌}
use Rattle.lists.specs.Lists.{from}
use Rattle.sector.specs.Layout.{items_offset}
use Rattle.sector.specs.Puts.{Puts}
use Rattle.sector.proofs.fresh.put_map.Given as goal

abbrev pub invariant-loop-p : goal.invariant-loop-p
invariant-loop-p l =
    (w : List ℕ) → Puts (items_offset + l.p) (from l.p (l.pages - l.p)) l.buf w → Puts items_offset (from 0 l.pages) l.initial.buf w
