-- The invariant of `fill`: up to here there are the values, and the next one is known.
use mathlib.Core.Path.{◌≡◌}
use Prim.Native.Nat.{◌+◌, ◌%◌}
use lib.ListN.{length, take}
use Rattle.commands.specs.Lines.{ramp}
use Rattle.commands.proofs.lines.fill.Given as goal

abbrev pub invariant-loop-x : goal.invariant-loop-x
invariant-loop-x l =
    (length l.part ≡ length l.initial.part) × (l.next ≡ (l.seed + l.x-index) % 256) × (take l.x-index l.part ≡ ramp l.seed l.x-index)
