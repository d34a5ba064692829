-- The invariant of `fill_shape`: up to i there are the values.
use mathlib.Core.Path.{◌≡◌}
use lib.ListN.{length, take}
use Rattle.commands.specs.Lines.{shape_of}
use Rattle.commands.proofs.lines.fill_shape.Given as goal

abbrev pub invariant-loop-i : goal.invariant-loop-i
invariant-loop-i l = (length l.shape ≡ length l.initial.shape) × (take l.i l.shape ≡ shape_of l.line l.i)
