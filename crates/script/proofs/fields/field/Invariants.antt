-- The invariant of `field`: after as many turns the rest is the line from field i on.
use mathlib.Core.Path.{◌≡◌}
use Rattle.script.specs.Fields.{from_field}
use Rattle.script.proofs.fields.field.Given as goal

abbrev pub invariant-loop-i : goal.invariant-loop-i
invariant-loop-i l = l.rest ≡ from_field l._i l.line
