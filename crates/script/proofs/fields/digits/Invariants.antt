-- The invariant of `digits`: what is left decides, with the digits read so far.
use mathlib.Core.Path.{◌≡◌}
use Prim.Native.Nat.{◌≤◌}
use lib.ListN.{drop}
use Rattle.script.specs.Fields.{digits_from}
use Rattle.script.proofs.fields.digits.Given as goal

abbrev pub invariant-loop-c : goal.invariant-loop-c
invariant-loop-c l = (l.n ≤ 1000000) × (digits_from 0 l.rest ≡ digits_from l.n (drop l.c-index l.rest))
