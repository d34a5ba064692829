-- The invariant of `arguments`: those counted and those of what is left make the whole.
use mathlib.Core.Path.{◌≡◌}
use Prim.Native.Nat.{◌+◌, ◌≤◌}
use lib.ListN.{drop}
use Rattle.script.specs.Fields as Fields
use Rattle.script.proofs.fields.arguments.Given as goal

abbrev pub invariant-loop-c : goal.invariant-loop-c
invariant-loop-c l = (l.n ≤ l.c-index) × (Fields.arguments l.line ≡ l.n + Fields.arguments (drop l.c-index l.line))
