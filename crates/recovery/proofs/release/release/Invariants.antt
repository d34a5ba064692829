-- `release` meets its contract. The loop's invariant: what is left of recovery is its updates from file f on.
use Rattle.recovery.proofs.ReleaseLaws.{Turn}
use Rattle.recovery.proofs.release.release.Given as goal

abbrev pub invariant-loop-f : goal.invariant-loop-f
invariant-loop-f l = Turn l.initial.v l.initial.run l.redo l.k l.v l.run l.f
