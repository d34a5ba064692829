-- `write_volumes` ends, since each advance ends behind where it began: the candidates that are left become fewer.
use Rattle.std.proofs.Common.{◌≡◌, ◌-◌, length}
use Rattle.enumeration.specs.Small.{candidates}
use Rattle.small_volumes.proofs.write_volumes.Given as goal

abbrev pub invariant-loop-n : goal.invariant-loop-n
invariant-loop-n g l = length l.v ≡ length l.initial.v

abbrev pub decreases-loop-n : goal.decreases-loop-n
decreases-loop-n g l = length candidates - l.at
