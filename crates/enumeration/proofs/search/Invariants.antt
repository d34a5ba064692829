-- `search` meets its contract. The invariant: the number searched for is that of the first sound candidate from i on.
use mathlib.Core.Path.{◌≡◌}
use lib.ListN.{drop}
use Rattle.enumeration.specs.Small.{candidates}
use Rattle.enumeration.specs.Advances.{first_sound}
use Rattle.enumeration.proofs.search.Given as goal

abbrev pub invariant-loop-i : goal.invariant-loop-i
invariant-loop-i l =
    first_sound l.i (drop l.i candidates) ≡ first_sound l.from (drop l.from candidates)
