-- `slots_of_map` meets its contract. The loop keeps that the slots that are left decide, by those in `seen`.
use lib.ListN.{drop}
use Rattle.header_test.proofs.HeaderLaws.{MapLeft}
use Rattle.header_test.proofs.slots_of_map.Given as goal

abbrev pub invariant-loop-r : goal.invariant-loop-r
invariant-loop-r l = MapLeft l.x.slots l.r-items (drop l.r-index l.r-items) l.seen.words
