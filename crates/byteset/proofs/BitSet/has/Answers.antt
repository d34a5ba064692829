-- `BitSet::has` meets its contract: the code's expression is that of `has_byte`.
use Rattle.byteset.specs.Set.{has_byte}
use Rattle.byteset.proofs.BitSet.has.Goals as goal

pub returns : goal.returns
unfolding has_byte
returns g c = rw c.mask.ensures
