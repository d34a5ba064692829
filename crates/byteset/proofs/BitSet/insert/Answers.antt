-- `BitSet::insert` meets its contract: the test is that of `has_byte`, the store that of `with_byte`.
use mathlib.Core.Path.{sym}
use mathlib.Core.Bool.{not-not}
use Rattle.byteset.specs.Set.{has_byte, with_byte}
use Rattle.byteset.proofs.BitSet.insert.Goals as goal

pub returns : goal.returns
unfolding has_byte with_byte
returns g c = (rw c.mask-m.ensures (sym (not-not _)), rw c.mask-m.ensures)
