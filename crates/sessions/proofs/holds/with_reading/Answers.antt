-- `with_reading` meets its contract: the bit of file f is set in the word of client k.
use Rattle.byteset.specs.Bits.{with_bit}
use Rattle.sessions.proofs.holds.with_reading.Goals as goal

pub returns : goal.returns
unfolding with_bit
returns c = rw (c.mask.ensures, c.index.ensures.0)
