-- `is_reading` meets its contract: the bit of file f in the word of client k.
use Rattle.rules.specs.Sessions.{is_reading}
use Rattle.sessions.proofs.holds.is_reading.Goals as goal

pub returns : goal.returns
unfolding is_reading
returns c = rw (c.mask.ensures, c.index.ensures.0)
