-- `low_ones` meets its contract: where a bit is clear, the ones at the end are the library's; a word of ones has no clear bit.
use native.Mathlib.Omega.{arith}
use Rattle.byteset.proofs.LowestLaws.{ones_below}
use Rattle.byteset.proofs.low_ones.Goals as goal

pub returns : goal.returns
returns c = rw c.trailing_ones.ensures (ones_below c.args.w (omega (arith, c.ranges.w.fits)))
