-- `part` meets its contract: the 256 bytes from 256 * s are the sector.
use mathlib.Core.Path.{◌∙◌}
use Rattle.sector.proofs.PartLaws.{part_is}
use Rattle.sector.proofs.read.part.Goals as goal

pub returns : goal.returns
returns c =
    let whole = rw c.unwrap.ensures at c.as_array.ensures.cases in
    whole.same ∙ part_is c.args.v.now c.args.s
