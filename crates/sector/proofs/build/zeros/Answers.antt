-- `zeros` meets its contract: the array written out is `zero_sector`, by computation.
use mathlib.Core.Path.{refl}
use Rattle.sector.specs.Sectors.{zero_sector}
use Rattle.sector.proofs.build.zeros.Goals as goal

pub returns : goal.returns
unfolding zero_sector
returns c = refl
