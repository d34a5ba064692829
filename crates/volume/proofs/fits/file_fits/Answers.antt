-- `fits::file_fits` meets its contract: the tests of `file_fits`.
use mathlib.Core.Bool.{and-true}
use Rattle.lists.specs.Lists.{all}
use Rattle.volume.proofs.fits.file_fits.Goals as goal

pub returns : goal.returns
unfolding all
returns c = simp and-true
