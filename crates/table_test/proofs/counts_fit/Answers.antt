-- `counts_fit` meets its contract: the tests of `counts_fit`, by the numbers read.
use mathlib.Core.Bool.{and-true}
use Rattle.lists.specs.Lists.{all}
use Rattle.table_test.specs.Table.{counts_fit}
use Rattle.table_test.proofs.counts_fit.Goals as goal

pub returns : goal.returns
unfolding counts_fit all
returns c =
    rw (c.from-files.ensures, c.table_files.ensures, c.from-clients.ensures, c.table_clients.ensures, c.table_sectors-sectors.ensures.0) (simp and-true)
