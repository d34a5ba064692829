-- `new_table` meets its contract: six bytes stored in a sector of zeros and the entries behind them make the encoding of the
-- table.
use mathlib.Core.Path.{◌≡◌}
use Prim.Native.Nat.{◌/◌}
use native.Mathlib.Omega.{arith}
use lib.ListN.{length}
use Rattle.sector.specs.Shapes.{files_of}
use Rattle.sector.proofs.ShapeLaws.{files_count}
use Rattle.sector.proofs.FreshLaws.{table_built}
use Rattle.sector.proofs.fresh.new_table.Goals as goal

pub returns : goal.returns
returns c =
    let l = c.args.files.pairs.now in
    let count : length l / 2 ≡ length (files_of l) = omega (arith, files_count l) in
    table_built c.args.sectors c.args.clients _ l _ count c.args.files.short (rw (c.put_word.ensures, c.zeros.ensures, c.from.ensures) at c.put_entries.ensures)
