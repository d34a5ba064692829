-- `new_header` meets its contract: three bytes stored in a sector of zeros and the map behind them make the encoding of the
-- header.
use Rattle.sector.proofs.FreshLaws.{header_built}
use Rattle.sector.proofs.fresh.new_header.Goals as goal

pub returns : goal.returns
returns c = header_built c.args.x _ c.requires.0 (rw c.zeros.ensures at c.put_map.ensures)
