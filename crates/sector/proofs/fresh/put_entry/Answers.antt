-- `put_entry` meets its contract: its stores put four bytes.
use Rattle.sector.proofs.FreshLaws.{entry_put}
use Rattle.sector.proofs.fresh.put_entry.Goals as goal

pub returns : goal.returns
returns c = rw c.put_word.ensures (entry_put c.args.at _ _ c.args.x.pages c.args.x.slots c.args.buf.now)
