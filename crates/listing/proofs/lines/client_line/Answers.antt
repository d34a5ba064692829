-- `client_line` meets its contract: its parts are written one behind the other.
use Rattle.volume.specs.Listing.{client_line}
use Rattle.text.proofs.WritesLaws.{wrote_more}
use Rattle.listing.proofs.lines.client_line.Goals as goal

pub returns : goal.returns
unfolding client_line
returns c =
    wrote_more c.put_field.ensures (wrote_more c.put_state.ensures (wrote_more c.put_field-2.ensures c.put.ensures))
