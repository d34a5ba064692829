-- `file_line` meets its contract: its parts are written one behind the other.
use Rattle.volume.specs.Listing.{file_line}
use Rattle.text.proofs.WritesLaws.{wrote_more}
use Rattle.listing.proofs.lines.file_line.Goals as goal

pub returns : goal.returns
unfolding file_line
returns c =
    wrote_more c.put_field.ensures (wrote_more c.put_field-2.ensures (wrote_more c.put_field-3.ensures (wrote_more c.put_field-4.ensures c.put.ensures)))
