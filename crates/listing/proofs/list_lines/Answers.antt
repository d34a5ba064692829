-- `list_lines` meets its contract: the lines of the clients and of the files are written one behind the other, with room for
-- both.
use native.Mathlib.Omega.{arith}
use Rattle.listing.proofs.ListingLaws.{lines_fit, wrote_listing}
use Rattle.listing.proofs.list_lines.Goals as goal

pub list_clients-requires : goal.list_clients-requires
list_clients-requires c = rw c.formed-v.ensures (omega (arith, lines_fit c.args.v.bytes.now c.args.v.sound))

pub list_files-requires : goal.list_files-requires
list_files-requires c =
    let written = rw c.formed-v.ensures at c.list_clients.ensures in
    rw (c.tabled.ensures, c.formed-v.ensures) (omega (arith, lines_fit c.args.v.bytes.now c.args.v.sound, written.next, written.size))

pub returns : goal.returns
returns c =
    wrote_listing c.args.v.bytes.now (rw c.formed-v.ensures at c.list_clients.ensures) (rw (c.tabled.ensures, c.formed-v.ensures) at c.list_files.ensures)
