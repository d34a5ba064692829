-- `list_clients` meets its contract: a loop that writes the line of each client.
use native.Mathlib.Omega.{arith}
use Rattle.volume.specs.Volumes.{view}
use Rattle.volume.specs.Listing.{client_line_of}
use Rattle.listing.proofs.LinesLaws.{writing_starts, writing_room, writing_turn}
use Rattle.listing.proofs.lines.list_clients.Goals as goal

pub loop-k-init : goal.loop-k-init
loop-k-init c =
    let v = c.args.v.bytes.now in
    writing_starts (client_line_of (view v)) (view v).table.clients c.args.w.now c.requires

pub client_line-requires : goal.client_line-requires
client_line-requires c =
    rw (c.state.ensures, c.entry_count.ensures.0, c.client-c.ensures.0, c.client-c.ensures.1) (writing_room c.loop-k.invariant (omega arith))

pub loop-k-preserved : goal.loop-k-preserved
loop-k-preserved c =
    let line = rw (c.state.ensures, c.entry_count.ensures.0, c.client-c.ensures.0, c.client-c.ensures.1) at c.client_line.ensures in
    writing_turn c.loop-k.invariant (omega arith) line
