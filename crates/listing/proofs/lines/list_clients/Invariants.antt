-- `list_clients` meets its contract: a loop that writes the line of each client.
use Rattle.volume.specs.Volumes.{view}
use Rattle.volume.specs.Listing.{client_line_of}
use Rattle.listing.proofs.LinesLaws.{Writing}
use Rattle.listing.proofs.lines.list_clients.Given as goal

abbrev pub invariant-loop-k : goal.invariant-loop-k
invariant-loop-k l =
    Writing (client_line_of (view l.v.bytes.now)) (view l.v.bytes.now).table.clients l.initial.w l.k l.w
