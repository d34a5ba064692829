-- `list_files` meets its contract: a loop that writes the line of each file.
use lib.ListN.{length}
use Rattle.volume.specs.Volumes.{view}
use Rattle.volume.specs.Listing.{file_line_of}
use Rattle.listing.proofs.LinesLaws.{Writing}
use Rattle.listing.proofs.lines.list_files.Given as goal

abbrev pub invariant-loop-f : goal.invariant-loop-f
invariant-loop-f l =
    Writing (file_line_of (view l.v.bytes.now)) (length (view l.v.bytes.now).table.files) l.initial.w l.f l.w
