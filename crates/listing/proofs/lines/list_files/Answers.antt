-- `list_files` meets its contract: a loop that writes the line of each file.
use native.Mathlib.Omega.{arith}
use lib.ListN.{length}
use Rattle.volume.specs.Volumes.{view}
use Rattle.volume.specs.Listing.{file_line_of}
use Rattle.listing.proofs.LinesLaws.{writing_starts, writing_room, writing_turn}
use Rattle.listing.proofs.lines.list_files.Goals as goal

pub loop-f-init : goal.loop-f-init
loop-f-init c =
    let v = c.args.v.bytes.now in
    writing_starts (file_line_of (view v)) (length (view v).table.files) c.args.w.now c.requires

pub file_line-requires : goal.file_line-requires
file_line-requires c =
    rw (c.holder.ensures, c.shape.ensures, c.file-x.ensures.0, c.file-x.ensures.1) (writing_room c.loop-f.invariant (omega arith))

pub loop-f-preserved : goal.loop-f-preserved
loop-f-preserved c =
    let line = rw (c.holder.ensures, c.shape.ensures, c.file-x.ensures.0, c.file-x.ensures.1) at c.file_line.ensures in
    writing_turn c.loop-f.invariant (omega arith) line
