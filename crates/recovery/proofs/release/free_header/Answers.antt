-- `free_header` meets its contract: the header as read, with holder 0, and its map redone if so told.
use Rattle.recovery.proofs.HeaderLaws.{header_read, redo_allowed, pages_inside}
use Rattle.recovery.proofs.release.free_header.Goals as goal

pub redo_map-requires : goal.redo_map-requires
redo_map-requires c =
    let x = c.args.c in
    rw c.entries.ensures (redo_allowed x.volume.bytes.now x.volume.formed x.number x.listed)

pub returns-then-redo : goal.returns-then-redo
returns-then-redo c =
    let x = c.args.c in
    let read = header_read x.volume.bytes.now x.volume.formed c.args.f c.requires _
    (rw (c.file.ensures.0, c.file.ensures.1, c.tabled.ensures) at c.header.ensures) in
    let inside = pages_inside x.volume.bytes.now x.volume.formed x.number x.listed c.args.f c.requires in
    rw c.if-redo.true (rw c.entries.ensures at (c.redo_map.ensures.buf_after _ _ (c.set_holder.ensures.buf_after _ _ read) (rw c.entries.ensures inside)))
