-- `free_file` meets its contract: the header of a file that the client holds is put.
use Rattle.volume.specs.Volumes.{view}
use Rattle.recovery.proofs.ReleaseLaws.{release_held}
use Rattle.recovery.proofs.release.free_file.Goals as goal

pub returns : goal.returns
returns c =
    rw (release_held c.args.redo (view c.args.v.now) c.args.k c.args.f c.requires.3)
    (c.put_header.ensures _ (rw (c.client.ensures.0, c.client.ensures.1) at c.free_header.ensures))
