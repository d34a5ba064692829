-- `files_are_sound` meets its contract. The loop keeps that the files from i on decide, and that the next one's header is sector h.
use Prim.Native.Nat.{◌+◌, ◌*◌, ◌≤◌}
use Rattle.table_test.proofs.FileLaws.{FilesLeft}
use Rattle.table_test.proofs.files_are_sound.Given as goal

abbrev pub invariant-loop-i : goal.invariant-loop-i
invariant-loop-i l =
    (l.h ≤ 256 + 256 * l.i) × FilesLeft l.d l.first l.h l.i
