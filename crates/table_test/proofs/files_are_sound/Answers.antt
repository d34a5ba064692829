-- `files_are_sound` meets its contract. The loop keeps that the files from i on decide, and that the next one's header is sector h.
use native.Mathlib.Omega.{arith}
use mathlib.Core.Path.{◌≡◌, sym, ◌∙◌}
use Prim.Native.Nat.{◌+◌, ◌<◌}
use Rattle.sector.specs.Decoding.{file_count_in, file_in}
use Rattle.table_test.proofs.FileLaws.{files_elsewhere, files_unfit, files_more, files_done}
use Rattle.table_test.proofs.files_are_sound.Goals as goal

pub returns-then-file_header-h : goal.returns-then-file_header-h
returns-then-file_header-h c =
    let lt : c.loop-i.i < file_count_in c.args.d.now = omega (arith, c.requires.0) in
    sym (files_elsewhere c.loop-i.invariant.1 lt (c.fits-d _) (rw c.file_header.ensures.0 at c.if-file_header-h.true))

pub returns-then-not-file_fits : goal.returns-then-not-file_fits
returns-then-not-file_fits c =
    let lt : c.loop-i.i < file_count_in c.args.d.now = omega (arith, c.requires.0) in
    sym (files_unfit c.loop-i.invariant.1 lt (sym (rw c.file-x.ensures at c.if-not-file_fits.ensures)))

pub loop-i-preserved : goal.loop-i-preserved
loop-i-preserved c =
    let lt : c.loop-i.i < file_count_in c.args.d.now = omega (arith, c.requires.0) in
    let here = sym c.file_header.ensures.0 ∙ c.if-file_header-h.false in
    let yes = sym (rw c.file-x.ensures at c.if-not-file_fits.ensures) in
    let next : c.loop-i.h + c.sectors-h.result ≡ c.loop-i.h + 1 + (file_in c.args.d.now c.loop-i.i).slots
    = rw (c.sectors-h.ensures, c.file-x.ensures) (omega arith) in (
      omega (arith, c.sectors-h.ensures),
      rw next (files_more c.loop-i.invariant.1 lt (c.fits-d _) here yes),
    )

pub returns : goal.returns
returns c =
    rw c.table_sectors.ensures.0 (sym (files_done c.loop-i.invariant.1 (omega (arith, c.requires.0))))
