-- `format` meets its contract: what has passed its tests can be laid out.
use mathlib.Core.Path.{◌≡◌, sym, ◌∙◌}
use mathlib.Core.Bool.{true}
use native.Mathlib.Omega.{arith}
use borrow.Author.Tests.{le-leb}
use lib.ListN.{length}
use Rattle.volume.specs.Format.{end_fits}
use Rattle.format.proofs.FormatLaws.{fits}
use Rattle.format.proofs.format.Goals as goal

pub lay_out-requires : goal.lay_out-requires
unfolding end_fits
lay_out-requires c =
    let ends : end_fits (length c.args.v.now) c.args.clients c.args.shape.now ≡ true = rw (← c.of-files.ensures, ← c.end_sector.ensures) (le-leb _ _ (omega arith)) in
    fits (length c.args.v.now) c.args.clients c.args.shape.now _ c.of-files.ensures (sym c.length_fits.ensures ∙ c.if-not-length_fits.false)
    (sym c.shape_fits.ensures ∙ c.if-not-shape_fits.false) ends
