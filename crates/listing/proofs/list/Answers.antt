-- `list` meets its contract: behind its tests the listing is written.
use mathlib.Core.Path.{◌≡◌, refl, sym, ap, ◌∙◌}
use Rattle.std.specs.Prelude.{is_some}
use mathlib.Core.Bool.{true}
use native.Mathlib.Omega.{arith}
use borrow.Author.Rules.{rules}
use Rattle.volume.specs.Sound.{sound}
use Rattle.listing.proofs.ListingLaws.{listed_text}
use Rattle.listing.proofs.list.Goals as goal

pub returns : goal.returns
returns c =
    let ok : sound c.args.v.now ≡ true = sym c.sound_volume.ensures.found ∙ ap is_some c.in-Some.is in
    listed_text c.args.v.now (search rules) refl (omega arith) ok (rw c.in-Some.ensures.same at c.list_lines.ensures)
