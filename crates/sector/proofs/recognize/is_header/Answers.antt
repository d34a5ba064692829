-- `is_header` meets its contract: of a header's encoding byte 3 and the frame are to be tested.
use mathlib.Core.Path.{sym, ◌∙◌}
use borrow.Author.Tests.{ne_eqb}
use Rattle.sector.proofs.EncodedLaws.{header_other, header_is}
use Rattle.sector.proofs.recognize.is_header.Goals as goal

pub returns-then-header_spare-x : goal.returns-then-header_spare-x
returns-then-header_spare-x c =
    let left = rw c.header_spare.ensures at c.if-header_spare-x.true in
    c.has_frame.ensures ∙ rw c.from.ensures (sym (header_is c.args.x c.args.d.now c.told-d c.requires.0 left))

pub returns-else-header_spare-x : goal.returns-else-header_spare-x
returns-else-header_spare-x c =
    let other = rw c.header_spare.ensures at c.if-header_spare-x.false in
    ne_eqb _ _ c.if-header_spare-x.false ∙ sym (header_other c.args.x c.args.d.now c.told-d c.requires.0 other)
