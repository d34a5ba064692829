-- `spare` meets its contract: the byte is the question's.
use mathlib.Core.Path.{sym, ap, ◌∙◌}
use Rattle.interface.specs.Answers.{counted}
use Rattle.sector.specs.Decoding.{spare_in}
use Rattle.rules.proofs.SpareLaws.{spare_answered}
use Rattle.calls.proofs.spare.Goals as goal

pub returns : goal.returns
returns c =
    let a = c.args in
    ap counted (c.header_spare.ensures ∙ ap spare_in (rw (c.in_ok-x.ensures.same.0, c.in_ok-x.ensures.same.1) at c.header.ensures)) ∙ sym (spare_answered a.volume.now a.file (sym c.in_ok-x.ensures.tested))
