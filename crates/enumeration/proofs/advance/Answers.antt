-- `advance` meets its contract: the array has another length, or a number is found, or none is left.
use mathlib.Core.Path.{sym, ◌∙◌}
use Rattle.enumeration.proofs.AdvanceLaws.{advance_to_lem}
use Rattle.enumeration.proofs.advance.Goals as goal

pub returns : goal.returns
returns c =
    let whole = rw c.in_ok-v.ensures.ok_part at c.as_mut_array.ensures.cases in
    advance_to_lem c.args.v.now c.args.from whole.long c.in-Some.i c.make_candidate.new.v (sym c.in-Some.is ∙ c.next_sound.ensures) c.make_candidate.ensures
