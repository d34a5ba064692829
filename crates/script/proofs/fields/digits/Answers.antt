-- `digits` meets its contract: what is left decides, with the digits read so far.
use mathlib.Core.Path.{sym, ◌∙◌}
use Rattle.script.proofs.FieldLaws.{digits_no}
use Rattle.script.proofs.fields.digits.Goals as goal

pub returns-then-not-is_ascii_digit : goal.returns-then-not-is_ascii_digit
returns-then-not-is_ascii_digit c =
    sym (c.loop-c.invariant.1 ∙ digits_no c.args.rest.now c.loop-c.c-index c.loop-c.n c.loop-c-test.true c.if-c-eq-SPACE.false
    (sym c.is_ascii_digit.ensures.value ∙ c.if-not-is_ascii_digit.true))
