-- `check_write` meets its contract: the tests up to 9, then those of the slot.
use mathlib.Core.Path.{refl}
use Rattle.rules.specs.Refusals.{tests}
use Rattle.checks.proofs.VerdictLaws.{accepts}
use Rattle.checks.proofs.WriteVerdictLaws.{same_answer_lem}
use Rattle.checks.proofs.write.check_write.Goals as goal

pub returns : goal.returns
unfolding tests
returns c =
    let same = c.in_ok-x.ensures.same in
    same_answer_lem _ _ _ _ _ (accepts _ _ c.in_ok-x.was c.check_write_call.ensures.tested refl refl) (rw (same.0, same.1, same.2, same.3) at c.check_slot.ensures)
