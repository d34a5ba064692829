-- `check_open_read` meets its contract: a refusal of an active client's tests decides.
use Rattle.rules.specs.Refusals.{tests}
use Rattle.checks.proofs.VerdictLaws.{refused}
use Rattle.checks.proofs.open.check_open_read.Goals as goal

pub returns-in_err-c-clause-tested : goal.returns-in_err-c-clause-tested
unfolding tests
returns-in_err-c-clause-tested c = refused _ _ _ c.in_err-c.was c.check_active.ensures.tested c.from_residual.ensures.1
