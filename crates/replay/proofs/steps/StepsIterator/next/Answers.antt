-- `next` meets its contract: the first bytes, as many as a step there has, are the next step, and the steps behind them are left.
use mathlib.Core.Path.{ap}
use native.Mathlib.Omega.{arith}
use lib.ListN.{length}
use Rattle.replay.proofs.ScriptLaws.{no_step, whole_step, pieces_none, pieces_more}
use Rattle.replay.proofs.steps.StepsIterator.next.Goals as goal

pub returns-in_err-n-clause-steps : goal.returns-in_err-n-clause-steps
returns-in_err-n-clause-steps c =
    let none = pieces_none c.args.self.now.script.now (no_step c.args.self.now.script.now c.in_err-n.ensures.value) in
    rw c.from_residual.ensures (none, none)

pub returns-clause-steps : goal.returns-clause-steps
returns-clause-steps c =
    let l = c.args.self.now.script.now in
    rw (c.split_at.ensures.front, c.split_at.ensures.back) (pieces_more l c.in_ok-n.n (whole_step l c.in_ok-n.n c.in_ok-n.ensures.value))

pub returns-clause-goes : goal.returns-clause-goes
returns-clause-goes c =
    let l = c.args.self.now.script.now in
    let step = pieces_more l c.in_ok-n.n (whole_step l c.in_ok-n.n c.in_ok-n.ensures.value) in
    rw c.split_at.ensures.back (record { on = λ _. (tt, tt, omega (arith, ap length step)); keeps = tt; rests = λ _. tt })
