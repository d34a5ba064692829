-- `next` meets its contract: the first four bytes of what is left are the next entry, and the entries of the bytes behind them are left.
use mathlib.Core.Path.{ap}
use native.Mathlib.Omega.{arith}
use lib.ListN.{length}
use Rattle.sector.proofs.WalkLaws.{no_entries, entries_step}
use Rattle.sector.proofs.walk.EntriesIterator.next.Goals as goal

pub returns-in_err-first-clause-steps : goal.returns-in_err-first-clause-steps
returns-in_err-first-clause-steps c =
    let none = no_entries c.args.self.now.items.now c.in_err-first.ensures.cases in
    rw c.from_residual.ensures (none, none)

pub returns-clause-steps : goal.returns-clause-steps
returns-clause-steps c = entries_step c.args.self.now.items.now c.in_ok-first.first.now c.in_ok-first.rest.now (omega (arith, c.in_ok-first.ensures.cases)) c.in_ok-first.ensures.cases.0 c.in_ok-first.ensures.cases.1

pub returns-clause-goes : goal.returns-clause-goes
returns-clause-goes c = record { on = λ _. (tt, tt, omega (arith, ap length (returns-clause-steps c))); keeps = tt; rests = λ _. tt }
