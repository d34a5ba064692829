-- `next` meets its contract: the first pair is the next file, and the files of the other pairs are left.
use mathlib.Core.Path.{ap}
use native.Mathlib.Omega.{arith}
use lib.ListN.{length}
use Rattle.sector.proofs.WalkLaws.{no_files, files_step}
use Rattle.sector.proofs.walk.FilesIterator.next.Goals as goal

pub returns-in_err-pair-clause-steps : goal.returns-in_err-pair-clause-steps
returns-in_err-pair-clause-steps c =
    let none = no_files c.args.self.now.pairs.now c.in_err-pair.ensures.cases in
    rw c.from_residual.ensures (none, none)

pub returns-clause-steps : goal.returns-clause-steps
returns-clause-steps c = files_step c.args.self.now.pairs.now c.in_ok-pair.pair.now c.in_ok-pair.rest.now (omega (arith, c.in_ok-pair.ensures.cases)) c.in_ok-pair.ensures.cases.0 c.in_ok-pair.ensures.cases.1

pub returns-clause-goes : goal.returns-clause-goes
returns-clause-goes c = record { on = λ _. (tt, tt, omega (arith, ap length (returns-clause-steps c))); keeps = tt; rests = λ _. tt }
