-- `begin` meets its contract: a refusal is the call's, and so are the stores of its plan.
use mathlib.Core.Path.{◌∙◌}
use Rattle.rules.specs.Plans.{begin}
use Rattle.calls.proofs.FactLaws.{begins}
use Rattle.calls.proofs.AnswerLaws.{refused_call, ended_call}
use Rattle.calls.proofs.begin.Goals as goal

pub returns-in-Err : goal.returns-in-Err
returns-in-Err c =
    let a = c.args in
    c.refuse.ensures a.volume.now ∙ refused_call a.volume.now a.session (begin a.client) a.budget c.in-Err.r c.in-Err.ensures.tested

pub returns-in-Ok : goal.returns-in-Ok
returns-in-Ok c =
    let a = c.args in
    let e = c.in-Ok.ensures.tested in
    let y = c.begin_stores-run in
    c.end.ensures y.new.v
    ∙ rw (c.set_active.ensures, c.in-Ok.ensures.same) (ended_call a.volume.now a.session (begin a.client) a.budget e y.new.v y.result (y.ensures a.session (begins a.volume.now a.session a.client e).off))
