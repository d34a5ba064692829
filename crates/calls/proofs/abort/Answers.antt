-- `abort` meets its contract: a refusal is the call's, and so are the stores of its plan.
use mathlib.Core.Path.{◌∙◌}
use Rattle.rules.specs.Plans.{abort}
use Rattle.calls.proofs.FactLaws.{same_tests}
use Rattle.calls.proofs.AnswerLaws.{refused_call, ended_call}
use Rattle.calls.proofs.abort.Goals as goal

pub returns-in-Err : goal.returns-in-Err
returns-in-Err c =
    let a = c.args in
    c.refuse.ensures a.volume.now
    ∙ refused_call a.volume.now a.session (abort a.client) a.budget c.in-Err.r (c.in-Err.ensures.tested ∙ same_tests a.volume.now a.session a.client)

pub returns-in-Ok : goal.returns-in-Ok
returns-in-Ok c =
    let a = c.args in
    let e = c.in-Ok.ensures.tested ∙ same_tests a.volume.now a.session a.client in
    let y = c.abort_stores-run in
    c.end.ensures y.new.v ∙ rw (c.without_client-next.ensures, c.in_session.ensures, c.in-Ok.ensures.same.0) (ended_call a.volume.now a.session (abort a.client) a.budget e y.new.v y.result (y.ensures a.session))
