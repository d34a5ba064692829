-- `open` meets its contract: a refusal is the call's, and so are the stores of its plan.
use mathlib.Core.Path.{◌∙◌}
use Rattle.rules.specs.Plans.{open_file}
use Rattle.calls.proofs.FactLaws.{opens}
use Rattle.calls.proofs.AnswerLaws.{refused_call, ended_call}
use Rattle.calls.proofs.open.Goals as goal

pub open_stores-run-requires : goal.open_stores-run-requires
open_stores-run-requires c =
    let w = opens c.args.volume.now c.args.session c.args.client c.args.file c.in-Ok.ensures.tested in
    (w.formed, w.file, w.header)

pub returns-in-Err : goal.returns-in-Err
returns-in-Err c =
    let a = c.args in
    c.refuse.ensures a.volume.now ∙ refused_call a.volume.now a.session (open_file a.client a.file) a.budget c.in-Err.r c.in-Err.ensures.tested

pub returns-in-Ok : goal.returns-in-Ok
returns-in-Ok c =
    let a = c.args in
    let e = c.in-Ok.ensures.tested in
    let same = c.in-Ok.ensures.same in
    let y = c.open_stores-run in
    let free = (opens a.volume.now a.session a.client a.file e).free in
    c.end.ensures y.new.v
    ∙ rw (c.without_reading-next.ensures, c.in_session.ensures, same.0, same.1) (ended_call a.volume.now a.session (open_file a.client a.file) a.budget e y.new.v y.result (y.ensures a.session free))
