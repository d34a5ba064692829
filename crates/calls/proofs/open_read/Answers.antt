-- `open_read` meets its contract: a refusal is the call's, and so are the stores of its plan; the session is that of the volume
-- before them.
use mathlib.Core.Path.{◌∙◌}
use Rattle.rules.specs.Plans.{open_read}
use Rattle.calls.proofs.FactLaws.{opens_read, unread}
use Rattle.calls.proofs.AnswerLaws.{refused_call, ended_call}
use Rattle.calls.proofs.open_read.Goals as goal

pub open_read_stores-run-requires : goal.open_read_stores-run-requires
open_read_stores-run-requires c =
    let w = opens_read c.args.volume.now c.args.session c.args.client c.args.file c.in-Ok.ensures.tested in
    (w.formed, w.file, w.header)

pub returns-in-Err : goal.returns-in-Err
returns-in-Err c =
    let a = c.args in
    c.refuse.ensures a.volume.now ∙ refused_call a.volume.now a.session (open_read a.client a.file) a.budget c.in-Err.r c.in-Err.ensures.tested

pub returns-in-Ok : goal.returns-in-Ok
returns-in-Ok c =
    let a = c.args in
    let e = c.in-Ok.ensures.tested in
    let same = c.in-Ok.ensures.same in
    let w = opens_read a.volume.now a.session a.client a.file e in
    let y = c.open_read_stores-run in
    c.end.ensures y.new.v
    ∙ rw (c.with_hold-next.ensures, same.0, same.1, same.2) (ended_call a.volume.now a.session (open_read a.client a.file) a.budget e y.new.v y.result (y.ensures a.session w.free (unread a.volume.now a.session a.client a.file e)))
