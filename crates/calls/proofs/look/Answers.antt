-- `look` meets its contract: a refusal is the look's, and so is the sector.
use mathlib.Core.Path.{sym, ap, ◌∙◌}
use Rattle.std.proofs.lemmas.Result.{err_from_is_err_and}
use Rattle.interface.specs.Answers.{new_session, found}
use Rattle.rules.specs.Plans.{look_page}
use Rattle.rules.specs.Refusals.{query_tests}
use Rattle.rules.proofs.CallLaws.{query_answered}
use Rattle.calls.proofs.AnswerLaws.{refused_query}
use Rattle.calls.proofs.look.Goals as goal

pub returns-in_err-v : goal.returns-in_err-v
unfolding query_tests
returns-in_err-v c =
    let p = err_from_is_err_and c.from_residual.result c.from_residual.ensures.1 in
    rw (p.1, p.2) (refused_query c.args.volume.now new_session (look_page c.args.file c.args.page) _ c.in_err-v.ensures.tested)

pub returns : goal.returns
unfolding query_tests
returns c =
    ap found (rw (c.file.ensures.0, c.file.ensures.1, c.tabled.ensures, c.formed.ensures, c.decided_slot-slot.ensures, c.in_ok-v.ensures.same) at c.slot_sector.ensures)
    ∙ sym (query_answered c.args.volume.now new_session (look_page c.args.file c.args.page) (sym c.in_ok-v.ensures.tested))
