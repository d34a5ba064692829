-- `mark_fits` meets its contract: each test that fails makes the list of tests fail, and the last one decides.
use mathlib.Core.Path.{sym, ◌∙◌}
use borrow.Author.Tests.{le-leb, eq-eqb, ne_eqb}
use Rattle.lists.proofs.TestLaws.{all_no, all_last, ◌then◌, final}
use Rattle.rules.specs.Sessions.{mark_fits}
use Rattle.sessions.proofs.marks_fit.mark_fits.Goals as goal

pub returns-in_default : goal.returns-in_default
unfolding mark_fits
returns-in_default c =
    let none = rw (le-leb 1 _ c.args.k.low) at c.in_default.ensures.found in
    sym (all_no _ 0 (sym none))

pub returns-then-state-ne-OPEN : goal.returns-then-state-ne-OPEN
unfolding mark_fits
returns-then-state-ne-OPEN c =
    let state = rw (c.in-Some.ensures.same.1, c.in-Some.ensures.same.0) at c.state.ensures in
    sym (all_no _ 1 (ne_eqb _ _ (λ q. c.if-state-ne-OPEN.true (state ∙ q))))

pub returns : goal.returns
unfolding mark_fits
returns c =
    let same = c.in-Some.ensures.same in
    let exists = rw (le-leb 1 _ c.args.k.low) at c.in-Some.ensures.found in
    let state = rw (same.1, same.0) at c.state.ensures in
    let opened = eq-eqb _ _ (sym state ∙ c.if-state-ne-OPEN.false) in
    rw (same.1, same.0) at c.entries_held.ensures ∙ sym (all_last (sym exists then opened then final))
