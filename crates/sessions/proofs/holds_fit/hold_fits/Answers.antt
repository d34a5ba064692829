-- `hold_fits` meets its contract: each test that fails makes the list of tests fail, and the last one decides.
use mathlib.Core.Path.{sym, ◌∙◌}
use borrow.Author.Tests.{le-leb}
use Rattle.lists.proofs.TestLaws.{all_no, all_last, ◌then◌, final}
use Rattle.rules.specs.Sessions.{hold_fits}
use Rattle.sessions.proofs.holds_fit.hold_fits.Goals as goal

pub returns-then-not-is_active : goal.returns-then-not-is_active
unfolding hold_fits
returns-then-not-is_active c = sym (all_no _ 0 (sym c.is_active.ensures ∙ c.if-not-is_active.true))

pub returns-in_default : goal.returns-in_default
unfolding hold_fits
returns-in_default c =
    let none = rw (c.tabled.ensures, le-leb 1 _ c.args.f.low) at c.in_default.ensures.found in
    sym (all_no _ 1 (sym none))

pub returns : goal.returns
unfolding hold_fits
returns c =
    let active = sym c.is_active.ensures ∙ c.if-not-is_active.false in
    let exists = rw (c.tabled.ensures, le-leb 1 _ c.args.f.low) at c.in-Some.ensures.found in
    rw (c.holder.ensures, c.in-Some.ensures.same.1, c.in-Some.ensures.same.0, c.tabled.ensures) (sym (all_last (active then sym exists then final)))
