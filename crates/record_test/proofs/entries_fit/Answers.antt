-- `entries_fit` meets its contract. The loop keeps that the entries that are left decide, by the sectors in the two sets.
use mathlib.Core.Path.{sym, ap, ◌∙◌}
use Rattle.sector.specs.Walks.{entries_left}
use Rattle.record_test.proofs.RecordLaws.{left_all, entry_no, entry_twice, left_more}
use Rattle.record_test.proofs.entries_fit.Goals as goal

pub loop-e-init : goal.loop-e-init
loop-e-init c =
    rw (c.new-pages.ensures, c.new-slots.ensures, ap entries_left c.into_iter-e-iterator.ensures.into_iter_gives) (left_all _ _)

pub returns-then-not-entry_fits : goal.returns-then-not-entry_fits
returns-then-not-entry_fits c =
    sym (entry_no _ c.args.table.sound c.loop-e.invariant _ _ c.in-Some.ensures.steps (sym c.if-not-entry_fits.ensures))

pub returns-then-not-insert_entry : goal.returns-then-not-insert_entry
returns-then-not-insert_entry c =
    let twice = sym c.insert_entry.ensures.tells ∙ c.if-not-insert_entry.true in
    sym (entry_twice _ c.args.table.sound c.loop-e.invariant _ _ c.in-Some.ensures.steps twice)

pub loop-e-preserved : goal.loop-e-preserved
loop-e-preserved c =
    let put = c.insert_entry.ensures in
    let new = sym put.tells ∙ c.if-not-insert_entry.false in
    rw (put.by_page, put.by_slot)
    (left_more _ c.args.table.sound c.loop-e.invariant _ _ c.in-Some.ensures.steps (sym c.if-not-entry_fits.ensures) new)
