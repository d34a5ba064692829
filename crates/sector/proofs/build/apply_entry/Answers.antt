-- `apply_entry` meets its contract: both ways of its test are those of `entry_applied`.
use borrow.Author.Tests.{eq-eqb, ne_eqb}
use Rattle.sector.specs.Edits.{entry_applied}
use Rattle.sector.proofs.build.apply_entry.Goals as goal

pub returns-then-e-f : goal.returns-then-e-f
unfolding entry_applied
returns-then-e-f c = rw (eq-eqb _ _ c.if-e-f.true, c.from.ensures)

pub returns-else-e-f : goal.returns-else-e-f
unfolding entry_applied
returns-else-e-f c = rw (ne_eqb _ _ c.if-e-f.false)
