-- `fits` meets its contract: test after test.
use mathlib.Core.Path.{sym, ◌∙◌}
use borrow.Author.Tests.{le-leb, lt-leb}
use Rattle.lists.proofs.TestLaws.{all_no, all_last, final, ◌then◌}
use Rattle.script.proofs.kinds.fits.Goals as goal

pub returns-then-not-has_word : goal.returns-then-not-has_word
returns-then-not-has_word c = sym (all_no _ 0 (sym c.has_word.ensures ∙ c.if-not-has_word.true))

pub returns-then-n-x : goal.returns-then-n-x
returns-then-n-x c = sym (all_no _ 1 (rw (← c.arguments-n.ensures) (lt-leb _ _ c.if-n-x.true)))

pub returns-then-x-n : goal.returns-then-x-n
returns-then-x-n c = sym (all_no _ 2 (rw (← c.arguments-n.ensures) (lt-leb _ _ c.if-x-n.true)))

pub returns : goal.returns
returns c =
    sym (all_last
    (sym c.has_word.ensures ∙ c.if-not-has_word.false
    then rw (← c.arguments-n.ensures) (le-leb _ _ c.if-n-x.false)
    then rw (← c.arguments-n.ensures) (le-leb _ _ c.if-x-n.false)
    then final) ∙ rw (← c.arguments-n.ensures) (sym c.arguments_fit.ensures))
