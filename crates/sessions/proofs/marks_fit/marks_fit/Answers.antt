-- `marks_fit` meets its contract: each of the four clients is looked at.
use mathlib.Core.Bool.{not, ◌||◌}
use borrow.Author.Tests.{tests}
use Rattle.std.proofs.Common.{rules}
use native.Mathlib.Omega.{arith}
use Rattle.std.proofs.lemmas.Iterator.Search.{all_from_yields_List}
use Rattle.volume.specs.Volumes.{view}
use Rattle.lists.proofs.RangeLaws.{yields_inclusive}
use Rattle.rules.specs.Sessions.{is_active, mark_fits}
use Rattle.sessions.proofs.marks_fit.marks_fit.Goals as goal

pub returns : goal.returns
returns c =
    all_from_yields_List (λ k. not (is_active c.args.s k) || mark_fits (view c.args.v.bytes.now) k) _ _ _ c.all.ensures.ran (yields_inclusive 1 4 c.new.ensures.start c.new.ensures.exhausted (omega (arith, c.new.ensures.end)))
    (λ x b q k. search (rules, tests))
