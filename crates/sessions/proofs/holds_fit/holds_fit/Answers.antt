-- `holds_fit` meets its contract: where nobody reads there is nothing to test; else each of the four clients is looked at.
use mathlib.Core.Path.{sym, ◌∙◌}
use borrow.Author.Tests.{tests}
use Rattle.std.proofs.Common.{rules}
use native.Mathlib.Omega.{arith}
use Rattle.std.proofs.lemmas.Iterator.Search.{all_from_yields_List}
use Rattle.volume.specs.Volumes.{view}
use Rattle.lists.proofs.RangeLaws.{yields_inclusive}
use Rattle.rules.specs.Sessions.{client_holds_fit}
use Rattle.rules.proofs.SessionLaws.{none_fits}
use Rattle.sessions.proofs.holds_fit.holds_fit.Goals as goal

pub returns-then-none_reads : goal.returns-then-none_reads
returns-then-none_reads c = c.if-none_reads.true ∙ sym (none_fits _ c.args.s (sym c.none_reads.ensures ∙ c.if-none_reads.true))

pub returns-else-none_reads : goal.returns-else-none_reads
returns-else-none_reads c =
    all_from_yields_List (client_holds_fit (view c.args.v.bytes.now) c.args.s) _ _ _ c.all.ensures.ran (yields_inclusive 1 4 c.new.ensures.start c.new.ensures.exhausted (omega (arith, c.new.ensures.end)))
    (λ x b q k. search (rules, tests))
