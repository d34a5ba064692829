-- `is_read_by_other` meets its contract: each of the four clients is looked at, unless nobody reads at all.
use mathlib.Core.Path.{sym, ◌∙◌}
use mathlib.Core.Bool.{not, ◌&&◌}
use borrow.Author.Tests.{tests}
use lib.Dec.{eqb}
use Rattle.std.proofs.Common.{rules}
use native.Mathlib.Omega.{arith}
use Rattle.std.proofs.lemmas.Iterator.Search.{any_from_yields_List}
use Rattle.lists.proofs.RangeLaws.{yields_inclusive}
use Rattle.rules.specs.Sessions.{is_reading, is_read_by_other}
use Rattle.rules.proofs.SessionLaws.{none_reading_lem, none_read}
use Rattle.sessions.proofs.holds.is_read_by_other.Goals as goal

pub returns-then-none_reads : goal.returns-then-none_reads
returns-then-none_reads c =
    sym (none_read c.args.s c.args.k c.args.f.number
    (λ j lo hi. none_reading_lem c.args.s (sym c.none_reads.ensures ∙ c.if-none_reads.true) j c.args.f.number lo hi))

pub returns : goal.returns
unfolding is_read_by_other
returns c =
    any_from_yields_List (λ j. not (eqb j c.args.k) && is_reading c.args.s j c.args.f.number) _ _ _ c.any.ensures.ran (yields_inclusive 1 4 c.new.ensures.start c.new.ensures.exhausted (omega (arith, c.new.ensures.end)))
    (λ x b q k. search (rules, tests))
