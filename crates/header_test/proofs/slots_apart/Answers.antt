-- `slots_apart` meets its contract: the walk gives the entries.
use borrow.Author.Tests.{tests}
use Rattle.std.proofs.Common.{rules}
use Rattle.std.proofs.lemmas.Iterator.Consumers.{YieldsList-from_first}
use Rattle.std.proofs.lemmas.Iterator.Search.{all_from_yields_List}
use mathlib.Core.Path.{refl}
use Rattle.sector.specs.Walks.{entries_left}
use Rattle.header_test.specs.Header.{slot_apart}
use Rattle.header_test.proofs.slots_apart.Goals as goal

pub returns : goal.returns
returns c =
    all_from_yields_List (slot_apart c.args.f c.args.seen.now.words) c.all.new.self _ _ c.all.ensures.ran
    (YieldsList-from_first (λ x. x) entries_left (entries_left c.args.entries) refl) (λ x b q k. search (rules, tests))
