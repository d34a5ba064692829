-- `files_fit` meets its contract: the walk gives the list's files.
use mathlib.Core.Path.{refl}
use borrow.Author.Tests.{tests}
use Rattle.std.proofs.Common.{rules}
use Rattle.std.proofs.lemmas.Iterator.Consumers.{YieldsList-from_first}
use Rattle.std.proofs.lemmas.Iterator.Search.{all_from_yields_List}
use Rattle.sector.specs.Walks.{files_left}
use Rattle.volume.specs.Lawful.{file_fits}
use Rattle.format.proofs.request.files_fit.Goals as goal

pub returns : goal.returns
returns c =
    all_from_yields_List file_fits c.all.new.self _ _ c.all.ensures.ran
    (YieldsList-from_first (λ x. x) files_left (files_left c.args.files) refl) (λ x b q k. search (rules, tests))
