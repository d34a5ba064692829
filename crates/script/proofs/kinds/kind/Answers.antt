-- `kind` meets its contract: the first row that the line fits.
use mathlib.Core.Path.{ap, ◌∙◌}
use Rattle.std.specs.Option.{option_map}
use Rattle.script.specs.declared.Row.{Row}
use borrow.Author.Tests.{tests}
use borrow.Author.Rules.{rules}
use Rattle.std.proofs.lemmas.Iterator.{YieldsList-from_slice}
use Rattle.std.proofs.lemmas.Iterator.Search.{find_from_yields_List}
use Rattle.script.specs.Kinds.{rows, fits}
use Rattle.script.proofs.KindLaws.{kind_found}
use Rattle.script.proofs.kinds.kind.Goals as goal

pub returns-in_err-x : goal.returns-in_err-x
unfolding rows
returns-in_err-x c =
    let p = find_from_yields_List (λ x. fits x c.args.line.now) _ _ c.find.result c.find.ensures.ran (YieldsList-from_slice rows c.iter.ensures.rest) (λ x b q k. search (rules, tests)) in
    c.from_residual.ensures ∙ ap (option_map (λ (x : Row). x.kind)) (rw c.in_err-x.was at p) ∙ kind_found rows c.args.line.now

pub returns : goal.returns
unfolding rows
returns c =
    let p = find_from_yields_List (λ x. fits x c.args.line.now) _ _ c.find.result c.find.ensures.ran (YieldsList-from_slice rows c.iter.ensures.rest) (λ x b q k. search (rules, tests)) in
    ap (option_map (λ (x : Row). x.kind)) (rw c.in_ok-x.was at p) ∙ kind_found rows c.args.line.now
