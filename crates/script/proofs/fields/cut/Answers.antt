-- `cut` meets its contract: by where the first space is.
use borrow.Author.Tests.{tests}
use borrow.Author.Rules.{rules}
use Rattle.std.proofs.lemmas.Iterator.{YieldsList-from_slice}
use Rattle.std.proofs.lemmas.Iterator.Search.{position_from_yields_List}
use Rattle.script.specs.Fields.{is_space}
use Rattle.script.proofs.FieldLaws.{cut_at, cut_nowhere}
use Rattle.script.proofs.fields.cut.Goals as goal

pub returns-in-Some : goal.returns-in-Some
returns-in-Some c =
    let p = position_from_yields_List is_space _ _ c.position.result c.position.ensures.ran (YieldsList-from_slice c.args.line.now c.iter.ensures.rest) (λ x b q k. search (rules, tests)) in
    cut_at c.args.line.now p c.in-Some.i c.in-Some.is

pub returns-in-None : goal.returns-in-None
returns-in-None c =
    let p = position_from_yields_List is_space _ _ c.position.result c.position.ensures.ran (YieldsList-from_slice c.args.line.now c.iter.ensures.rest) (λ x b q k. search (rules, tests)) in
    cut_nowhere c.args.line.now p c.in-None.is
