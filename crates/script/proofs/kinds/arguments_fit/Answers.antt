-- `arguments_fit` meets its contract: each of the first n arguments is tested.
use borrow.Author.Tests.{tests}
use borrow.Author.Rules.{rules}
use native.Mathlib.Omega.{arith}
use Rattle.std.proofs.lemmas.Iterator.{YieldsList-from_range}
use Rattle.std.proofs.lemmas.Iterator.Search.{all_from_yields_List}
use Rattle.script.specs.Kinds.{limit}
use Rattle.script.specs.Fields.{argument}
use Rattle.script.proofs.KindLaws.{all_from}
use mathlib.Core.Path.{◌∙◌, refl}
use lib.Dec.{leb}
use Prim.Native.Nat.{◌+◌}
use Rattle.script.proofs.kinds.arguments_fit.Goals as goal

pub returns : goal.returns
returns c =
    all_from_yields_List (λ i. leb (argument (i + 1) c.args.line.now) (limit c.args.x.now i)) _ _ c.all.result c.all.ensures.ran (YieldsList-from_range 0 c.args.n c.args.n refl (omega arith)) (λ x b q k. search (rules, tests))
    ∙ all_from _ 0 c.args.n
