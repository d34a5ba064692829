-- `all_zero` meets its contract: the fold is the or of all bytes.
use lib.Bits.{bit_or}
use borrow.Author.Rules.{rules}
use borrow.Author.Tests.{tests}
use Rattle.std.proofs.lemmas.Iterator.{YieldsList-from_slice}
use Rattle.std.proofs.lemmas.Iterator.Consumers.{fold_from_yields_List}
use Rattle.sector.proofs.RecognizeLaws.{zero_or}
use Rattle.sector.proofs.recognize.all_zero.Goals as goal

pub returns : goal.returns
returns c =
    zero_or c.args.s.now c.fold.result
    (fold_from_yields_List _ bit_or 0 c.fold.result c.fold.ensures.ran (YieldsList-from_slice c.args.s.now c.iter.ensures.rest) (λ a x b q k. search (rules, tests)))
