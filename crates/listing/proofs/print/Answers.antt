-- `print` meets its contract: the text is written at the front.
use mathlib.Core.Path.{refl}
use native.Mathlib.Omega.{arith}
use borrow.Author.Rules.{rules}
use Rattle.listing.proofs.PrintLaws.{print_ends}
use Rattle.listing.proofs.print.Goals as goal

pub returns-clause-out_after : goal.returns-clause-out_after
returns-clause-out_after c =
    (print_ends c.args.v.now (search rules) refl (omega arith) c.print_text.ensures).0

pub returns-clause-upper_bound : goal.returns-clause-upper_bound
returns-clause-upper_bound c =
    (print_ends c.args.v.now (search rules) refl (omega arith) c.print_text.ensures).1
