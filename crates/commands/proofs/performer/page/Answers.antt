-- `page` meets its contract: a look's page, or that of a read, which is given the session of the command.
use mathlib.Core.Path.{◌≡◌, sym, ap, ◌∙◌}
use borrow.Author.Rules.{rules}
use denote.Enum.Bare.{same_true}
use Rattle.script.specs.contracts.Action.{the_type}
use Rattle.script.specs.declared.Action.{Action}
use Rattle.atomicity.specs.Runs.{given}
use Rattle.rules.specs.Calls.{part_of}
use Rattle.rules.proofs.CallLaws.{look_asked}
use Rattle.commands.proofs.performer.page.Goals as goal

pub returns-then-eq : goal.returns-then-eq
returns-then-eq c =
    let look : c.args.c.action ≡ Action.Look = same_true the_type (search rules) _ _ (sym c.if-eq.ensures) in
    let same = look_asked c.args.v.now (given c.args.c.crash c.args.s) c.args.c.file c.args.c.page in
    rw look (c.look_part.ensures ∙ ap (part_of c.args.v.now) (sym same))
