-- `command` meets its contract: each field is an argument.
use Rattle.commands.specs.Lines.{line_command}
use Rattle.commands.proofs.lines.command.Goals as goal

pub returns : goal.returns
unfolding line_command
returns c =
    let at = c.file_place-at.ensures.0 in
    rw (
      c.budget.ensures,
      c.budget_place.ensures,
      rw at at c.byte_argument-3.ensures,
      rw at at c.byte_argument-2.ensures,
      c.byte_argument.ensures,
    )
