-- `page` meets its contract: the command of the line isn't given a new session.
use Rattle.commands.specs.Lines.{line_command}
use Rattle.commands.proofs.inspect.page.Goals as goal

pub returns : goal.returns
unfolding line_command
returns c = rw c.command.ensures at c.page.ensures
