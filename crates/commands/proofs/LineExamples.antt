-- Examples of the lines that are calls: the step that each stands for, with its budget and without. The checker evaluates both sides.
use mathlib.Core.Path.{◌≡◌, refl}
use mathlib.Core.Bool.{false}
use mathlib.Core.List.{[], ◌∷◌, map}
use Rattle.script.specs.Fields.{from_field}
use Rattle.script.specs.Kinds.{bytes_of}
use Rattle.rules.specs.Plans.{begin, open_file, open_read, write, commit, abort, read_page, look_page}
use Rattle.atomicity.specs.Runs.{calls, asks}
use Rattle.script.specs.declared.Action.{Action}
use Rattle.commands.specs.Commands.{query_of, step_of}
use Rattle.commands.specs.Lines.{values, line_command, line_step}

-- A BUDGET is the last argument. A look names no client.
with_budgets : line_step Action.Begin (bytes_of "begin 2 4")
    ∷ line_step Action.Open (bytes_of "open 2 3 4")
    ∷ line_step Action.OpenRead (bytes_of "open_read 2 3 4")
    ∷ line_step Action.Write (bytes_of "write 2 3 5 254 3 4")
    ∷ line_step Action.Commit (bytes_of "commit 2 4")
    ∷ line_step Action.Abort (bytes_of "abort 2 4")
    ∷ line_step Action.Read (bytes_of "read 2 3 5")
    ∷ line_step Action.Look (bytes_of "look 3 5")
    ∷ []
    ≡ calls false (begin 2) 4
    ∷ calls false (open_file 2 3) 4
    ∷ calls false (open_read 2 3) 4
    ∷ calls false (write 2 3 5 (254 ∷ 255 ∷ 0 ∷ [])) 4
    ∷ calls false (commit 2) 4
    ∷ calls false (abort 2) 4
    ∷ asks false (read_page 2 3 5)
    ∷ asks false (look_page 3 5)
    ∷ []
unfolding step_of line_command values from_field
with_budgets = refl

-- The second call of a question asks the same.
asked : map (λ a. asks false (query_of (line_command a (bytes_of "x 3 5 7")))) (Action.Read ∷ Action.Look ∷ [])
    ≡ asks false (read_page 3 5 7) ∷ asks false (look_page 3 5) ∷ []
unfolding line_command from_field
asked = refl

-- "a BUDGET left out is 255"
without : line_step Action.Begin (bytes_of "begin 2")
    ∷ line_step Action.Open (bytes_of "open 2 3")
    ∷ line_step Action.OpenRead (bytes_of "open_read 2 3")
    ∷ line_step Action.Write (bytes_of "write 2 3 5 7 1")
    ∷ line_step Action.Commit (bytes_of "commit 2")
    ∷ line_step Action.Abort (bytes_of "abort 2")
    ∷ []
    ≡ calls false (begin 2) 255
    ∷ calls false (open_file 2 3) 255
    ∷ calls false (open_read 2 3) 255
    ∷ calls false (write 2 3 5 (7 ∷ [])) 255
    ∷ calls false (commit 2) 255
    ∷ calls false (abort 2) 255
    ∷ []
unfolding step_of line_command values from_field
without = refl
