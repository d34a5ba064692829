-- The lines that are calls, by their arguments: the command, and so the step, that each stands for.
use Rattle.std.specs.Prelude.{false, [], ◌∷◌, ◌++◌, ℕ, zero, suc, ◌+◌, ◌-◌, ◌%◌, min, ltb}
use Rattle.lists.specs.Lists.{when◌then◌else◌}
use Rattle.sector.specs.Contents.{Bytes}
use Rattle.script.specs.Fields.{arguments, argument}
use Rattle.atomicity.specs.Runs.{Step}
use Rattle.script.specs.declared.Action.{Action}
use Rattle.commands.specs.declared.Command.{Command}
use Rattle.commands.specs.Commands.{is_look, step_of}

-- Argument i as a byte. A line that is understood has no larger one where this is asked.
abbrev pub byte_argument : ℕ → Bytes → ℕ
byte_argument i l = min (argument i l) 255

-- "a BUDGET left out is 255"
abbrev pub budget_argument : ℕ → Bytes → ℕ
budget_argument i l = when ltb (arguments l) i then 255 else byte_argument i l

-- The length of a write's data: "at most 512".
abbrev pub data_length : Bytes → ℕ
data_length l = min (argument 5 l) 512

-- f 0, f 1, .., f (n − 1)
unfoldable pub values : (ℕ → ℕ) → (n : ℕ) → Bytes
values f zero = []
values f (suc n) = values f n ++ (f n ∷ [])

-- Data of n bytes: "byte i is (SEED + i) mod 256".
abbrev pub ramp : (seed : ℕ) → (n : ℕ) → Bytes
ramp seed n = values (λ i. (seed + i) % 256) n

-- What a write line stores.
abbrev pub line_data : Bytes → Bytes
line_data l = ramp (byte_argument 4 l) (data_length l)

-- Which argument is the file: the one behind the client. A look has no client.
abbrev pub file_place : Action → ℕ
file_place a = when is_look a then 1 else 2

-- Which argument is the BUDGET: the last one. A read and a look have none, and what their budget is says nothing.
abbrev pub budget_place : Action → ℕ
budget_place Action.Begin = 2
budget_place Action.Open = 3
budget_place Action.OpenRead = 3
budget_place Action.Write = 6
budget_place Action.Commit = 2
budget_place Action.Abort = 2
budget_place Action.Read = 4
budget_place Action.Look = 4

-- The command of a line: client, file and page come first. Arguments that the call doesn't take say nothing, and so does the client
-- of a look.
unfoldable pub line_command : Action → Bytes → Command
line_command a l = record {
  action = a;
  crash = false;
  client = byte_argument 1 l;
  file = byte_argument (file_place a) l;
  page = byte_argument (file_place a + 1) l;
  budget = budget_argument (budget_place a) l;
}

-- The step that a line stands for.
abbrev pub line_step : Action → Bytes → Step
line_step a l = step_of (line_command a l) (line_data l)

-- The list of a format line: "0 to 64 numbers", from argument 3 on.
abbrev pub shape_length : Bytes → ℕ
shape_length l = min (arguments l - 2) 64

abbrev pub shape_of : Bytes → (n : ℕ) → Bytes
shape_of l n = values (λ i. byte_argument (i + 3) l) n
