-- What a command is among the definitions: the step that it stands for, and what it is to have been performed.
use Rattle.std.specs.Prelude.{◌≡◌, Bool, true, false}
use Rattle.interface.specs.declared.Session.{Session}
use Rattle.interface.specs.Answers.{answer_of, query_answer_of}
use Rattle.lists.specs.Lists.{when◌then◌else◌}
use Rattle.sector.specs.Contents.{Bytes}
use Rattle.volume.specs.Volumes.{Volume}
use Rattle.rules.specs.Plans.{begin, open_file, open_read, write, commit, abort, Query, read_page, look_page}
use Rattle.atomicity.specs.Model.{Model}
use Rattle.atomicity.specs.Runs.{Step, calls, asks, Configuration, stepped}
use Rattle.atomicity.specs.Transcripts.{StepAnswer, of_call, of_query, event_of}
use Rattle.script.specs.declared.Action.{Action}
use Rattle.commands.specs.declared.Command.{Command}
use Rattle.commands.specs.declared.Told.{Told}
use Rattle.commands.specs.declared.Performed.{Performed}

-- The call is a look.
abbrev pub is_look : Action → Bool
is_look Action.Begin = false
is_look Action.Open = false
is_look Action.OpenRead = false
is_look Action.Write = false
is_look Action.Commit = false
is_look Action.Abort = false
is_look Action.Read = false
is_look Action.Look = true

-- What a command asks, if it is a question: a look, or else a read.
abbrev pub query_of : Command → Query
query_of c = when is_look c.action then look_page c.file c.page else read_page c.client c.file c.page

-- The step of a command that is this call.
abbrev pub step_by : Action → Command → Bytes → Step
step_by Action.Begin c d = calls c.crash (begin c.client) c.budget
step_by Action.Open c d = calls c.crash (open_file c.client c.file) c.budget
step_by Action.OpenRead c d = calls c.crash (open_read c.client c.file) c.budget
step_by Action.Write c d = calls c.crash (write c.client c.file c.page d) c.budget
step_by Action.Commit c d = calls c.crash (commit c.client) c.budget
step_by Action.Abort c d = calls c.crash (abort c.client) c.budget
step_by Action.Read c d = asks c.crash (read_page c.client c.file c.page)
step_by Action.Look c d = asks c.crash (look_page c.file c.page)

-- The step that a command stands for; d is what a write stores.
unfoldable pub step_of : Command → Bytes → Step
step_of c d = step_by c.action c d

-- Each case of what was told, as the definitions have it.
abbrev pub told_of : Told → StepAnswer
told_of (Told.Call o) = of_call (answer_of o)
told_of (Told.Query o) = of_query (query_answer_of o)

-- A run with this volume, session and model.
abbrev pub run_of : Volume → Session → Model → Configuration
run_of v s m = record { volume = v; session = s; model = m }

-- The step was performed: it left this volume and session, and answered so.
pub record IsPerformed (r : Configuration) (x : Step) (p : Performed) (w : Volume) : Type 0 where
  pub volume : w ≡ (stepped r x).volume
  pub session : p.session ≡ (stepped r x).session
  pub answer : told_of p.told ≡ (event_of r x).answer
