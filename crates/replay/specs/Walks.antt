-- What the walk over a script and the notes in the transcript rest on, beside the definitions of both.
use Rattle.std.specs.Prelude.{◌≡◌, ◌≤◌, List, [], ◌∷◌, ℕ, zero, suc, Option, Some, None, length, take, drop}
use Rattle.interface.specs.declared.Session.{Session}
use Rattle.interface.specs.Answers.{answer_of, query_answer_of}
use Rattle.lists.specs.Lists.{when◌then◌else◌}
use Rattle.sector.specs.Contents.{Bytes}
use Rattle.volume.specs.Volumes.{Volume}
use Rattle.rules.specs.Calls.{query, part_of, query_part}
use Rattle.text.specs.declared.Writer.{Writer}
use Rattle.text.specs.Writes.{Wrote}
use Rattle.atomicity.specs.Runs.{Step, Configuration, given, stepped}
use Rattle.atomicity.specs.Transcripts.{Event, of_call, of_query, event_of}
use Rattle.script.specs.declared.Action.{Action}
use Rattle.commands.specs.declared.Command.{Command}
use Rattle.commands.specs.declared.Told.{Told}
use Rattle.commands.specs.Commands.{query_of}
use Rattle.replay.specs.declared.steps.Steps.{Steps}
use Rattle.replay.specs.declared.transcript.Kind.{Kind}
use Rattle.replay.specs.Scripts.{step_size, is_whole}
use Rattle.replay.specs.Transcripts.{entry_of}

-- The length of the whole step at the front, if there is one.
unfoldable pub step_length : Bytes → Option ℕ
step_length l = when is_whole l then Some (step_size l) else None

-- The bytes of each of the steps at the front, n at most.
unfoldable pub pieces_from : ℕ → Bytes → List Bytes
pieces_from zero l = []
pieces_from (suc n) l = when is_whole l then take (step_size l) l ∷ pieces_from n (drop (step_size l) l) else []

-- The bytes of each step of a script: its steps are those in them (`ScriptLaws.steps_are`).
abbrev pub pieces : Bytes → List Bytes
pieces l = pieces_from (length l) l

-- What a walk over a script has left to give.
abbrev pub pieces_left : Steps → List Bytes
pieces_left s = pieces s.script.now

-- The bytes of one step, and no more.
pub record IsPiece (l : Bytes) : Type 0 where
  pub head : 8 ≤ length l
  pub size : length l ≡ step_size l

-- The length of the entry of a command that is this call.
abbrev pub action_length : Action → ℕ
action_length Action.Begin = 12
action_length Action.Open = 12
action_length Action.OpenRead = 12
action_length Action.Write = 12
action_length Action.Commit = 12
action_length Action.Abort = 12
action_length Action.Read = 524
action_length Action.Look = 524

-- What is noted of a command on volume v whose answer was this; s is the session before it, q the one last handed back after it.
abbrev pub noted : Volume → (s : Session) → Command → Told → (q : Session) → Event
noted v s c (Told.Call o) q = record { answer = of_call (answer_of o); session = q; bytes = []; part = [] }
noted v s c (Told.Query o) q = record {
  answer = of_query (query_answer_of o);
  session = q;
  bytes = part_of v (query_answer_of o);
  part = query_part v (given c.crash s) (query_of c);
}

-- A question's answer is the one to what the command asks.
abbrev pub IsAnswer : Volume → Session → Command → Told → Type 0
IsAnswer v s c (Told.Call o) = Unit {0}
IsAnswer v s c (Told.Query o) = query_answer_of o ≡ query v (given c.crash s) (query_of c)

-- The byte that an entry with this kind of answer begins with.
abbrev pub kind_number : Kind → ℕ
kind_number Kind.Done = 0
kind_number Kind.Cut = 1
kind_number Kind.Refused = 2
kind_number Kind.Sector = 3

-- The step of this run was performed: it left volume v and session q, and its entry was written.
pub record IsStepped (r : Configuration) (x : Step) (v : Volume) (q : Session) (a b : Writer) : Type 0 where
  pub volume : v ≡ (stepped r x).volume
  pub session : q ≡ (stepped r x).session
  pub entry : Wrote (entry_of (event_of r x)) a b
