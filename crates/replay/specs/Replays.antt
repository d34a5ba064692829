-- What a replay answers and leaves, and all or none as it is claimed of one.
use Rattle.std.specs.Prelude.{Bool, ℕ, leb, length, Result, Ok, Err, ⊤}
use Rattle.interface.specs.declared.Session.{Session}
use Rattle.interface.specs.Answers.{new_session, refusal_number, FormatAnswer, format_done, format_refused}
use Rattle.lists.specs.Lists.{when◌then◌else◌}
use Rattle.sector.specs.Contents.{Bytes, Table}
use Rattle.volume.specs.Volumes.{Volume}
use Rattle.volume.specs.Format.{format}
use Rattle.text.specs.Writes.{at_front}
use Rattle.atomicity.specs.Model.{new_model}
use Rattle.atomicity.specs.Runs.{Configuration, started, ran_over}
use Rattle.atomicity.specs.Transcripts.{events_of, SaidAgrees}
use Rattle.replay.specs.declared.ReplayError.{ReplayError}
use Rattle.replay.specs.declared.Replayed.{Replayed}
use Rattle.replay.specs.Scripts.{steps}
use Rattle.replay.specs.Transcripts.{transcript, transcript_length, events_in}

-- What a replay answers: the transcript has no room; the array can't be formatted, with the refusal's number; or the script was
-- run.
pub data ReplayAnswer : Type 0 where
  no_room : ReplayAnswer
  not_formatted : ℕ → ReplayAnswer
  ran : ReplayAnswer

-- Each case of it.
abbrev pub replay_answer_of : Result ⊤ ReplayError → ReplayAnswer
replay_answer_of (Ok _) = ran
replay_answer_of (Err ReplayError.NoRoom) = no_room
replay_answer_of (Err (ReplayError.NotFormatted r)) = not_formatted (refusal_number r)

-- The answer, the session last handed back, the volume, and the buffer of the transcript.
pub record Left : Type 0 where
  pub answer : ReplayAnswer
  pub session : Session
  pub volume : Volume
  pub out : Bytes

-- What was handed back, with the volume and the buffer afterwards.
abbrev pub left_by : Replayed → Volume → (out : Bytes) → Left
left_by r v out = record { answer = replay_answer_of r.ended; session = r.session; volume = v; out = out }

-- The transcript of any run of the script fits into the buffer.
unfoldable pub has_room : (script : Bytes) → (room : ℕ) → Bool
has_room script room = leb (transcript_length (steps script)) room

-- The script is run: volume and session are those after its steps, and the transcript stands at the front of the buffer.
unfoldable pub run_left : Configuration → (script : Bytes) → (out : Bytes) → Left
run_left r script out =
    let q = ran_over r (steps script) in
    record { answer = ran; session = q.session; volume = q.volume; out = at_front (transcript (events_of r (steps script))) out }

-- Nothing is run where the transcript has no room.
abbrev pub replayed : Configuration → (script : Bytes) → (out : Bytes) → Left
replayed r script out =
    when has_room script (length out) then run_left r script out
    else record { answer = no_room; session = r.session; volume = r.volume; out = out }

-- The script on what a format left; nothing more if it was refused.
abbrev pub run_formatted : FormatAnswer → Volume → (script : Bytes) → (out : Bytes) → Left
run_formatted format_done v script out = run_left (started v) script out
run_formatted (format_refused n) v script out = record { answer = not_formatted n; session = new_session; volume = v; out = out }

-- The array is formatted, and the script run on it; nothing at all where the transcript has no room.
abbrev pub formatted_and_run : Volume → ℕ → Bytes → (script : Bytes) → (out : Bytes) → Left
formatted_and_run v T l script out =
    when has_room script (length out) then run_formatted (format v T l).answer (format v T l).volume script out
    else record { answer = no_room; session = new_session; volume = v; out = out }

-- ------------------------------------------------------------------ all or none
-- Demand 3 for a volume that was formatted with this table and is v after the script, with the transcript at the front of `out`:
-- what the transcript says of the steps, and the decided content of v, agree with the model that is fed with it.
abbrev pub AllOrNoneFor : Table → (script : Bytes) → Volume → (out : Bytes) → Type 0
AllOrNoneFor t script v out = SaidAgrees t new_model new_session (steps script) (events_in (steps script) out) v

-- It is claimed where the script was run.
abbrev pub WhereRun : ReplayAnswer → Type 0 → Type 0
WhereRun no_room P = Unit {0}
WhereRun (not_formatted n) P = Unit {0}
WhereRun ran P = P
