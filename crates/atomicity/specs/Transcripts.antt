-- All or none as a claim about what a list of calls said and left: the model is fed each step's arguments and what was said of
-- it, and nothing else. Every read and look that isn't refused shows what the model shows for it, and the decided content of the
-- volume that is left is the model's.
use Rattle.std.specs.Prelude.{◌≡◌, List, [], ◌∷◌, ℕ, length}
use Rattle.interface.specs.declared.Session.{Session}
use Rattle.interface.specs.Answers.{new_session, Answer, QueryAnswer, found, query_refused, format_done}
use Rattle.sector.specs.Contents.{Bytes, Table}
use Rattle.volume.specs.Volumes.{Volume}
use Rattle.volume.specs.Format.{table_for, format}
use Rattle.rules.specs.Calls.{call, query, part_of, query_part}
use Rattle.atomicity.specs.Model.{Model, new_model, shown, model_call}
use Rattle.atomicity.specs.Runs.{Step, calls, asks, Configuration, started, given, stepped, ran_over}
use Rattle.atomicity.specs.AllOrNone.{PagesAgree}

-- The answer to a step: a call's, or a question's.
pub data StepAnswer : Type 0 where
  of_call : Answer → StepAnswer
  of_query : QueryAnswer → StepAnswer

-- What a step said: its answer, the session that is last handed back after it, and of a question that isn't refused the bytes of the
-- sector answered and the part handed back. Else both are empty.
pub record Event : Type 0 where
  pub answer : StepAnswer
  pub session : Session
  pub bytes : Bytes
  pub part : Bytes

-- What a step says. A question leaves the session as it was.
abbrev pub event_of : Configuration → Step → Event
event_of r (calls crash c budget) =
    let x = call r.volume (given crash r.session) c budget in
    record { answer = of_call x.answer; session = x.session; bytes = []; part = [] }
event_of r (asks crash q) =
    let s = given crash r.session in
    let x = query r.volume s q in
    record { answer = of_query x; session = r.session; bytes = part_of r.volume x; part = query_part r.volume s q }

-- What the steps say, one after the other.
abbrev pub events_of : Configuration → List Step → List Event
events_of r [] = []
events_of r (x ∷ xs) = event_of r x ∷ events_of (stepped r x) xs

-- The model after a step: "fed each call's arguments, the volume apart, and its answer". A question changes nothing.
abbrev pub fed : Model → Session → Step → StepAnswer → Model
fed m s (calls crash c budget) (of_call x) = model_call m (given crash s) c x
fed m s (calls crash c budget) (of_query x) = m
fed m s (asks crash q) x = m

-- A question that isn't refused shows the page in the bytes of the sector answered and in the part handed back.
abbrev pub ShowsPage : Bytes → StepAnswer → (bytes : Bytes) → (part : Bytes) → Type 0
ShowsPage d (of_call x) bytes part = ⊥
ShowsPage d (of_query (found n)) bytes part = (bytes ≡ d) × (part ≡ d)
ShowsPage d (of_query (query_refused n)) bytes part = Unit {0}

-- A call answers as a call does.
abbrev pub AnswersCall : StepAnswer → Type 0
AnswersCall (of_call x) = Unit {0}
AnswersCall (of_query x) = ⊥

-- What is claimed of what a step said: of a question, that it shows what the model shows for it.
abbrev pub EventAgrees : Model → Step → Event → Type 0
EventAgrees m (calls crash c budget) e = AnswersCall e.answer
EventAgrees m (asks crash q) e = ShowsPage (shown m q) e.answer e.bytes e.part

-- The steps said this, one thing each, and left this volume: all of it agrees with the model, which starts from m while s is the
-- session last handed back.
abbrev pub SaidAgrees : Table → Model → Session → List Step → List Event → Volume → Type 0
SaidAgrees t m s [] [] v = PagesAgree t m v
SaidAgrees t m s [] (e ∷ es) v = ⊥
SaidAgrees t m s (x ∷ xs) [] v = ⊥
SaidAgrees t m s (x ∷ xs) (e ∷ es) v = EventAgrees m x e × SaidAgrees t (fed m s x e.answer) e.session xs es v

-- So it is for every volume as format left it, and every list of calls.
abbrev pub TranscriptsAgree : Type 0
TranscriptsAgree =
    (v : Volume) (T : ℕ) (l : Bytes) → (format v T l).answer ≡ format_done
    → (xs : List Step) → let r = started (format v T l).volume in
    SaidAgrees (table_for (length v) T l) new_model new_session xs (events_of r xs) (ran_over r xs).volume
