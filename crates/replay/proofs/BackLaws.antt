-- What a transcript says is what the steps said: an entry is read back as the event that it was written for, since the session
-- has four marks and four words, and a question that isn't refused shows 256 bytes twice; and so the whole, entry by entry.
use mathlib.Core.Path.{◌≡◌, refl, ap, ◌∙◌}
use mathlib.Core.Bool.{Bool, true, false}
use mathlib.Core.List.{List, [], ◌∷◌, ◌++◌, append_assoc}
use Prim.Native.Nat.{ℕ, ◌+◌, ◌*◌, ◌/◌, ◌%◌}
use native.Mathlib.Omega.{arith}
use lib.ListN.{length, get_or, take, drop}
use lib.Seq.{take_at, drop_at}
use Rattle.interface.specs.declared.Session.{Session}
use Rattle.interface.specs.Answers.{new_session, session_of, marks_byte, Answer, done, crashed, refused, QueryAnswer, found, query_refused}
use Rattle.interface.proofs.SessionLaws.{session_back}
use Rattle.sector.specs.Contents.{Bytes}
use Rattle.sector.specs.Sectors.{sector, padded}
use Rattle.sector.proofs.SectorLaws.{sector_length}
use Rattle.volume.specs.Volumes.{Volume, view}
use Rattle.rules.specs.Plans.{Call, Query}
use Rattle.rules.specs.Calls.{After, call, query, part_of}
use Rattle.rules.proofs.CallLaws.{call_case}
use Rattle.calls.proofs.PageLaws.{Inside, query_inside}
use Rattle.atomicity.specs.Runs.{Step, calls, asks, Configuration, given, stepped}
use Rattle.atomicity.specs.Transcripts.{of_call, of_query, Event, event_of, events_of}
use Rattle.atomicity.proofs.ReturnLaws.{returned_marks, returned_words}
use Rattle.replay.specs.Transcripts.{head_bytes, entry_of, transcript, entry_length, session_in, event_in, events_in}
use Rattle.replay.proofs.TranscriptLaws.{entry_length_lem, padded_page}

word_back : (n : ℕ) → n % 256 + 256 * (n / 256) ≡ n
word_back n = omega arith

-- ------------------------------------------------------------------ sessions
-- A mark and a word for each of four clients.
pub record ForFour (s : Session) : Type 0 where
  pub marks : length s.active ≡ 4
  pub words : length s.reading ≡ 4

pub new_four : ForFour new_session
new_four = record { marks = refl; words = refl }

given_four : (crash : Bool) (s : Session) → ForFour s → ForFour (given crash s)
given_four true s h = new_four
given_four false s h = h

call_four : (v : Volume) (s : Session) (c : Call) (budget : ℕ) → ForFour s → ForFour (call v s c budget).session
call_four v s c budget h = call_case (λ (x : After). ForFour x.session) v s c budget (λ n e. h)
    (λ ok le. record { marks = returned_marks (view v) s h.marks c; words = returned_words (view v) s h.words c }) (λ ok lt. new_four)

step_four : (r : Configuration) (x : Step) → ForFour r.session → ForFour (stepped r x).session
unfolding stepped
step_four r (calls crash c budget) h = call_four r.volume (given crash r.session) c budget (given_four crash r.session h)
step_four r (asks crash q) h = h

-- The words come back, and so the session.
four_words : (l : List ℕ) → length l ≡ 4 → get_or l 0 0 ∷ get_or l 1 0 ∷ get_or l 2 0 ∷ get_or l 3 0 ∷ [] ≡ l
four_words [] h = absurd (omega arith)
four_words (a ∷ []) h = absurd (omega arith)
four_words (a ∷ b ∷ []) h = absurd (omega arith)
four_words (a ∷ b ∷ c ∷ []) h = absurd (omega arith)
four_words (a ∷ b ∷ c ∷ d ∷ []) h = refl
four_words (a ∷ b ∷ c ∷ d ∷ x ∷ l) h = absurd (omega arith)

-- The session at the front of an entry, whatever stands behind it.
head_session : (k n : ℕ) (s : Session) (l : Bytes) → ForFour s → session_in (head_bytes k n s ++ l) ≡ s
unfolding head_bytes
head_session k n s l h =
    let w : ℕ → ℕ = λ i. get_or s.reading i 0 in
    ap (session_of (marks_byte s)) (rw (word_back (w 0), word_back (w 1), word_back (w 2), word_back (w 3)) (four_words s.reading h.words))
    ∙ session_back s h.marks

-- ------------------------------------------------------------------ entries
call_back : (crash : Bool) (c : Call) (budget : ℕ) (x : Answer) (s : Session) (l : Bytes) → ForFour s
    → let e : Event = record { answer = of_call x; session = s; bytes = []; part = [] } in
    event_in (calls crash c budget) (entry_of e ++ l) ≡ e
unfolding event_in entry_of head_bytes
call_back crash c budget (done n) s l h = λ i. record { answer = of_call (done (word_back n i)); session = head_session 0 n s l h i; bytes = []; part = [] }
call_back crash c budget (crashed n) s l h = λ i. record { answer = of_call (crashed (word_back n i)); session = head_session 1 n s l h i; bytes = []; part = [] }
call_back crash c budget (refused n) s l h = λ i. record { answer = of_call (refused (word_back n i)); session = head_session 2 n s l h i; bytes = []; part = [] }

-- Two pages at the front.
first_page : (b d l : Bytes) → length b ≡ 256 → take 256 (b ++ d ++ l) ≡ b
first_page b d l h = rw (append_assoc b d l) (take_at b (d ++ l) 256 h)

second_page : (b d l : Bytes) → length b ≡ 256 → length d ≡ 256 → take 256 (drop 256 (b ++ d ++ l)) ≡ d
second_page b d l h g = rw (append_assoc b d l, drop_at b (d ++ l) 256 h) (take_at d l 256 g)

query_back : (v : Volume) (crash : Bool) (q : Query) (x : QueryAnswer) (s : Session) (l : Bytes) → ForFour s → Inside v x
    → let e : Event = record { answer = of_query x; session = s; bytes = part_of v x; part = part_of v x } in
    event_in (asks crash q) (entry_of e ++ l) ≡ e
unfolding event_in entry_of head_bytes
query_back v crash q (found n) s l h i =
    let size : length (sector v n) ≡ 256 = sector_length v n i.0 in
    rw (padded_page (sector v n) size) (λ j. record {
      answer = of_query (found (word_back n j));
      session = head_session 3 n s (sector v n ++ sector v n ++ l) h j;
      bytes = first_page (sector v n) (sector v n) l size j;
      part = second_page (sector v n) (sector v n) l size size j;
    })
query_back v crash q (query_refused n) s l h i =
    λ j. record { answer = of_query (query_refused (word_back n j)); session = head_session 2 n s (padded [] ++ padded [] ++ l) h j; bytes = []; part = [] }

event_back : (r : Configuration) (x : Step) (l : Bytes) → ForFour r.session → event_in x (entry_of (event_of r x) ++ l) ≡ event_of r x
event_back r (calls crash c budget) l h =
    call_back crash c budget _ _ l (call_four r.volume (given crash r.session) c budget (given_four crash r.session h))
event_back r (asks crash q) l h =
    let s = given crash r.session in
    query_back r.volume crash q (query r.volume s q) r.session l h (query_inside r.volume s q)

-- ------------------------------------------------------------------ the transcript
pub events_back : (r : Configuration) (xs : List Step) (l : Bytes) → ForFour r.session → events_in xs (transcript (events_of r xs) ++ l) ≡ events_of r xs
events_back r [] l h = refl
events_back r (x ∷ xs) l h =
    let d : Bytes = entry_of (event_of r x) in
    let rest : Bytes = transcript (events_of (stepped r x) xs) ++ l in
    rw (append_assoc d (transcript (events_of (stepped r x) xs)) l, event_back r x rest h, drop_at d rest (entry_length x) (entry_length_lem r x), events_back (stepped r x) xs l (step_four r x h))
