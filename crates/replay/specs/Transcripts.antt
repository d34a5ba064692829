-- Transcripts: what the steps of a script said, as bytes, an entry for each step, one after the other. An entry begins with twelve
-- bytes: 0 done, 1 cut, 2 refused or 3 a sector; the number beside it; and the session last handed back. A question's entry goes on
-- with the 256 bytes of the sector that it answered and the 256 bytes of the part that it handed back, zeros where it was refused.
-- Numbers of two bytes have the low byte first.
use Rattle.std.specs.Prelude.{List, [], ◌∷◌, ◌++◌, ℕ, ◌+◌, eqb, get_or, take, drop}
use Rattle.interface.specs.declared.Session.{Session}
use Rattle.interface.specs.Answers.{session_of, marks_byte, Answer, done, crashed, refused, QueryAnswer, found, query_refused}
use Rattle.lists.specs.Lists.{when◌then◌else◌}
use Rattle.sector.specs.Contents.{Bytes}
use Rattle.sector.specs.Sectors.{byte, word, word_bytes, padded}
use Rattle.atomicity.specs.Runs.{Step, calls, asks}
use Rattle.atomicity.specs.Transcripts.{StepAnswer, of_call, of_query, Event}

-- A session: a byte with bit k − 1 for client k, then for each client a number with bit f − 1 for file f that it reads.
abbrev pub session_bytes : Session → Bytes
session_bytes s =
    let reading : ℕ → ℕ = λ i. get_or s.reading i 0 in
    marks_byte s ∷ word_bytes (reading 0) (word_bytes (reading 1) (word_bytes (reading 2) (word_bytes (reading 3) [])))

-- The twelve bytes.
unfoldable pub head_bytes : (kind : ℕ) → (number : ℕ) → Session → Bytes
head_bytes kind number s = kind ∷ word_bytes number (session_bytes s)

-- An answer and the session.
abbrev pub answer_bytes : StepAnswer → Session → Bytes
answer_bytes (of_call (done n)) s = head_bytes 0 n s
answer_bytes (of_call (crashed n)) s = head_bytes 1 n s
answer_bytes (of_call (refused n)) s = head_bytes 2 n s
answer_bytes (of_query (found n)) s = head_bytes 3 n s
answer_bytes (of_query (query_refused n)) s = head_bytes 2 n s

-- What a question shows.
abbrev pub page_bytes : StepAnswer → (bytes : Bytes) → (part : Bytes) → Bytes
page_bytes (of_call x) bytes part = []
page_bytes (of_query x) bytes part = padded bytes ++ padded part

-- The entry of what a step said.
unfoldable pub entry_of : Event → Bytes
entry_of e = answer_bytes e.answer e.session ++ page_bytes e.answer e.bytes e.part

-- The transcript of what the steps said.
abbrev pub transcript : List Event → Bytes
transcript [] = []
transcript (e ∷ es) = entry_of e ++ transcript es

-- The length of a step's entry.
abbrev pub entry_length : Step → ℕ
entry_length (calls crash c budget) = 12
entry_length (asks crash q) = 524

-- The length of the transcript of these steps, whatever they say.
abbrev pub transcript_length : List Step → ℕ
transcript_length [] = 0
transcript_length (x ∷ xs) = entry_length x + transcript_length xs

-- ------------------------------------------------------------------ read back
-- A call's answer, by its kind and number.
abbrev pub answer_in : (kind : ℕ) → (number : ℕ) → Answer
answer_in kind n = when eqb kind 0 then done n else when eqb kind 1 then crashed n else refused n

-- A question's answer.
abbrev pub query_answer_in : (kind : ℕ) → (number : ℕ) → QueryAnswer
query_answer_in kind n = when eqb kind 3 then found n else query_refused n

-- What a question showed: nothing where it was refused.
abbrev pub shown_in : QueryAnswer → Bytes → Bytes
shown_in (found n) d = d
shown_in (query_refused n) d = []

-- The session in the entry at the front.
abbrev pub session_in : Bytes → Session
session_in l = session_of (byte l 3) (word l 4 ∷ word l 6 ∷ word l 8 ∷ word l 10 ∷ [])

-- What the entry at the front says of its step.
unfoldable pub event_in : Step → Bytes → Event
event_in (calls crash c budget) l = record {
  answer = of_call (answer_in (byte l 0) (word l 1));
  session = session_in l;
  bytes = [];
  part = [];
}
event_in (asks crash q) l =
    let x = query_answer_in (byte l 0) (word l 1) in
    record {
      answer = of_query x;
      session = session_in l;
      bytes = shown_in x (take 256 (drop 12 l));
      part = shown_in x (take 256 (drop 268 l));
    }

-- What the transcript at the front says of these steps.
abbrev pub events_in : List Step → Bytes → List Event
events_in [] l = []
events_in (x ∷ xs) l = event_in x l ∷ events_in xs (drop (entry_length x) l)
