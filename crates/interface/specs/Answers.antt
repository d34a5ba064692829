-- The answers of document 01, and which of them each value of the interface is.
use Rattle.std.specs.Prelude.{Bool, true, false, List, [], ◌∷◌, ℕ, ◌+◌, ◌/◌, ◌%◌, eqb, get_or, Result, Ok, Err, ⊤}
use Rattle.interface.specs.declared.Session.{Session}
use Rattle.interface.specs.declared.Refusal.{Refusal}
use Rattle.interface.specs.declared.Refusal.TheVariants.{NotSound, BadSession, NoClient, AlreadyActive, NotActive, NoFile, FileInUse, NotHeld, NoPage, BadPageLength, NoFreeSlot, RecordFull, BadVolumeLength, BadShape, TooFewSectors, ReadOnly}
use Rattle.interface.specs.declared.Outcome.{Outcome}

-- No client holds a file for reading.
abbrev pub none_reading : List ℕ
none_reading = 0 ∷ 0 ∷ 0 ∷ 0 ∷ []

-- "A new session has no kiln open", and no reading hold.
abbrev pub new_session : Session
new_session = record { active = false ∷ false ∷ false ∷ false ∷ []; reading = none_reading }

-- A session with these reading holds, whose marks are the low four bits of a byte: bit k − 1 for client k.
abbrev pub session_of : ℕ → (reading : List ℕ) → Session
session_of b reading = record {
  active = eqb (b % 2) 1 ∷ eqb (b / 2 % 2) 1 ∷ eqb (b / 4 % 2) 1 ∷ eqb (b / 8 % 2) 1 ∷ [];
  reading = reading;
}

-- What a mark adds to the byte.
abbrev pub mark_worth : Bool → ℕ → ℕ
mark_worth true worth = worth
mark_worth false worth = 0

-- A session's marks as a byte: 1, 2, 4 and 8 for those of clients 1 to 4.
abbrev pub marks_byte : Session → ℕ
marks_byte s =
    mark_worth (get_or s.active 0 false) 1 + mark_worth (get_or s.active 1 false) 2
    + mark_worth (get_or s.active 2 false) 4 + mark_worth (get_or s.active 3 false) 8

-- "answers cut with the number of stores made .. Otherwise it answers done with that number"; a refusal has the table's number.
pub data Answer : Type 0 where
  done crashed refused : ℕ → Answer

-- A question's answer: read "answers the sector number"; or a refusal's number.
pub data QueryAnswer : Type 0 where
  found query_refused : ℕ → QueryAnswer

-- M-104: "A question about one file .. answers that byte", a count; or a refusal's number.
pub data CountAnswer : Type 0 where
  counted count_refused : ℕ → CountAnswer

-- Layout "answers done without a count"; or a refusal's number.
pub data FormatAnswer : Type 0 where
  format_done : FormatAnswer
  format_refused : ℕ → FormatAnswer

-- The numbers of the table under Refusals, and M-102's.
abbrev pub refusal_number : Refusal → ℕ
refusal_number NotSound = 1
refusal_number BadSession = 2
refusal_number NoClient = 3
refusal_number AlreadyActive = 4
refusal_number NotActive = 5
refusal_number NoFile = 6
refusal_number FileInUse = 7
refusal_number NotHeld = 8
refusal_number NoPage = 9
refusal_number BadPageLength = 10
refusal_number NoFreeSlot = 11
refusal_number RecordFull = 12
refusal_number BadVolumeLength = 13
refusal_number BadShape = 14
refusal_number TooFewSectors = 15
refusal_number ReadOnly = 16

-- Each case of a call's result, as the paper has it.
abbrev pub answer_of : Result Outcome Refusal → Answer
answer_of (Ok (Outcome.Done n)) = done n
answer_of (Ok (Outcome.Crashed n)) = crashed n
answer_of (Err r) = refused (refusal_number r)

-- Each case of a question's result: the sector, or a refusal.
abbrev pub query_answer_of : Result ℕ Refusal → QueryAnswer
query_answer_of (Ok n) = found n
query_answer_of (Err r) = query_refused (refusal_number r)

-- Each case of a count's result.
abbrev pub count_answer_of : Result ℕ Refusal → CountAnswer
count_answer_of (Ok n) = counted n
count_answer_of (Err r) = count_refused (refusal_number r)

-- Each case of a format's result.
abbrev pub format_answer_of : Result ⊤ Refusal → FormatAnswer
format_answer_of (Ok _) = format_done
format_answer_of (Err r) = format_refused (refusal_number r)
