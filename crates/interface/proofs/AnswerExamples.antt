-- Sessions as bytes, and the paper's number and value for each case of an answer: evaluated, both sides are the same.
use mathlib.Core.Path.{◌≡◌, refl}
use mathlib.Core.Bool.{Bool, true, false}
use mathlib.Core.List.{List, [], ◌∷◌, map}
use Prim.Native.Nat.{ℕ}
use Rattle.interface.specs.declared.Session.{Session}
use Rattle.interface.specs.declared.Refusal.TheVariants.{NotSound, BadSession, NoClient, AlreadyActive, NotActive, NoFile, FileInUse, NotHeld, NoPage, BadPageLength, NoFreeSlot, RecordFull, BadVolumeLength, BadShape, TooFewSectors, ReadOnly}
use Rattle.interface.specs.declared.Outcome.{Outcome}
use Rattle.std.specs.Prelude.{Ok, Err}
use Rattle.interface.specs.Answers.{none_reading, new_session, session_of, marks_byte, done, crashed, refused, found, query_refused, counted, count_refused, format_done, format_refused, refusal_number, answer_of, query_answer_of, count_answer_of, format_answer_of}

-- ------------------------------------------------------------------ sessions: new_session, session_of, marks_byte, mark_worth
-- A session of these marks, without reading holds: other crates' examples use it too.
abbrev pub marks : Bool → Bool → Bool → Bool → Session
marks a b c d = record { active = a ∷ b ∷ c ∷ d ∷ []; reading = 0 ∷ 0 ∷ 0 ∷ 0 ∷ [] }

-- "A new session has no kiln open": of the four, none is marked, and none has a reading hold.
new_session_lem : new_session ≡ marks false false false false
new_session_lem = refl

-- Bits 0 to 3 are clients 1 to 4, each by itself.
one_bit : map (λ b. session_of b none_reading) (1 ∷ 2 ∷ 4 ∷ 8 ∷ [])
    ≡ marks true false false false ∷ marks false true false false ∷ marks false false true false ∷ marks false false false true ∷ []
one_bit = refl

-- No bit, every bit, and bits above the fourth, which mark nobody.
other_bits : map (λ b. session_of b none_reading) (0 ∷ 15 ∷ 0xF0 ∷ 0xFA ∷ [])
    ≡ new_session ∷ marks true true true true ∷ new_session ∷ marks false true false true ∷ []
other_bits = refl

-- The reading holds are those given, each client's in its place.
abbrev holds : List ℕ
holds = 1 ∷ 2 ∷ 3 ∷ 65535 ∷ []

reading_holds : (session_of 2 holds).reading ≡ holds
reading_holds = refl

-- The marks of clients 1 to 4 are worth 1, 2, 4 and 8; reading holds are worth nothing.
bytes_of_sessions : map marks_byte
    (new_session ∷ marks true false false false ∷ marks false true false false ∷ marks false false true false
    ∷ marks false false false true ∷ marks true true true true ∷ session_of 5 holds ∷ [])
    ≡ 0 ∷ 1 ∷ 2 ∷ 4 ∷ 8 ∷ 15 ∷ 5 ∷ []
bytes_of_sessions = refl

-- A mark that isn't there is worth nothing.
too_few_marks : marks_byte (record { active = []; reading = [] }) ≡ 0
too_few_marks = refl

-- ------------------------------------------------------------------ answers: refusal_number, answer_of, query_answer_of, count_answer_of, format_answer_of
-- The table under Refusals, downwards, and 16.
refusal_numbers : map refusal_number
    (NotSound ∷ BadSession ∷ NoClient ∷ AlreadyActive ∷ NotActive ∷ NoFile ∷ FileInUse ∷ NotHeld ∷ NoPage ∷ BadPageLength
    ∷ NoFreeSlot
    ∷ RecordFull ∷ BadVolumeLength ∷ BadShape ∷ TooFewSectors ∷ ReadOnly ∷ [])
    ≡ 1 ∷ 2 ∷ 3 ∷ 4 ∷ 5 ∷ 6 ∷ 7 ∷ 8 ∷ 9 ∷ 10 ∷ 11 ∷ 12 ∷ 13 ∷ 14 ∷ 15 ∷ 16 ∷ []
refusal_numbers = refl

-- "answers cut with the number of stores made .. Otherwise it answers done with that number"; a refusal by its number.
answers : map answer_of (Ok (Outcome.Done 4) ∷ Ok (Outcome.Crashed 3) ∷ Err NoFreeSlot ∷ []) ≡ done 4 ∷ crashed 3 ∷ refused 11 ∷ []
answers = refl

-- Read "answers the sector number".
read_answers : map query_answer_of (Ok 6 ∷ Err NotHeld ∷ []) ≡ found 6 ∷ query_refused 8 ∷ []
read_answers = refl

-- M-104: a count, or a refusal.
count_answers : map count_answer_of (Ok 239 ∷ Err NotSound ∷ Err NoFile ∷ [])
    ≡ counted 239 ∷ count_refused 1 ∷ count_refused 6 ∷ []
count_answers = refl

-- Layout "answers done without a count".
format_answers : map format_answer_of (Ok tt ∷ Err TooFewSectors ∷ [])
    ≡ format_done ∷ format_refused 15 ∷ []
format_answers = refl
