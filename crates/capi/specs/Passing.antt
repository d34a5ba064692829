-- How sessions, replies and answers are passed to C. Kind is 0 for done, 1 for cut, 2 for refused, 3 for a sector, 4 for a count;
-- the number beside it is that of the stores made, of the refusal or of the sector, or the count.
use Rattle.std.specs.Prelude.{Bool, true, false, ℕ, ltb, Result, Ok, Err}
use Rattle.interface.specs.declared.Session.{Session}
use Rattle.interface.specs.Answers.{session_of, marks_byte, Answer, done, crashed, refused, QueryAnswer, found, query_refused, CountAnswer, counted, count_refused, FormatAnswer, format_done, format_refused}
use Rattle.lists.specs.Lists.{when◌then◌else◌}
use Rattle.volume.specs.Volumes.{Volume}
use Rattle.volume.specs.Sound.{sound}
use Rattle.rules.specs.Plans.{Call, Query}
use Rattle.rules.specs.Calls.{After, call, query}
use Rattle.listing.specs.declared.ListError.{ListError}
use Rattle.capi.specs.declared.pass.Kind.{Kind}
use Rattle.capi.specs.declared.VolSession.{VolSession}
use Rattle.capi.specs.declared.VolReply.{VolReply}
use Rattle.capi.specs.declared.VolAnswer.{VolAnswer}

-- ------------------------------------------------------------------ sessions
-- The session that C gives: bit k − 1 of `active` is client k's mark, and the words of reading holds are its own.
abbrev pub session_from : VolSession → Session
session_from c = session_of c.active c.reading

-- A session as C gets it.
abbrev pub passed_session : Session → VolSession
passed_session s = record { active = marks_byte s; reading = s.reading }

-- A bit above the fourth is no client's mark.
abbrev pub has_other_bits : VolSession → Bool
has_other_bits c = ltb 15 c.active

-- ------------------------------------------------------------------ answers
-- The byte of a kind.
abbrev pub kind_number : Kind → ℕ
kind_number Kind.Done = 0
kind_number Kind.Cut = 1
kind_number Kind.Refused = 2
kind_number Kind.Sector = 3
kind_number Kind.Count = 4

-- A call's answer.
abbrev pub passed_answer : Answer → VolAnswer
passed_answer (done n) = record { kind = 0; number = n }
passed_answer (crashed n) = record { kind = 1; number = n }
passed_answer (refused n) = record { kind = 2; number = n }

-- A question's.
abbrev pub passed_query : QueryAnswer → VolAnswer
passed_query (found n) = record { kind = 3; number = n }
passed_query (query_refused n) = record { kind = 2; number = n }

-- A count's, M-104.
abbrev pub passed_count : CountAnswer → VolAnswer
passed_count (counted n) = record { kind = 4; number = n }
passed_count (count_refused n) = record { kind = 2; number = n }

-- Format's, "done without a count".
abbrev pub passed_format : FormatAnswer → VolAnswer
passed_format format_done = record { kind = 0; number = 0 }
passed_format (format_refused n) = record { kind = 2; number = n }

-- A session with other bits fits no volume: refusal 2, or 1 if the volume isn't sound, since that is tested first.
abbrev pub other_bits_refused : Volume → VolAnswer
other_bits_refused v = record { kind = 2; number = when sound v then 2 else 1 }

-- The session that C gives, or the refusal of one with other bits.
unfoldable pub session_given : Volume → VolSession → Result Session VolAnswer
session_given v c = when has_other_bits c then Err (other_bits_refused v) else Ok (session_from c)

-- ------------------------------------------------------------------ replies
-- An answer with a session.
abbrev pub reply_with : VolSession → VolAnswer → VolReply
reply_with c x = record { session = c; kind = x.kind; number = x.number }

-- What a call hands back to C, and the volume that it leaves.
pub record Passed : Type 0 where
  pub reply : VolReply
  pub volume : Volume

-- What a call answers and leaves, as C gets it.
abbrev pub passed_after : After → Passed
passed_after a = record { reply = reply_with (passed_session a.session) (passed_answer a.answer); volume = a.volume }

-- A call given a session by C. One with other bits comes back as it was given, and every byte of the volume is kept.
unfoldable pub called_by : Volume → VolSession → Call → (budget : ℕ) → Passed
called_by v c x budget =
    when has_other_bits c then record { reply = reply_with c (other_bits_refused v); volume = v }
    else passed_after (call v (session_from c) x budget)

-- A question given a session by C.
unfoldable pub asked_by : Volume → VolSession → Query → VolAnswer
asked_by v c q = when has_other_bits c then other_bits_refused v else passed_query (query v (session_from c) q)

-- ------------------------------------------------------------------ numbers alone
-- 1 for true, 0 for false.
abbrev pub truth : Bool → ℕ
truth true = 1
truth false = 0

-- The length of a listing; 0 if none was written.
abbrev pub listed_length : Result ℕ ListError → ℕ
listed_length (Ok n) = n
listed_length (Err e) = 0
