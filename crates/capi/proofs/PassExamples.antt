-- Examples of how things are passed to C: each kind with its number, sessions both ways, and sessions with other bits. The checker
-- evaluates both sides.
use mathlib.Core.Path.{◌≡◌, refl}
use mathlib.Core.Bool.{true, false}
use mathlib.Core.List.{[], ◌∷◌, map, ◌++◌}
use Prim.Native.Nat.{ℕ}
use Rattle.interface.specs.Answers.{new_session, done, crashed, refused, found, query_refused, counted, count_refused, format_done, format_refused}
use Rattle.lists.specs.Lists.{all}
use Rattle.volume.specs.Volumes.{Volume, view, table_of}
use Rattle.volume.specs.Lawful.{lawful}
use Rattle.volume.specs.Sound.{canonical, sound}
use Rattle.sector.specs.Sectors.{sector}
use Rattle.sector.specs.Decoding.{decode_table, decode_files}
use Rattle.rules.specs.Plans.{Call, begin, Query, read_page}
use Rattle.rules.specs.Calls.{call, query}
use Rattle.capi.specs.declared.VolSession.{VolSession}
use Rattle.capi.specs.declared.VolAnswer.{VolAnswer}
use Rattle.capi.specs.Passing.{session_from, passed_session, has_other_bits, passed_answer, passed_query, passed_count, passed_format, reply_with, passed_after, called_by, asked_by}

abbrev answer : ℕ → ℕ → VolAnswer
answer kind number = record { kind = kind; number = number }

-- 0 done, 1 cut, 2 refused, 3 a sector, 4 a count.
answers : map passed_answer (done 4 ∷ crashed 3 ∷ refused 16 ∷ []) ++ map passed_query (found 300 ∷ query_refused 8 ∷ [])
    ++ map passed_count (counted 239 ∷ count_refused 6 ∷ []) ++ map passed_format (format_done ∷ format_refused 15 ∷ [])
    ≡ answer 0 4 ∷ answer 1 3 ∷ answer 2 16 ∷ answer 3 300 ∷ answer 2 8 ∷ answer 4 239 ∷ answer 2 6 ∷ answer 0 0 ∷ answer 2 15 ∷ []
answers = refl

-- Clients 2 and 4 are active; client 2 reads files 1 and 16, client 4 file 2.
abbrev given : ℕ → VolSession
given bits = record { active = bits; reading = 0 ∷ 32769 ∷ 0 ∷ 2 ∷ [] }

session_given : session_from (given 10) ≡ record { active = false ∷ true ∷ false ∷ true ∷ []; reading = 0 ∷ 32769 ∷ 0 ∷ 2 ∷ [] }
session_given = refl

-- And handed back. All zero is a new session.
sessions_passed : map passed_session (session_from (given 10) ∷ new_session ∷ []) ≡ given 10 ∷ record { active = 0; reading = 0 ∷ 0 ∷ 0 ∷ 0 ∷ [] } ∷ []
sessions_passed = refl

-- 15 has four marks, 16 another bit.
other_bits : map (λ b. has_other_bits (given b)) (0 ∷ 15 ∷ 16 ∷ 255 ∷ []) ≡ false ∷ false ∷ true ∷ true ∷ []
other_bits = refl

-- A reply has the session beside kind and number.
reply : reply_with (given 2) (answer 1 7) ≡ record { session = given 2; kind = 1; number = 7 }
reply = refl

after : (v : Volume) → passed_after (record { answer = crashed 7; session = session_from (given 2); volume = v })
    ≡ record { reply = record { session = given 2; kind = 1; number = 7 }; volume = v }
after v = refl

-- On an empty array, which isn't sound: 1, and the session given comes back, other bits too; a question hands back none.
not_sound_lem : called_by [] (given 26) (begin 1) 255 ≡ record { reply = record { session = given 26; kind = 2; number = 1 }; volume = [] }
unfolding called_by sound canonical lawful all view table_of decode_table decode_files sector
not_sound_lem = refl

not_sound_query : asked_by [] (given 26) (read_page 1 1 0) ≡ answer 2 1
unfolding asked_by sound canonical lawful all view table_of decode_table decode_files sector
not_sound_query = refl

-- On a sound volume: 2.
other_bits_refused_lem : (v : Volume) → sound v ≡ true
    → called_by v (given 16) (begin 1) 255 ≡ record { reply = record { session = given 16; kind = 2; number = 2 }; volume = v }
unfolding called_by
other_bits_refused_lem v e = rw e

other_bits_unanswered : (v : Volume) → sound v ≡ true → asked_by v (given 16) (read_page 1 1 0) ≡ answer 2 2
unfolding asked_by
other_bits_unanswered v e = rw e

-- Without other bits it is the call, with its arguments and its budget, and the question with its arguments.
four_marks : (v : Volume) (x : Call) (budget : ℕ) → called_by v (given 15) x budget ≡ passed_after (call v (session_from (given 15)) x budget)
unfolding called_by
four_marks v x budget = refl

four_marks_query : (v : Volume) (q : Query) → asked_by v (given 15) q ≡ passed_query (query v (session_from (given 15)) q)
unfolding asked_by
four_marks_query v q = refl
