-- A call on a volume's bytes: its answer, the session handed back and the volume afterwards. This is the one definition of
-- done, cut and refused.
use Rattle.std.specs.Prelude.{List, [], ℕ, zero, suc, leb, length}
use Rattle.interface.specs.declared.Session.{Session}
use Rattle.interface.specs.Answers.{new_session, Answer, done, crashed, refused, QueryAnswer, found, query_refused}
use Rattle.lists.specs.Lists.{when◌then◌else◌, first}
use Rattle.sector.specs.Contents.{Bytes}
use Rattle.sector.specs.Sectors.{sector}
use Rattle.volume.specs.Places.{slot_place, sector_of}
use Rattle.volume.specs.Views.{View}
use Rattle.volume.specs.Volumes.{Volume, view}
use Rattle.volume.specs.Sound.{sound}
use Rattle.volume.specs.Stores.{Store, cut_at, all_stores}
use Rattle.rules.specs.Plans.{Call, Query, read_page, look_page, entry_for, slot_for, plan, session_after}
use Rattle.rules.specs.Content.{decided_slot}
use Rattle.rules.specs.Refusals.{tests, query_tests}

-- What a call answers and leaves.
pub record After : Type 0 where
  pub answer : Answer
  pub session : Session
  pub volume : Volume

-- "A call whose stores exceed [its allowance] makes exactly the first so many, answers cut with the number of stores made,
-- and hands back a new session. Otherwise it answers done with that number", and the first so many are all.
abbrev pub executed : Volume → Session → Call → (budget : ℕ) → List Store → After
executed v s c budget xs =
    when leb (length xs) budget
    then record { answer = done (length xs); session = session_after (view v) s c; volume = cut_at v xs budget }
    else record { answer = crashed budget; session = new_session; volume = cut_at v xs budget }

-- The stores of a call that isn't refused.
abbrev pub call_stores : Volume → Session → Call → List Store
call_stores v s c = all_stores (view v).table (plan (view v) s c)

-- The number is the refusal's, or 0. "A refusal comes before any store, leaves every byte and hands back the session given."
abbrev pub call_by : ℕ → Volume → Session → Call → (budget : ℕ) → After
call_by zero v s c budget = executed v s c budget (call_stores v s c)
call_by (suc n) v s c budget = record { answer = refused (suc n); session = s; volume = v }

-- Begin, open for writing and for reading, write, commit and abort.
unfoldable pub call : Volume → Session → Call → (budget : ℕ) → After
call v s c budget = call_by (first (tests (sound v) (view v) s c)) v s c budget

-- ------------------------------------------------------------------ questions
-- The answer to a question that isn't refused. Read "answers the sector number": "the sector that (f, p) has in record k, else
-- by the map". M-103: a look "finds the page of the decided content", and "as with read, it answers the sector number".
abbrev pub answer_to : View → Query → QueryAnswer
answer_to a (read_page k f p) = found (sector_of a.table (slot_place f (slot_for a f p (entry_for a k f p))))
answer_to a (look_page f p) = found (sector_of a.table (slot_place f (decided_slot a f p)))

-- The number is the refusal's, or 0.
abbrev pub query_by : ℕ → View → Query → QueryAnswer
query_by zero a q = answer_to a q
query_by (suc n) a q = query_refused (suc n)

-- A question: no store, and no session handed back.
unfoldable pub query : Volume → Session → Query → QueryAnswer
query v s q = query_by (first (query_tests (sound v) (view v) s q)) (view v) q

-- "a second call hands back that part of the lent array itself, 256 bytes, or an empty part on a refusal"
abbrev pub part_of : Volume → QueryAnswer → Bytes
part_of v (found n) = sector v n
part_of v (query_refused n) = []

-- That second call, with the question's arguments.
abbrev pub query_part : Volume → Session → Query → Bytes
query_part v s q = part_of v (query v s q)

-- M-103: "A look takes only the volume, a file and a page", so it is the same whatever session there is; "and a second call hands
-- back that part".
abbrev pub look : Volume → (file : ℕ) → (page : ℕ) → QueryAnswer
look v f p = query v new_session (look_page f p)

abbrev pub look_part : Volume → (file : ℕ) → (page : ℕ) → Bytes
look_part v f p = part_of v (look v f p)
