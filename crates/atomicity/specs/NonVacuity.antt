-- All or none isn't hollow: refusals because of the volume or of the session never come, if the volume was sound at first;
-- and what is written and committed on a fresh volume is then the content.
use Rattle.std.specs.Prelude.{◌≡◌, true, List, [], ◌∷◌, ◌≢◌, ℕ, ◌≤◌, ◌<◌, length}
use Rattle.interface.specs.declared.Session.{Session}
use Rattle.interface.specs.Answers.{Answer, done, crashed, refused, QueryAnswer, found, query_refused, format_done}
use Rattle.sector.specs.Contents.{Bytes}
use Rattle.volume.specs.Places.{IsClient, IsPage, file_at}
use Rattle.volume.specs.Volumes.{Volume, view}
use Rattle.volume.specs.Sound.{sound}
use Rattle.volume.specs.Format.{table_for, format}
use Rattle.rules.specs.Plans.{Call, begin, open_file, write, commit}
use Rattle.rules.specs.Content.{decided_content}
use Rattle.rules.specs.Calls.{call, query}
use Rattle.atomicity.specs.Runs.{Step, calls, asks, Configuration, started, given, called, stepped}

-- Every call leaves a sound volume sound. The budget is any, so that holds after every prefix of its stores.
abbrev pub StaysSound : Type 0
StaysSound = (v : Volume) (s : Session) (c : Call) (budget : ℕ) → sound v ≡ true → sound (call v s c budget).volume ≡ true

-- The number of the refusal, or 0.
abbrev pub refusal_of : Answer → ℕ
refusal_of (done n) = 0
refusal_of (crashed n) = 0
refusal_of (refused n) = n

-- The same of a question.
abbrev pub query_refusal_of : QueryAnswer → ℕ
query_refusal_of (found n) = 0
query_refusal_of (query_refused n) = n

-- The same of a step.
abbrev pub step_refusal : Configuration → Step → ℕ
step_refusal r (calls crash c budget) = refusal_of (call r.volume (given crash r.session) c budget).answer
step_refusal r (asks crash q) = query_refusal_of (query r.volume (given crash r.session) q)

-- No step is refused by 1, "the volume isn't sound", or by 2, of the session.
abbrev pub Accepted : Configuration → List Step → Type 0
Accepted r [] = Unit {0}
Accepted r (x ∷ xs) = (step_refusal r x ≢ 1) × (step_refusal r x ≢ 2) × Accepted (stepped r x) xs

-- So it is in every list of calls on a formatted volume.
abbrev pub AlwaysAccepted : Type 0
AlwaysAccepted =
    (v : Volume) (T : ℕ) (l : Bytes) → (format v T l).answer ≡ format_done
    → (steps : List Step) → Accepted (started (format v T l).volume) steps

-- The configuration after these calls, one after the other, each with this budget and the session that the one before handed back.
abbrev pub called_all : Configuration → (budget : ℕ) → List Call → Configuration
called_all r budget [] = r
called_all r budget (c ∷ cs) = called_all (called r r.session c budget) budget cs

-- The answers to them.
abbrev pub answers_to : Configuration → (budget : ℕ) → List Call → List Answer
answers_to r budget [] = []
answers_to r budget (c ∷ cs) = (call r.volume r.session c budget).answer ∷ answers_to (called r r.session c budget) budget cs

-- The transaction of client k that writes d to page p of file f.
abbrev pub writing : ℕ → ℕ → ℕ → Bytes → List Call
writing k f p d = begin k ∷ open_file k f ∷ write k f p d ∷ commit k ∷ []

-- On a formatted volume any client may write 256 bytes to any page of a file that has more slots than pages: with a budget of
-- 3 all four calls are done, with 1, 1, 2 and 3 stores, and these bytes are then the page's decided content.
abbrev pub WritesTakeEffect : Type 0
WritesTakeEffect =
    (v : Volume) (T : ℕ) (l : Bytes) → (format v T l).answer ≡ format_done
    → (k f p : ℕ) (d : Bytes) (budget : ℕ)
    → let t = table_for (length v) T l in
    let r = started (format v T l).volume in
    IsClient t k → IsPage t f p → (file_at t f).pages < (file_at t f).slots → length d ≡ 256 → 3 ≤ budget
    → (answers_to r budget (writing k f p d) ≡ done 1 ∷ done 1 ∷ done 2 ∷ done 3 ∷ [])
    × (decided_content (view (called_all r budget (writing k f p d)).volume) f p ≡ d)
