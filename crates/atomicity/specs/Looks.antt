-- Looks, M-103: a look "finds the page of the decided content", and "what opening and reading would find for a kiln that doesn't hold
-- the file yet"; looks are steps of the lists of all or none, and "looks with no store between them are all-or-none together".
use Rattle.std.specs.Prelude.{◌≡◌, true, false, List, [], ◌∷◌, ℕ, length}
use Rattle.interface.specs.declared.Session.{Session}
use Rattle.interface.specs.Answers.{Answer, done, crashed, refused, QueryAnswer, found, query_refused, format_done}
use Rattle.sector.specs.Contents.{Bytes}
use Rattle.sector.specs.Sectors.{sector}
use Rattle.volume.specs.Places.{IsPage}
use Rattle.volume.specs.Volumes.{Volume, view}
use Rattle.volume.specs.Sound.{sound}
use Rattle.volume.specs.Format.{table_for, format}
use Rattle.rules.specs.Sessions.{holds_either}
use Rattle.rules.specs.Plans.{Call, open_file, open_read, read_page, look_page}
use Rattle.rules.specs.Content.{decided_content}
use Rattle.rules.specs.Calls.{After, call, query, query_part, look, look_part}
use Rattle.atomicity.specs.Runs.{Step, calls, asks, Configuration, started, given, stepped, ran_over}
use Rattle.atomicity.specs.Readers.{Finds}

-- ------------------------------------------------------------------ the decided content
-- "finds the page of the decided content": on any sound volume a look at a page that there is isn't refused, and the sector that it
-- answers and the part that it hands back have that page.
abbrev pub LooksDecided : Type 0
LooksDecided =
    (v : Volume) (f p : ℕ) → sound v ≡ true → IsPage (view v).table f p
    → Finds v (decided_content (view v) f p) (look v f p) × (look_part v f p ≡ decided_content (view v) f p)

-- ------------------------------------------------------------------ as opened
-- Client k's read after a call that left x answers what the look before the call answered, and hands back the same part.
abbrev pub FindsTheSame : Volume → After → (client file page : ℕ) → Type 0
FindsTheSame v x k f p =
    (query x.volume x.session (read_page k f p) ≡ look v f p)
    × (query_part x.volume x.session (read_page k f p) ≡ look_part v f p)

-- "where opening isn't refused or cut"
abbrev pub WhereDone : Answer → Type 0 → Type 0
WhereDone (done n) P = P
WhereDone (crashed n) P = Unit {0}
WhereDone (refused n) P = Unit {0}

-- So it is where call c is done, by which client k opens file f.
abbrev pub AsOpenedBy : Call → Volume → Session → (client file page budget : ℕ) → Type 0
AsOpenedBy c v s k f p budget = let x = call v s c budget in WhereDone x.answer (FindsTheSame v x k f p)

-- On any array, with any session (of four marks and four words, as every session has), "for a kiln that doesn't hold the file yet",
-- neither for writing nor for reading: opened for writing, and opened for reading. The page is any, so a refusal by 9 is the same too.
abbrev pub LooksAsOpened : Type 0
LooksAsOpened =
    (v : Volume) (s : Session) (k f p budget : ℕ) → length s.active ≡ 4 → length s.reading ≡ 4
    → holds_either (view v) s k f ≡ false
    → AsOpenedBy (open_file k f) v s k f p budget × AsOpenedBy (open_read k f) v s k f p budget

-- ------------------------------------------------------------------ in the lists
-- After any list of calls a look at a page that there is isn't refused, whoever holds what: it finds the model's page, and hands it
-- back.
abbrev pub LooksFind : Type 0
LooksFind =
    (v : Volume) (T : ℕ) (l : Bytes) → (format v T l).answer ≡ format_done
    → (steps : List Step) (f p : ℕ)
    → let r = ran_over (started (format v T l).volume) steps in
    IsPage (table_for (length v) T l) f p
    → Finds r.volume (r.model.pages f p) (look r.volume f p)
    × (look_part r.volume f p ≡ r.model.pages f p)

-- ------------------------------------------------------------------ together
-- The stores that an answer counts. A refused call makes none.
abbrev pub stores_counted : Answer → ℕ
stores_counted (done n) = n
stores_counted (crashed n) = n
stores_counted (refused n) = 0

-- The stores that a step makes. A question makes none.
abbrev pub stores_in : Configuration → Step → ℕ
stores_in r (calls crash c budget) = stores_counted (call r.volume (given crash r.session) c budget).answer
stores_in r (asks crash q) = 0

-- None of these steps makes a store: each is a look, a read, a refused call, or a call done or cut with 0 stores.
abbrev pub WithoutStore : Configuration → List Step → Type 0
WithoutStore r [] = Unit {0}
WithoutStore r (x ∷ xs) = (stores_in r x ≡ 0) × WithoutStore (stepped r x) xs

-- A look that isn't refused shows this page in the sector that it answers and in the part that it hands back.
abbrev pub LookShows : Bytes → Volume → (part : Bytes) → QueryAnswer → Type 0
LookShows d v part (found n) = (sector v n ≡ d) × (part ≡ d)
LookShows d v part (query_refused n) = Unit {0}

-- What is claimed of a step: of a look, that it shows the page that this content has.
abbrev pub StepShows : (content : ℕ → ℕ → Bytes) → Configuration → Step → Type 0
StepShows content r (calls crash c budget) = Unit {0}
StepShows content r (asks crash (read_page k f p)) = Unit {0}
StepShows content r (asks crash (look_page f p)) = LookShows (content f p) r.volume (look_part r.volume f p) (look r.volume f p)

-- Every look of these steps shows it.
abbrev pub AllShow : (content : ℕ → ℕ → Bytes) → Configuration → List Step → Type 0
AllShow content r [] = Unit {0}
AllShow content r (x ∷ xs) = StepShows content r x × AllShow content (stepped r x) xs

-- "Looks with no store between them are all-or-none together": after any list of calls, all looks of steps without a store show one
-- content, the model's pages at the moment when these steps begin.
abbrev pub LooksTogether : Type 0
LooksTogether =
    (v : Volume) (T : ℕ) (l : Bytes) → (format v T l).answer ≡ format_done
    → (before steps : List Step)
    → let r = ran_over (started (format v T l).volume) before in
    WithoutStore r steps → AllShow r.model.pages r steps
