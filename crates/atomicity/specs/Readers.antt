-- Readers are steady, M-102: "The all-or-none rule now includes readers, whose pages don't change while they hold." Of every step of
-- every list: a client that holds a file for reading is shown its decided content; while it holds it no page changes; and it holds it
-- until the step that ends the hold.
use Rattle.std.specs.Prelude.{◌≡◌, Bool, true, false, ◌&&◌, List, [], ◌∷◌, ◌≢◌, ℕ, ◌≤◌, eqb, length}
use Rattle.interface.specs.declared.Session.{Session}
use Rattle.interface.specs.Answers.{done, crashed, QueryAnswer, found, query_refused, format_done}
use Rattle.sector.specs.Contents.{Bytes, Table}
use Rattle.sector.specs.Sectors.{sector}
use Rattle.volume.specs.Places.{IsClient, IsFile, IsPage}
use Rattle.volume.specs.Volumes.{Volume, view}
use Rattle.volume.specs.Format.{table_for, format}
use Rattle.rules.specs.Sessions.{is_reading}
use Rattle.rules.specs.Plans.{Call, begin, open_file, open_read, write, commit, abort, read_page}
use Rattle.rules.specs.Content.{decided_content}
use Rattle.rules.specs.Calls.{call, query, query_part}
use Rattle.atomicity.specs.Model.{shown}
use Rattle.atomicity.specs.Runs.{Step, calls, asks, Configuration, started, given, stepped, ran_over}
use Rattle.atomicity.specs.NonVacuity.{called_all, answers_to}

-- The session that the step is given.
abbrev pub given_to : Configuration → Step → Session
given_to r (calls crash c budget) = given crash r.session
given_to r (asks crash q) = given crash r.session

-- ------------------------------------------------------------------ at each step
-- A question isn't refused, and the sector that it answers has these bytes.
abbrev pub Finds : Volume → Bytes → QueryAnswer → Type 0
Finds v d (found n) = sector v n ≡ d
Finds v d (query_refused n) = ⊥

-- A client that holds a file for reading in the session given is shown the file's decided content; and a read finds it, and hands it
-- back.
abbrev pub ReadersShown : Table → Configuration → Step → Type 0
ReadersShown t r x =
    (k f p : ℕ) → IsClient t k → IsPage t f p → is_reading (given_to r x) k f ≡ true
    → let d = decided_content (view r.volume) f p in
    (shown r.model (read_page k f p) ≡ d)
    × Finds r.volume d (query r.volume (given_to r x) (read_page k f p))
    × (query_part r.volume (given_to r x) (read_page k f p) ≡ d)

-- From r to r' neither the decided content of the page has changed nor what the client is shown.
abbrev pub Unchanged : (r r' : Configuration) → (client file page : ℕ) → Type 0
Unchanged r r' k f p =
    (decided_content (view r'.volume) f p ≡ decided_content (view r.volume) f p)
    × (shown r'.model (read_page k f p) ≡ shown r.model (read_page k f p))

-- So it is of a client that holds the file for reading in the session given, whether or not it holds it after the step.
abbrev pub StepSteady : Table → Configuration → Step → Type 0
StepSteady t r x =
    (k f p : ℕ) → IsClient t k → IsPage t f p → is_reading (given_to r x) k f ≡ true → Unchanged r (stepped r x) k f p

-- What ends client k's reading hold of file f, besides a crash: k's commit, k's abort, and k's open of f for writing.
abbrev pub ends_hold : (client file : ℕ) → Call → Bool
ends_hold k f (begin j) = false
ends_hold k f (open_file j g) = eqb j k && eqb g f
ends_hold k f (open_read j g) = false
ends_hold k f (write j g p d) = false
ends_hold k f (commit j) = eqb j k
ends_hold k f (abort j) = eqb j k

-- Nothing else does: a call that isn't cut, whether it is refused or done.
abbrev pub HoldsStay : Table → Configuration → Step → Type 0
HoldsStay t r (calls crash c budget) =
    let x = call r.volume (given crash r.session) c budget in
    (k f : ℕ) → IsClient t k → IsFile t f → is_reading (given crash r.session) k f ≡ true
    → ends_hold k f c ≡ false → ((n : ℕ) → x.answer ≢ crashed n) → is_reading x.session k f ≡ true
HoldsStay t r (asks crash q) = Unit {0}

-- All this holds at every step.
abbrev pub Steadily : Table → Configuration → List Step → Type 0
Steadily t r [] = Unit {0}
Steadily t r (x ∷ xs) = ReadersShown t r x × StepSteady t r x × HoldsStay t r x × Steadily t (stepped r x) xs

-- For every volume as format left it, and every list of calls.
abbrev pub ReadersSteady : Type 0
ReadersSteady =
    (v : Volume) (T : ℕ) (l : Bytes) → (format v T l).answer ≡ format_done
    → (steps : List Step) → Steadily (table_for (length v) T l) (started (format v T l).volume) steps

-- ------------------------------------------------------------------ over several steps
-- Client k holds file f for reading in the session given to each of these steps.
abbrev pub ReadsThrough : Configuration → ℕ → ℕ → List Step → Type 0
ReadsThrough r k f [] = Unit {0}
ReadsThrough r k f (x ∷ xs) = (is_reading (given_to r x) k f ≡ true) × ReadsThrough (stepped r x) k f xs

-- Then no page of it has changed in the end, whatever came before.
abbrev pub SteadyWhile : Type 0
SteadyWhile =
    (v : Volume) (T : ℕ) (l : Bytes) → (format v T l).answer ≡ format_done
    → (before steps : List Step) (k f p : ℕ)
    → let t = table_for (length v) T l in
    let r = ran_over (started (format v T l).volume) before in
    IsClient t k → IsPage t f p → ReadsThrough r k f steps → Unchanged r (ran_over r steps) k f p

-- ------------------------------------------------------------------ not hollow
-- Two clients begin and open file f for reading.
abbrev pub sharing : ℕ → ℕ → ℕ → List Call
sharing j k f = begin j ∷ begin k ∷ open_read j f ∷ open_read k f ∷ []

-- On a formatted volume any two clients may do so with any file: all four calls are done, the last two without a store, and then
-- both hold the file.
abbrev pub ReadersShare : Type 0
ReadersShare =
    (v : Volume) (T : ℕ) (l : Bytes) → (format v T l).answer ≡ format_done
    → (j k f : ℕ) (budget : ℕ)
    → let t = table_for (length v) T l in
    let r = started (format v T l).volume in
    IsClient t j → IsClient t k → j ≢ k → IsFile t f → 1 ≤ budget
    → (answers_to r budget (sharing j k f) ≡ done 1 ∷ done 1 ∷ done 0 ∷ done 0 ∷ [])
    × (is_reading (called_all r budget (sharing j k f)).session j f ≡ true)
    × (is_reading (called_all r budget (sharing j k f)).session k f ≡ true)
