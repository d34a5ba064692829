-- The model's rules, one by one: what it has after each call, however that ended, given a session with marks and one with none;
-- and what a run hands to it. All or none looks at what is pending only while its client is active, so it is these examples
-- that say when pages are dropped. The checker evaluates both sides.
use mathlib.Core.Path.{◌≡◌, refl}
use mathlib.Core.Bool.{Bool, true, false}
use mathlib.Core.List.{List, [], ◌∷◌, map}
use mathlib.Core.Option.{Option, none, some}
use Prim.Native.Nat.{ℕ}
use lib.ListN.{replicate}
use Rattle.interface.specs.declared.Session.{Session}
use Rattle.interface.specs.Answers.{new_session, Answer, done, crashed, refused}
use Rattle.sector.specs.Contents.{Bytes}
use Rattle.volume.specs.Volumes.{Volume}
use Rattle.rules.specs.Plans.{Call, begin, open_file, open_read, write, commit, abort, Query, read_page}
use Rattle.rules.specs.Calls.{call}
use Rattle.rules.proofs.ExampleViews.{reads, active1, active2, active3, active4, active12}
use Rattle.atomicity.specs.Model.{Model, new_model, shown, effect, model_call}
use Rattle.atomicity.specs.Runs.{Step, calls, asks, Configuration, started, given, stepped, ran_over}

-- ------------------------------------------------------------------ what a model has
-- What it has for pages 0 and 1 of file 1, then of file 2.
abbrev over_pages : {A : Type 0} → (ℕ → ℕ → A) → List A
over_pages x = x 1 0 ∷ x 1 1 ∷ x 2 0 ∷ x 2 1 ∷ []

-- The bytes of these pages, and for each of the four clients what is pending for them.
record State : Type 0 where
  pages : List Bytes
  pending : List (List (Option Bytes))

abbrev state_of : Model → State
state_of m = record { pages = over_pages m.pages; pending = map (λ k. over_pages (m.pending k)) (1 ∷ 2 ∷ 3 ∷ 4 ∷ []) }

-- Nothing is pending for a client.
abbrev nothing : List (Option Bytes)
nothing = replicate 4 none

-- These pages, with this pending for client 1 and client 2.
abbrev state : List Bytes → List (Option Bytes) → List (Option Bytes) → State
state pages p1 p2 = record { pages = pages; pending = p1 ∷ p2 ∷ nothing ∷ nothing ∷ [] }

-- "After layout all pages are zero and all slips empty."
abbrev zeros : Bytes
zeros = replicate 256 0

abbrev old : List Bytes
old = replicate 4 zeros

after_format : state_of new_model ≡ state old nothing nothing
after_format = refl

-- ------------------------------------------------------------------ writes
-- Pages by a byte each: the model takes any bytes.
abbrev A : Bytes
A = 0xA1 ∷ []

abbrev B : Bytes
B = 0xB2 ∷ []

abbrev C : Bytes
C = 0xC3 ∷ []

abbrev D : Bytes
D = 0xD4 ∷ []

abbrev E : Bytes
E = 0xE5 ∷ []

-- The model after writes that were done, given that session: client, file, page, bytes.
abbrev wrote : Model → List (ℕ × ℕ × ℕ × Bytes) → Model
wrote m [] = m
wrote m (x ∷ xs) = wrote (model_call m active12 (write x.0 x.1 x.2 x.3) (done 2)) xs

-- Both clients have written, each to two pages, one of them the same.
abbrev busy : Model
busy = wrote new_model ((1, 1, 0, A) ∷ (1, 2, 1, B) ∷ (2, 1, 0, C) ∷ (2, 2, 0, D) ∷ [])

abbrev own1 : List (Option Bytes)
own1 = some A ∷ none ∷ none ∷ some B ∷ []

abbrev own2 : List (Option Bytes)
own2 = some C ∷ none ∷ some D ∷ none ∷ []

-- "the page goes on k's slip": no other page, file or client has it, and no page is changed.
writes_pend : state_of busy ≡ state old own1 own2
unfolding model_call
writes_pend = refl

-- "in place of an earlier one for the same (file, page)"
write_again : state_of (wrote busy ((1, 1, 0, E) ∷ [])) ≡ state old (some E ∷ none ∷ none ∷ some B ∷ []) own2
unfolding model_call
write_again = refl

-- Client 1 commits: "the pages on k's slip replace the book's"; the others stay, also when client 2 commits after it.
abbrev committed_by1 : Model
committed_by1 = model_call busy active12 (commit 1) (done 4)

commits_add_up : state_of (model_call committed_by1 active12 (commit 2) (done 4)) ≡ state (C ∷ zeros ∷ D ∷ B ∷ []) nothing nothing
unfolding model_call
commits_add_up = refl

-- "It shows kiln k the page on k's slip, else the book's page."
shows : map (λ k. shown busy (read_page k 1 0)) (1 ∷ 2 ∷ 3 ∷ []) ≡ A ∷ C ∷ zeros ∷ []
unfolding model_call
shows = refl

shows_after : map (λ k. shown committed_by1 (read_page k 1 0)) (1 ∷ 2 ∷ 3 ∷ []) ≡ A ∷ C ∷ A ∷ []
unfolding model_call
shows_after = refl

-- ------------------------------------------------------------------ every call, by its answer
-- What each call of client 1 leaves, given this session, if it answered so.
abbrev leave : Session → Answer → List State
leave s x = map (λ c. state_of (model_call busy s c x)) (begin 1 ∷ open_file 1 1 ∷ open_read 1 1 ∷ write 1 1 1 E ∷ commit 1 ∷ abort 1 ∷ [])

-- Nothing changes; every client's pending pages are dropped.
abbrev unchanged : State
unchanged = state old own1 own2

abbrev dropped : State
dropped = state old nothing nothing

-- "the pages on k's slip replace the book's"
abbrev new : List Bytes
new = A ∷ zeros ∷ zeros ∷ B ∷ []

-- Done: write adds its page, "Then k's slip is emptied" by commit, and by abort. The other client's pages stay pending.
done_given_marks : (n : ℕ) → leave active12 (done n)
    ≡ unchanged
    ∷ unchanged
    ∷ unchanged
    ∷ state old (some A ∷ some E ∷ none ∷ some B ∷ []) own2
    ∷ state new nothing own2
    ∷ state old nothing own2
    ∷ []
unfolding model_call
done_given_marks n = refl

-- "Any call cut: after the above, every slip is emptied."
crashed_at_0 : leave active12 (crashed 0) ≡ replicate 6 dropped
unfolding model_call
crashed_at_0 = refl

-- "Anything else changes nothing": so it is of a write and an abort that are cut, before all is dropped.
crashed_before : map (λ c. state_of (effect busy c (crashed 1))) (write 1 1 1 E ∷ abort 1 ∷ []) ≡ unchanged ∷ unchanged ∷ []
unfolding model_call
crashed_before = refl

-- Commit "cut with a count of at least 1: its deciding store, the first, was made".
crashed_later : map (λ n. leave active12 (crashed n)) (1 ∷ 2 ∷ 255 ∷ [])
    ≡ replicate 3 (dropped ∷ dropped ∷ dropped ∷ dropped ∷ state new nothing nothing ∷ dropped ∷ [])
unfolding model_call
crashed_later = refl

-- "A refused call does nothing more", and its session has a mark.
refused_given_marks : (n : ℕ) → leave active12 (refused n) ≡ replicate 6 unchanged
unfolding model_call
refused_given_marks n = refl

-- "Any other call, refused or not, whose given session has no mark first empties every slip": a write's page is then the only
-- one, and a commit has nothing to take.
done_given_none : (n : ℕ) → leave new_session (done n)
    ≡ dropped ∷ dropped ∷ dropped ∷ state old (none ∷ some E ∷ none ∷ none ∷ []) nothing ∷ dropped ∷ dropped ∷ []
unfolding model_call
done_given_none n = refl

crashed_given_none : map (λ n. leave new_session (crashed n)) (0 ∷ 1 ∷ 255 ∷ []) ≡ replicate 3 (replicate 6 dropped)
unfolding model_call
crashed_given_none = refl

refused_given_none : (n : ℕ) → leave new_session (refused n) ≡ replicate 6 dropped
unfolding model_call
refused_given_none n = refl

-- The mark of any client is one, not only the caller's. A reading hold is none: a session with holds and no mark empties every slip.
any_mark : map (λ s. state_of (model_call busy s (begin 1) (done 1)))
    (active1 ∷ active2 ∷ active3 ∷ active4 ∷ reads new_session (1 ∷ 1 ∷ 0 ∷ 0 ∷ []) ∷ [])
    ≡ unchanged ∷ unchanged ∷ unchanged ∷ unchanged ∷ dropped ∷ []
unfolding model_call
any_mark = refl

-- ------------------------------------------------------------------ what a run hands to the model
-- "It starts from the volume as layout left it and a new session."
starts : (v : Volume) → started v ≡ record { volume = v; session = new_session; model = new_model }
starts v = refl

-- "A trip between two calls is a new session given to the next."
after_crash : (s : Session) → given true s ≡ new_session
after_crash s = refl

no_crash : (s : Session) → given false s ≡ s
no_crash s = refl

-- A call is given that session, and so is the model; the session handed back is the call's.
call_step : (r : Configuration) (crash : Bool) (c : Call) (budget : ℕ)
    → let s = given crash r.session in
    let x = call r.volume s c budget in
    stepped r (calls crash c budget) ≡ record { volume = x.volume; session = x.session; model = model_call r.model s c x.answer }
unfolding stepped
call_step r crash c budget = refl

-- "A read changes nothing", nor after a crash.
query_step : (r : Configuration) (crash : Bool) (q : Query) → stepped r (asks crash q) ≡ r
unfolding stepped
query_step r crash q = refl

-- One step after the other.
two_steps : (r : Configuration) (x y : Step) → ran_over r (x ∷ y ∷ []) ≡ stepped (stepped r x) y
two_steps r x y = refl
