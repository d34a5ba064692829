-- What holds where a call or a question isn't refused, and how it can end: a claim about what it answers and leaves, from the
-- claim about each end.
use mathlib.Core.Path.{◌≡◌, refl}
use mathlib.Core.Bool.{true}
use Prim.Native.Nat.{ℕ, zero, suc, ◌≤◌, ◌<◌}
use borrow.Author.Tests.{leb-true, leb-false, le-leb}
use lib.Dec.{leb}
use lib.ListN.{length}
use Rattle.interface.specs.declared.Session.{Session}
use Rattle.interface.specs.Answers.{new_session, done, crashed, refused, QueryAnswer, query_refused}
use Rattle.lists.specs.Lists.{first}
use Rattle.lists.proofs.CaseLaws.{if_test}
use Rattle.volume.specs.Volumes.{Volume, view}
use Rattle.volume.specs.Sound.{sound}
use Rattle.volume.specs.Stores.{cut_at}
use Rattle.volume.proofs.SoundLaws.{sound_lawful, Fine, fine, fine_sound}
use Rattle.rules.specs.Sessions.{session_fits}
use Rattle.rules.specs.Plans.{Call, Query, look_page, session_after}
use Rattle.rules.specs.Refusals.{tests, query_tests}
use Rattle.rules.specs.Calls.{After, call_stores, call_by, call, answer_to, query_by, query, look}
use Rattle.rules.proofs.AllowedLaws.{Allowed, Answerable, Later, passed_first, passed_both, ordered, query_ordered, answerable, allowed}

-- ------------------------------------------------------------------ a call
-- It isn't refused.
pub record Passed (v : Volume) (s : Session) (c : Call) : Type 0 where
  pub fine : Fine v
  pub allowed : Allowed (view v) s c

pub passed : (v : Volume) (s : Session) (c : Call) → first (tests (sound v) (view v) s c) ≡ 0 → Passed v s c
passed v s c e = record { fine = fine v (passed_first (ordered (sound v) (view v) s c) e); allowed = allowed (sound v) (view v) s (sound_lawful v) c e }

-- It is refused, but not by 1 or 2 if the volume is sound and the session fits; or it makes all its stores; or as many of them
-- as its budget allows, which are fewer.
pub call_case : (P : After → Type 0) (v : Volume) (s : Session) (c : Call) (budget : ℕ) → let xs = call_stores v s c in
    ((n : ℕ) → (Fine v → session_fits (view v) s ≡ true → Later n) → P (record { answer = refused n; session = s; volume = v }))
    → (Passed v s c → length xs ≤ budget → P (record { answer = done (length xs); session = session_after (view v) s c; volume = cut_at v xs budget }))
    → (Passed v s c → budget < length xs → P (record { answer = crashed budget; session = new_session; volume = cut_at v xs budget }))
    → P (call v s c budget)
unfolding call
call_case P v s c budget r d k = go (first (tests (sound v) (view v) s c)) refl
  where
    go : (n : ℕ) → first (tests (sound v) (view v) s c) ≡ n → P (call_by n v s c budget)
    go zero e = if_test P (leb (length (call_stores v s c)) budget) _ _
        (λ x. d (passed v s c e) (leb-true _ _ x)) (λ x. k (passed v s c e) (leb-false _ _ x))
    go (suc n) e = r (suc n) (λ h fits. rw e at (passed_both (ordered (sound v) (view v) s c) (fine_sound v h) fits))

-- None of its tests holds, and the budget is enough.
pub call_done : (v : Volume) (s : Session) (c : Call) (budget : ℕ) → first (tests (sound v) (view v) s c) ≡ 0
    → let xs = call_stores v s c in length xs ≤ budget
    → call v s c budget ≡ record { answer = done (length xs); session = session_after (view v) s c; volume = cut_at v xs budget }
unfolding call
call_done v s c budget e le = rw (e, le-leb _ _ le)

-- It leaves the volume as it is, or with the first of its stores made.
pub call_left : (P : Volume → Type 0) (v : Volume) (s : Session) (c : Call) (budget : ℕ) → P v
    → (Passed v s c → P (cut_at v (call_stores v s c) budget)) → P (call v s c budget).volume
call_left P v s c budget h q = call_case (λ (x : After). P x.volume) v s c budget (λ n e. h) (λ ok le. q ok) (λ ok lt. q ok)

-- ------------------------------------------------------------------ a question
-- A question that isn't refused.
pub query_answered : (v : Volume) (s : Session) (q : Query) → first (query_tests (sound v) (view v) s q) ≡ 0
    → query v s q ≡ answer_to (view v) q
unfolding query
query_answered v s q e = rw e

-- It is refused, as above, or it is answered.
pub query_case : (P : QueryAnswer → Type 0) (v : Volume) (s : Session) (q : Query)
    → ((n : ℕ) → (Fine v → session_fits (view v) s ≡ true → Later n) → P (query_refused n))
    → (Fine v → Answerable (view v) s q → query v s q ≡ answer_to (view v) q → P (answer_to (view v) q))
    → P (query v s q)
unfolding query
query_case P v s q r d = go (first (query_tests (sound v) (view v) s q)) refl
  where
    go : (n : ℕ) → first (query_tests (sound v) (view v) s q) ≡ n → P (query_by n (view v) q)
    go zero e = d (fine v (passed_first (query_ordered (sound v) (view v) s q) e))
        (answerable (sound v) (view v) s (sound_lawful v) q e) (query_answered v s q e)
    go (suc n) e = r (suc n) (λ h fits. rw e at (passed_both (query_ordered (sound v) (view v) s q) (fine_sound v h) fits))

-- A look is the same whatever session the step is given.
pub look_asked : (v : Volume) (s : Session) (f p : ℕ) → query v s (look_page f p) ≡ look v f p
unfolding query query_tests
look_asked v s f p = refl
