-- Passing a session loses nothing: one that a call handed back is taken for what it was, and one that C gave is handed back as it was
-- given wherever the call is refused.
use mathlib.Core.Path.{◌≡◌, refl, ap}
use mathlib.Core.Bool.{Bool, true, false, false≢true}
use mathlib.Core.List.{List}
use Prim.Native.Nat.{ℕ, ◌≤◌}
use native.Mathlib.Omega.{arith}
use borrow.Author.Tests.{le-ltb, ltb-false, eqb-true}
use lib.Dec.{eqb}
use lib.ListN.{length, get_or}
use Rattle.interface.specs.declared.Session.{Session}
use Rattle.interface.specs.Answers.{session_of, mark_worth, marks_byte, none_reading, Answer, done, crashed, refused}
use Rattle.interface.proofs.SessionLaws.{session_back}
use Rattle.lists.proofs.ListLaws.{every_from}
use Rattle.lists.proofs.CaseLaws.{by_test}
use Rattle.volume.specs.Volumes.{Volume}
use Rattle.rules.specs.Plans.{Call}
use Rattle.rules.specs.Calls.{After, call}
use Rattle.rules.proofs.CallLaws.{call_case}
use Rattle.capi.specs.declared.VolSession.{VolSession}
use Rattle.capi.specs.Passing.{session_from, passed_session, has_other_bits, called_by}

pub session_passed : (s : Session) → length s.active ≡ 4 → session_from (passed_session s) ≡ s
session_passed s h = session_back s h

worth_most : (b : Bool) (n : ℕ) → mark_worth b n ≤ n
worth_most true n = omega arith
worth_most false n = omega arith

pub no_other_bits : (s : Session) → has_other_bits (passed_session s) ≡ false
no_other_bits s = le-ltb 15 (marks_byte s)
    (omega (arith, worth_most (get_or s.active 0 false) 1, worth_most (get_or s.active 1 false) 2, worth_most (get_or s.active 2 false) 4, worth_most (get_or s.active 3 false) 8))

-- A byte of four marks is the byte of its marks, each of the sixteen.
marks_back : (b : ℕ) (words : List ℕ) → b ≤ 15 → marks_byte (session_of b words) ≡ b
marks_back b words h = eqb-true _ _ (every_from (λ i. eqb (marks_byte (session_of i none_reading)) i) 16 0 refl b (omega arith) (omega (arith, h)))

pub given_back : (c : VolSession) → has_other_bits c ≡ false → passed_session (session_from c) ≡ c
given_back c e = λ i. record { active = marks_back c.active c.reading (ltb-false _ _ e) i; reading = c.reading }

-- "A refusal .. hands back the session given", as C gave it.
pub refused_given : (v : Volume) (c : VolSession) (x : Call) (budget n : ℕ) → (call v (session_from c) x budget).answer ≡ refused n
    → (called_by v c x budget).reply.session ≡ c
unfolding called_by
refused_given v c x budget n = by_test (has_other_bits c) (λ e r. rw e) (λ e. rw e (call_case
    (λ (y : After). y.answer ≡ refused n → passed_session y.session ≡ c) v (session_from c) x budget
    (λ m ok r. given_back c e) (λ w le r. absurd (done_not r)) (λ w lt r. absurd (crashed_not r))))
  where
    is_refused : Answer → Bool
    is_refused (done m) = false
    is_refused (crashed m) = false
    is_refused (refused m) = true

    done_not : {m : ℕ} → done m ≡ refused n → ⊥
    done_not r = false≢true (ap is_refused r)

    crashed_not : {m : ℕ} → crashed m ≡ refused n → ⊥
    crashed_not r = false≢true (ap is_refused r)
