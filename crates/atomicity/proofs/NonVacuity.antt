-- All or none isn't hollow: no call leaves a sound volume unsound, at any budget; and from a sound volume and a session that
-- fits it, no step is refused by 1 or 2.
-- That the views on the way are lawful, and that the bytes on the way are encodings, are two laws; together they are
-- soundness. The session handed back fits, so both hold again before the next step.
use mathlib.Core.Path.{◌≡◌, refl}
use mathlib.Core.Bool.{Bool, true, false}
use mathlib.Core.List.{List, [], ◌∷◌}
use Prim.Native.Nat.{ℕ, ◌≤◌}
use native.Mathlib.Omega.{arith}
use lib.ListN.{length}
use Rattle.interface.specs.declared.Session.{Session}
use Rattle.interface.specs.Answers.{new_session, QueryAnswer, format_done}
use Rattle.sector.specs.Contents.{Bytes}
use Rattle.volume.specs.Volumes.{Volume, view}
use Rattle.volume.specs.Sound.{sound}
use Rattle.volume.specs.Stores.{cut_at}
use Rattle.volume.specs.Format.{table_for, format}
use Rattle.volume.proofs.SoundLaws.{Fine, fine, fine_sound}
use Rattle.volume.proofs.FormatLaws.{new_fine, FormatFacts, format_done_lem}
use Rattle.rules.specs.Sessions.{session_fits}
use Rattle.rules.specs.Plans.{Call, Query, read_page, look_page, session_after}
use Rattle.rules.specs.Calls.{After, call_stores, call, query}
use Rattle.rules.proofs.SessionLaws.{new_fits}
use Rattle.rules.proofs.CallLaws.{Passed, call_case, call_left, query_case}
use Rattle.rules.proofs.AllowedLaws.{Later, running_fits}
use Rattle.atomicity.specs.Runs.{Step, calls, asks, Configuration, started, given, stepped, ran_over}
use Rattle.atomicity.specs.NonVacuity.{StaysSound, refusal_of, query_refusal_of, step_refusal, Accepted, AlwaysAccepted}
use Rattle.atomicity.proofs.StepLaws.{left_all, left_fine}
use Rattle.atomicity.proofs.Theorem.{started_as}
use Rattle.atomicity.proofs.ReturnLaws.{returned_runs, returned_marks, returned_words}
use Rattle.atomicity.proofs.HoldLaws.{returned_reads}

-- ------------------------------------------------------------------ every call leaves a sound volume
pub stays_sound : StaysSound
stays_sound v s c budget ok = call_left (λ w. sound w ≡ true) v s c budget ok (λ h. fine_sound _ (left_fine v s c h budget))

-- ------------------------------------------------------------------ and a session that fits it
pub record Steady (v : Volume) (s : Session) : Type 0 where
  pub volume : Fine v
  pub session : session_fits (view v) s ≡ true
  pub marks : length s.active ≡ 4
  pub words : length s.reading ≡ 4

pub new_steady : {v : Volume} → Fine v → Steady v new_session
new_steady {v} h = record { volume = h; session = new_fits (view v); marks = refl; words = refl }

pub given_steady : {v : Volume} {s : Session} (crash : Bool) → Steady v s → Steady v (given crash s)
given_steady true h = new_steady h.volume
given_steady false h = h

-- What a call that is done leaves.
pub done_steady : {v : Volume} {s : Session} {c : Call} → Passed v s c → length s.active ≡ 4 → length s.reading ≡ 4
    → (budget : ℕ) → length (call_stores v s c) ≤ budget → Steady (cut_at v (call_stores v s c) budget) (session_after (view v) s c)
done_steady {v} {s} {c} ok marks words budget le = record {
  volume = left_fine v s c ok budget;
  session = rw (left_all v s c ok budget le)
      (running_fits _ (session_after (view v) s c) (returned_runs (view v) s marks c ok.allowed) (returned_reads (view v) s marks words c ok.allowed));
  marks = returned_marks (view v) s marks c;
  words = returned_words (view v) s words c;
}

module _ {v : Volume} {s : Session} (h : Steady v s) where
  pub call_steady : (c : Call) (budget : ℕ) → let x = call v s c budget in Steady x.volume x.session
  call_steady c budget = call_case (λ (x : After). Steady x.volume x.session) v s c budget (λ n e. h)
      (λ ok le. done_steady ok h.marks h.words budget le) (λ ok lt. new_steady (left_fine v s c ok budget))

  -- Neither refusal 1 nor refusal 2.
  call_later : (c : Call) (budget : ℕ) → Later (refusal_of (call v s c budget).answer)
  call_later c budget = call_case (λ (x : After). Later (refusal_of x.answer)) v s c budget
      (λ n later. later h.volume h.session) (λ ok le. (omega arith, omega arith)) (λ ok lt. (omega arith, omega arith))

  query_later : (q : Query) → Later (query_refusal_of (query v s q))
  query_later (read_page k f p) = query_case (λ (x : QueryAnswer). Later (query_refusal_of x)) v s (read_page k f p)
      (λ n later. later h.volume h.session) (λ fine w e. (omega arith, omega arith))
  query_later (look_page f p) = query_case (λ (x : QueryAnswer). Later (query_refusal_of x)) v s (look_page f p)
      (λ n later. later h.volume h.session) (λ fine w e. (omega arith, omega arith))

-- ------------------------------------------------------------------ every list of steps
module _ (r : Configuration) (h : Steady r.volume r.session) where
  step_later : (x : Step) → Later (step_refusal r x)
  step_later (calls crash c budget) = call_later (given_steady crash h) c budget
  step_later (asks crash q) = query_later (given_steady crash h) q

  pub step_steady : (x : Step) → Steady (stepped r x).volume (stepped r x).session
  unfolding stepped
  step_steady (calls crash c budget) = call_steady (given_steady crash h) c budget
  step_steady (asks crash q) = h

pub ran_steady : (r : Configuration) → Steady r.volume r.session → (steps : List Step)
    → Steady (ran_over r steps).volume (ran_over r steps).session
ran_steady r h [] = h
ran_steady r h (x ∷ xs) = ran_steady (stepped r x) (step_steady r h x) xs

pub accepted : (r : Configuration) (steps : List Step) → Steady r.volume r.session → Accepted r steps
accepted r [] h = tt
accepted r (x ∷ xs) h =
    let later = step_later r h x in
    (later.0, later.1, accepted (stepped r x) xs (step_steady r h x))

-- From any sound volume with the content that it has.
pub accepted_from : (v : Volume) (steps : List Step) → sound v ≡ true → Accepted (started_as v) steps
accepted_from v steps ok = accepted (started_as v) steps (new_steady (fine v ok))

-- From a formatted volume.
pub format_steady : (v : Volume) (T : ℕ) (l : Bytes) → (format v T l).answer ≡ format_done → Steady (format v T l).volume new_session
format_steady v T l d =
    let x : FormatFacts (table_for (length v) T l) (format v T l).volume = format_done_lem v T l d in
    rw x.volume (new_steady (new_fine (table_for (length v) T l) x.facts))

pub always_accepted : AlwaysAccepted
always_accepted v T l d steps = accepted (started (format v T l).volume) steps (format_steady v T l d)
