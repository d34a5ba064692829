-- The marks of the session that a call hands back fit the volume that it leaves: every client that it marks has a transaction
-- running.
-- A client that was active and isn't the caller has its record and its files, as the call's updates leave them alone; the
-- caller has, after begin an open record without entries, after write one entry more for a file that it holds.
use mathlib.Core.Path.{◌≡◌, refl, sym, ap, ◌∙◌}
use mathlib.Core.Bool.{true, false}
use mathlib.Core.List.{List}
use mathlib.Core.Logic.{◌≢◌}
use mathlib.Core.Option.{Option, none, some}
use Prim.Native.Nat.{ℕ, ◌≤◌}
use native.Mathlib.Omega.{arith}
use borrow.Author.Tests.{eqb-true, eq-eqb, ne_eqb}
use lib.Dec.{eqb}
use lib.ListN.{length}
use Rattle.interface.specs.declared.Session.{Session}
use Rattle.lists.specs.Lists.{every}
use Rattle.sector.specs.Contents.{Bytes, Entry, Record}
use Rattle.lists.proofs.ListLaws.{no_both}
use Rattle.lists.proofs.CaseLaws.{by_equal, if_test}
use Rattle.lists.proofs.SearchLaws.{every_implies, every_end}
use Rattle.volume.specs.Views.{View, Update, changed_by}
use Rattle.volume.proofs.AlongLaws.{along_end, changed_table}
use Rattle.rules.specs.Sessions.{is_active, set_active, with_reading, holds_either}
use Rattle.rules.specs.Plans.{Call, begin, open_file, open_read, write, commit, abort, entry_for, chosen, begin_plan, write_plan, plan, session_after}
use Rattle.rules.proofs.SessionLaws.{set_same, set_other, set_marks, set_words}
use Rattle.rules.proofs.AllowedLaws.{Active, Others, Running, MayBegin, MayAct, MayWrite, Allowed}
use Rattle.atomicity.proofs.KeepLaws.{Untouched}
use Rattle.atomicity.proofs.PlanLaws.{KeptAlong, abort_along, begin_along, begin_opens, open_along, open_read_along}
use Rattle.atomicity.proofs.WriteLaws.{write_along, commit_along}

-- ------------------------------------------------------------------ clients that are left alone
-- Every client that is active at the end has a transaction running: one other than k was active, and has what it had.
runs_after : {a : View} {s s' : Session} {k : ℕ} {xs : List Update} → KeptAlong a s k a xs
    → ((j : ℕ) → 1 ≤ j → j ≢ k → is_active s' j ≡ is_active s j) → ((j : ℕ) → Others s k j → Running a j)
    → (Active s' k → Running (changed_by a xs) k) → (j : ℕ) → Active s' j → Running (changed_by a xs) j
runs_after {a} {s} {k = k} {xs} along marks runs own j w = by_equal j k (λ e. rw e (own (rw e at w)))
    (λ n.
    let o : Others s k j = record { active = record { low = w.low; high = w.high; on = sym (marks j w.low n) ∙ w.on }; other = n } in
    let u : Untouched a j (changed_by a xs) = (along_end along).others j o in
    let r : Running a j = runs j o in
    record {
      client = rw (changed_table xs a) r.client;
      state = ap (λ (x : Record). x.state) u.same ∙ r.state;
      mine = rw u.same (every_implies (λ e. eqb (a.headers e.file).holder j) (λ e. eqb ((changed_by a xs).headers e.file).holder j)
          (λ e h. eq-eqb _ _ (u.holds e.file (eqb-true _ _ h))) (a.records j).entries r.mine);
    })

-- ------------------------------------------------------------------ each call
module _ (a : View) (s : Session) (marks : length s.active ≡ 4) where
  begin_runs : (k : ℕ) → MayBegin a s k → (j : ℕ) → Active (set_active s k true) j → Running (changed_by a (begin_plan a s k)) j
  begin_runs k w = runs_after (begin_along w) (λ j lo n. set_other s k j true w.low lo n) (λ j o. w.ready.runs j o.active)
      (λ x. record {
        client = rw (changed_table (begin_plan a s k) a) w.high;
        state = ap (λ (r : Record). r.state) (begin_opens a s k);
        mine = ap (λ (r : Record). every (λ e. eqb ((changed_by a (begin_plan a s k)).headers e.file).holder k) r.entries) (begin_opens a s k);
      })

  write_runs : (k f p : ℕ) (d : Bytes) → MayWrite a s k f p d → (j : ℕ) → Active s j
      → Running (changed_by a (write_plan a k f p d (entry_for a k f p))) j
  write_runs k f p d w = runs_after (write_along w (entry_for a k f p) refl) (λ j lo n. refl)
      (λ j o. w.place.act.ready.runs j o.active) (λ x. own (entry_for a k f p))
    where
      r : Running a k
      r = w.place.act.running

      own : (o : Option Entry) → Running (changed_by a (write_plan a k f p d o)) k
      own (some e) = record { client = r.client; state = r.state; mine = r.mine }
      own none = record {
        client = r.client;
        state = rw (eq-eqb k k refl) r.state;
        mine = rw (eq-eqb k k refl) (every_end (λ e. eqb (a.headers e.file).holder k) (a.records k).entries
            (record { file = f; page = p; slot = chosen a k f p }) r.mine (eq-eqb _ _ w.holder));
      }

  -- The opens: no client is touched, and the marks stay.
  opened_runs : {k : ℕ} {s' : Session} {xs : List Update} → MayAct a s k → KeptAlong a s 0 a xs → s'.active ≡ s.active
      → (j : ℕ) → Active s' j → Running (changed_by a xs) j
  opened_runs w along same =
      runs_after along (λ j lo n. rw same) (λ j o. w.ready.runs j o.active) (λ x. absurd (omega (arith, x.low)))

  -- Commit and abort, whatever reading holds there are then.
  ended_runs : {k : ℕ} {b : View} {s' : Session} {xs : List Update} → MayAct a s k → KeptAlong b s k b xs → s'.active ≡ (set_active s k false).active
      → ((j : ℕ) → Others s k j → Running b j) → (j : ℕ) → Active s' j → Running (changed_by b xs) j
  ended_runs {k} w along same runs = runs_after along (λ j lo n. rw same (set_other s k j false w.active.low lo n)) runs
      (λ x. no_both _ (rw same at x.on) (set_same s k false marks w.active.low w.active.high))

  -- Opening for reading leaves the marks.
  read_marks : (k f : ℕ) → (session_after a s (open_read k f)).active ≡ s.active
  read_marks k f = if_test (λ (s' : Session). s'.active ≡ s.active) (holds_either a s k f) s (with_reading s k f) (λ e. refl) (λ e. refl)

  pub returned_runs : (c : Call) → Allowed a s c → (j : ℕ) → Active (session_after a s c) j → Running (changed_by a (plan a s c)) j
  unfolding plan
  returned_runs (begin k) w = begin_runs k w
  returned_runs (open_file k f) w = opened_runs w.either.act (open_along w.either) refl
  returned_runs (open_read k f) w = opened_runs w.act (open_read_along w) (read_marks k f)
  returned_runs (write k f p d) w = write_runs k f p d w
  returned_runs (commit k) w = ended_runs w (commit_along w) refl (λ j o.
      let h : Running a j = w.ready.runs j o.active in
      record { client = h.client; state = rw (ne_eqb j k o.other) h.state; mine = rw (ne_eqb j k o.other) h.mine })
  returned_runs (abort k) w = ended_runs w (abort_along w) refl (λ j o. w.ready.runs j o.active)

  pub returned_marks : (c : Call) → length (session_after a s c).active ≡ 4
  returned_marks (begin k) = set_marks s k true marks
  returned_marks (open_file k f) = marks
  returned_marks (open_read k f) = rw (read_marks k f) marks
  returned_marks (write k f p d) = marks
  returned_marks (commit k) = set_marks s k false marks
  returned_marks (abort k) = set_marks s k false marks

-- The words of reading holds stay four.
pub returned_words : (a : View) (s : Session) → length s.reading ≡ 4 → (c : Call) → length (session_after a s c).reading ≡ 4
returned_words a s words (begin k) = words
returned_words a s words (open_file k f) = set_words s k _ words
returned_words a s words (open_read k f) =
    if_test (λ (s' : Session). length s'.reading ≡ 4) (holds_either a s k f) s (with_reading s k f) (λ e. words) (λ e. set_words s k _ words)
returned_words a s words (write k f p d) = words
returned_words a s words (commit k) = set_words (set_active s k false) k 0 words
returned_words a s words (abort k) = set_words (set_active s k false) k 0 words
