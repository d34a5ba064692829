-- Readers are steady. Only a commit changes the model's pages, by the pending pages of its client; those are of files that it holds,
-- and nobody holds a file that is read. For the same reason a reader has no page of the file pending itself, before the step and after
-- it, so it is shown the model's page, which is the decided content. None of read's tests applies to it, so a read finds that and hands
-- it back.
use mathlib.Core.Path.{◌≡◌, refl, sym, ap, ◌∙◌}
use mathlib.Core.Bool.{Bool, true, false, ◌&&◌}
use mathlib.Core.List.{List, [], ◌∷◌, ◌++◌}
use mathlib.Core.Option.{Option, none, some, get_or}
use Prim.Native.Nat.{ℕ}
use native.Mathlib.Omega.{arith}
use borrow.Author.Tests.{eqb-true, lt-ltb}
use lib.Dec.{eqb, leb}
use lib.ListN.{length}
use Rattle.interface.specs.declared.Session.{Session}
use Rattle.interface.specs.Answers.{done, crashed, refused}
use Rattle.lists.specs.Lists.{when◌then◌else◌, first}
use Rattle.sector.specs.Contents.{Bytes, Table}
use Rattle.sector.specs.Entries.{for_page}
use Rattle.lists.proofs.ListLaws.{and_left}
use Rattle.lists.proofs.CaseLaws.{if_test}
use Rattle.lists.proofs.SearchLaws.{or_true, find_none}
use Rattle.volume.specs.Places.{file_at, IsClient, IsFile, IsPage}
use Rattle.volume.specs.Views.{View}
use Rattle.volume.specs.Volumes.{Volume, view}
use Rattle.volume.specs.Sound.{sound}
use Rattle.volume.specs.Format.{table_for, format}
use Rattle.volume.proofs.PlaceLaws.{is_client_lem, is_file_lem}
use Rattle.volume.proofs.SoundLaws.{fine, fine_sound, sound_lawful}
use Rattle.rules.specs.Sessions.{is_reading, none_active}
use Rattle.rules.specs.Plans.{Call, begin, open_file, open_read, write, commit, abort, read_page}
use Rattle.rules.specs.Refusals.{query_tests}
use Rattle.rules.specs.Content.{decided_content}
use Rattle.rules.specs.Calls.{After, call, query, query_part}
use Rattle.rules.proofs.CallLaws.{call_case, query_answered}
use Rattle.rules.proofs.AllowedLaws.{Active, Reader, Ready, MayAct, Allowed, ready, running_foreign}
use Rattle.atomicity.specs.Model.{Pending, no_pending, Model, overlaid, shown, emptied, with_page, committed, effect, settled, model_call}
use Rattle.atomicity.specs.Runs.{Step, calls, asks, Configuration, started, given, stepped, ran_over}
use Rattle.atomicity.specs.Readers.{Finds, Unchanged, StepSteady, HoldsStay, Steadily, ReadersSteady, ReadsThrough, SteadyWhile}
use Rattle.atomicity.proofs.KeepLaws.{pending_in}
use Rattle.atomicity.proofs.RelationLaws.{Matches, faithful}
use Rattle.atomicity.proofs.StepLaws.{read_pending, query_matches}
use Rattle.atomicity.proofs.StayLaws.{holds_stay}
use Rattle.atomicity.proofs.NonVacuity.{Steady, new_steady, given_steady, step_steady, format_steady}
use Rattle.atomicity.proofs.Theorem.{Related, given_matches, step_related, started_as, started_related, format_related}

-- ------------------------------------------------------------------ a file that is read
module _ {a : View} {s : Session} {k f : ℕ} (ok : Ready a s) (x : Reader s k f) where
  reader_active : Active s k
  reader_active = record { low = x.low; high = x.high; on = (ok.reads k f x).active }

  -- No active client has a page of it pending.
  none_pending : (j p : ℕ) → Active s j → pending_in a j f p ≡ none
  none_pending j p w = rw (find_none (for_page f p) (a.records j).entries
      (running_foreign (ok.runs j w) f (λ e. omega (arith, w.low, e, (ok.reads k f x).free)) (λ e. eqb e.page p)))

  -- Nor has the reader itself, in the model.
  reader_none : (m : Model) → Matches a s m → (p : ℕ) → m.pending k f p ≡ none
  reader_none m h p = ap (λ (l : Pending). l f p) (read_pending a s m h k reader_active) ∙ none_pending k p reader_active

-- Who has no page pending is shown the model's.
shown_page : (m : Model) (k f p : ℕ) → m.pending k f p ≡ none → shown m (read_page k f p) ≡ m.pages f p
shown_page m k f p e = ap (λ (o : Option Bytes). get_or o (m.pages f p)) e

-- None of the tests of its read applies.
reader_passes : {v : Volume} {s : Session} {k f p : ℕ} → Steady v s → Ready (view v) s → Reader s k f → IsClient (view v).table k
    → IsPage (view v).table f p → first (query_tests (sound v) (view v) s (read_page k f p)) ≡ 0
unfolding first query_tests
reader_passes {v} {s} {k} {f} {p} h ok x c i =
    let t : Table = (view v).table in
    rw (
      fine_sound v h.volume,
      h.session,
      is_client_lem t k c.low c.high,
      (ok.reads k f x).active,
      is_file_lem t f i.file,
      or_true (eqb ((view v).headers f).holder k) (is_reading s k f) x.on,
      lt-ltb p (file_at t f).pages i.below,
    )

-- ------------------------------------------------------------------ a call
module _ (v : Volume) (s : Session) (m : Model) (h : Matches (view v) s m) (ok : Ready (view v) s)
    (k f p : ℕ) (x : Reader s k f) where
  abbrev m' : Model
  m' = when none_active s then emptied m else m

  -- The page is as it was, and the reader has none pending.
  abbrev Kept : Model → Type 0
  Kept n = (n.pages f p ≡ m.pages f p) × (n.pending k f p ≡ none)

  start : Kept m'
  start = if_test Kept (none_active s) (emptied m) m (λ e. (refl, refl)) (λ e. (refl, reader_none ok x m h p))

  -- The pending pages of client j become these, which have none if j is the reader.
  becomes : (j : ℕ) (l : Pending) → (k ≡ j → l f p ≡ none) → (when eqb k j then l else m'.pending k) f p ≡ none
  becomes j l w = if_test (λ (y : Pending). y f p ≡ none) (eqb k j) l (m'.pending k) (λ e. w (eqb-true k j e)) (λ e. start.1)

  -- The reader writes other files.
  written : (j g q : ℕ) (d : Bytes) → Allowed (view v) s (write j g q d) → k ≡ j → with_page g q d (m'.pending j) f p ≡ none
  written j g q d w e = if_test (λ (o : Option Bytes). o ≡ none) (eqb f g && eqb p q) (some d) (m'.pending j f p)
      (λ z. let same : f ≡ g = eqb-true f g (and_left (eqb f g) (eqb p q) z) in
      absurd (omega (arith, x.low, e, rw (← same) at w.holder, (ok.reads k f x).free)))
      (λ z. rw (← e) start.1)

  -- Who commits has no page of the file pending.
  commit_stays : (j : ℕ) → MayAct (view v) s j → Kept (committed m' j)
  commit_stays j w =
      let own = ((faithful (view v) s m h).tracked j w.active.low w.active.high).active w.active.on in (
        ap (λ (l : Pending). overlaid l m'.pages f p) own
            ∙ ap (λ (o : Option Bytes). get_or o (m'.pages f p)) (none_pending ok x j p w.active) ∙ start.0,
        becomes j no_pending (λ e. refl),
      )

  refused_stays : (c : Call) (n : ℕ) → Kept (effect m' c (refused n))
  refused_stays (begin j) n = start
  refused_stays (open_file j g) n = start
  refused_stays (open_read j g) n = start
  refused_stays (write j g q d) n = start
  refused_stays (commit j) n = start
  refused_stays (abort j) n = start

  done_stays : (c : Call) (n : ℕ) → Allowed (view v) s c → Kept (effect m' c (done n))
  done_stays (begin j) n w = start
  done_stays (open_file j g) n w = start
  done_stays (open_read j g) n w = start
  done_stays (write j g q d) n w = (start.0, becomes j (with_page g q d (m'.pending j)) (written j g q d w))
  done_stays (commit j) n w = commit_stays j w
  done_stays (abort j) n w = (start.0, becomes j no_pending (λ e. refl))

  crashed_stays : (c : Call) (n : ℕ) → Allowed (view v) s c → Kept (effect m' c (crashed n))
  crashed_stays (begin j) n w = start
  crashed_stays (open_file j g) n w = start
  crashed_stays (open_read j g) n w = start
  crashed_stays (write j g q d) n w = start
  crashed_stays (commit j) n w = if_test Kept (leb 1 n) (committed m' j) m' (λ e. commit_stays j w) (λ e. start)
  crashed_stays (abort j) n w = start

  call_keeps : (c : Call) (budget : ℕ) → Kept (model_call m s c (call v s c budget).answer)
  unfolding model_call
  call_keeps c budget = call_case (λ (y : After). Kept (settled y.answer (effect m' c y.answer))) v s c budget
      (λ n e. refused_stays c n) (λ w le. done_stays c _ w.allowed) (λ w lt. ((crashed_stays c _ w.allowed).0, refl))

-- ------------------------------------------------------------------ a step
-- A configuration that is related to its model and steady, and the session that a step is given.
module _ {t : Table} {r : Configuration} (h : Related t r) (ok : Steady r.volume r.session) (crash : Bool) where
  matches : Matches (view r.volume) (given crash r.session) r.model
  matches = given_matches _ _ _ crash h.matches

  steady : Steady r.volume (given crash r.session)
  steady = given_steady crash ok

  is_ready : Ready (view r.volume) (given crash r.session)
  is_ready = ready _ _ (sound_lawful r.volume (fine_sound r.volume steady.volume)) steady.session

  reader : {k f : ℕ} → IsClient t k → IsFile t f → is_reading (given crash r.session) k f ≡ true → Reader (given crash r.session) k f
  reader c i on = record {
    low = c.low;
    high = omega (arith, c.high, rw h.table at is_ready.laws.table.four);
    first = i.low;
    last = omega (arith, i.high, rw h.table at is_ready.laws.table.files.1);
    on = on;
  }

  content : (f p : ℕ) → IsPage t f p → decided_content (view r.volume) f p ≡ r.model.pages f p
  content f p i = h.matches.pages f p (rw h.table i.file) (rw h.table i.below)

  readers_shown : (k f p : ℕ) → IsClient t k → IsPage t f p → is_reading (given crash r.session) k f ≡ true
      → let d = decided_content (view r.volume) f p in
      (shown r.model (read_page k f p) ≡ d)
      × Finds r.volume d (query r.volume (given crash r.session) (read_page k f p))
      × (query_part r.volume (given crash r.session) (read_page k f p) ≡ d)
  readers_shown k f p c i on =
      let s = given crash r.session in
      let x : Reader (given crash r.session) k f = reader c i.file on in
      let is = shown_page r.model k f p (reader_none is_ready x r.model matches p) ∙ sym (content f p i) in
      let found = query_answered r.volume s (read_page k f p) (reader_passes steady is_ready x (rw h.table c) (rw h.table i)) in
      let agrees = rw found at (query_matches r.volume s r.model matches (read_page k f p)) in
      (is, rw found (agrees.0 ∙ is), agrees.1 ∙ is)

-- ------------------------------------------------------------------ every list of steps
pub steadily : (t : Table) (r : Configuration) (steps : List Step) → Related t r → Steady r.volume r.session → Steadily t r steps
unfolding stepped
steadily t r [] h ok = tt
steadily t r (calls crash c budget ∷ xs) h ok =
    (readers_shown h ok crash, same, stay, steadily t (stepped r (calls crash c budget)) xs next fit)
  where
    s : Session
    s = given crash r.session

    next : Related t (stepped r (calls crash c budget))
    next = step_related h (calls crash c budget)

    fit : Steady (stepped r (calls crash c budget)).volume (stepped r (calls crash c budget)).session
    fit = step_steady r ok (calls crash c budget)

    same : StepSteady t r (calls crash c budget)
    same k f p client page on =
        let keeps = call_keeps r.volume s r.model (matches h ok crash) (is_ready h ok crash) k f p (reader h ok crash client page.file on) c budget in
        let before = keeps.0 ∙ sym (content h ok crash f p page) in (
          content next fit false f p page ∙ before,
          shown_page (stepped r (calls crash c budget)).model k f p keeps.1 ∙ before ∙ sym (readers_shown h ok crash k f p client page on).0,
        )

    stay : HoldsStay t r (calls crash c budget)
    stay k f client file on e = holds_stay s (steady h ok crash).words (reader h ok crash client file on) r.volume c budget e
steadily t r (asks crash q ∷ xs) h ok =
    (readers_shown h ok crash, (λ k f p client page on. (refl, refl)), tt, steadily t r xs h ok)

-- From any sound volume with the content that it has.
pub steadily_from : (v : Volume) (steps : List Step) → sound v ≡ true → Steadily (view v).table (started_as v) steps
steadily_from v steps ok = steadily (view v).table (started_as v) steps (started_related v) (new_steady (fine v ok))

-- From a formatted volume.
pub readers_steady : ReadersSteady
readers_steady v T l d steps =
    steadily (table_for (length v) T l) (started (format v T l).volume) steps (format_related v T l d) (format_steady v T l d)

-- ------------------------------------------------------------------ over several steps
through : (t : Table) (r : Configuration) (steps : List Step) → Steadily t r steps → (k f p : ℕ) → IsClient t k → IsPage t f p
    → ReadsThrough r k f steps → Unchanged r (ran_over r steps) k f p
through t r [] h k f p c i w = (refl, refl)
through t r (x ∷ xs) h k f p c i w =
    let now = h.1 k f p c i w.0 in
    let later = through t (stepped r x) xs h.3 k f p c i w.1 in
    (later.0 ∙ now.0, later.1 ∙ now.1)

-- Steadiness of a list is steadiness of its end.
steady_after : (t : Table) (r : Configuration) (before steps : List Step) → Steadily t r (before ++ steps) → Steadily t (ran_over r before) steps
steady_after t r [] steps h = h
steady_after t r (x ∷ xs) steps h = steady_after t (stepped r x) xs steps h.3

pub steady_while : SteadyWhile
steady_while v T l d before steps k f p c i w =
    through _ _ steps (steady_after _ (started (format v T l).volume) before steps (readers_steady v T l d (before ++ steps))) k f p c i w
