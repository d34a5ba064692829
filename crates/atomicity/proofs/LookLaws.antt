-- Looks. A look finds what a client finds that opens the file and reads: the opens keep the decided content, and leave the file to the
-- client with its decided map for its map; the client's record is as it was, and has no entry for a file that it didn't hold. Of the
-- tests of that read only the last may apply, as of the look's.
-- After any list of steps a look finds the model's page: the volume is sound, so none of its tests applies, and it agrees with the model
-- as every question does. Steps that make no store leave the volume, so what the first of them would be shown all of them are.
use mathlib.Core.Path.{◌≡◌, refl, sym, ap, ◌∙◌}
use mathlib.Core.Bool.{true, false}
use mathlib.Core.List.{List, [], ◌∷◌, ◌++◌}
use mathlib.Core.Logic.{◌≢◌}
use mathlib.Core.Option.{none}
use Prim.Native.Nat.{ℕ, zero, suc, ◌≤◌}
use native.Mathlib.Omega.{arith}
use borrow.Author.Tests.{eqb-false, eq-eqb, lt-ltb}
use lib.Dec.{eqb}
use lib.ListN.{length, get_or}
use Rattle.interface.specs.declared.Session.{Session}
use Rattle.interface.specs.Answers.{new_session, QueryAnswer, found, query_refused}
use Rattle.lists.specs.Lists.{first}
use Rattle.sector.specs.Contents.{Bytes, Table}
use Rattle.sector.specs.Entries.{for_page}
use Rattle.sector.specs.Sectors.{sector}
use Rattle.lists.proofs.ListLaws.{or_none}
use Rattle.lists.proofs.CaseLaws.{if_test, if_equal}
use Rattle.lists.proofs.SearchLaws.{or_true, find_none}
use Rattle.volume.specs.Places.{file_at, IsPage, slot_place, sector_of}
use Rattle.volume.specs.Views.{View, Update, set_header, changed_by}
use Rattle.volume.specs.Volumes.{Volume, view}
use Rattle.volume.specs.Sound.{sound}
use Rattle.volume.specs.Stores.{Store, cut_at}
use Rattle.volume.specs.Format.{format}
use Rattle.volume.proofs.PlaceLaws.{is_client_lem, is_file_lem}
use Rattle.volume.proofs.AccessLaws.{slot_is}
use Rattle.volume.proofs.StoreLaws.{cut_none}
use Rattle.volume.proofs.AlongLaws.{along_end, changed_append, changed_table}
use Rattle.volume.proofs.SoundLaws.{Fine, fine, fine_sound}
use Rattle.rules.specs.Sessions.{is_active, is_reading, holds, holds_either}
use Rattle.rules.specs.Recovery.{is_decided, recovery}
use Rattle.rules.specs.Plans.{Call, open_file, open_read, read_page, look_page, entry_for, slot_for, held_by_orphan, open_plan, open_read_plan, plan, session_after}
use Rattle.rules.specs.Content.{decided_map, decided_slot}
use Rattle.rules.specs.Refusals.{query_tests}
use Rattle.rules.specs.Calls.{After, call_stores, query_by, query, query_part, part_of, look, look_part}
use Rattle.rules.proofs.SessionLaws.{with_reading_lem}
use Rattle.rules.proofs.CallLaws.{Passed, call_case, query_answered, query_case}
use Rattle.rules.proofs.AllowedLaws.{MayAct, MayOpenRead, running_undecided, running_foreign}
use Rattle.rules.proofs.ContentLaws.{unheld_map, held_map, decided_below}
use Rattle.rules.proofs.FreeLaws.{open_read_frees}
use Rattle.atomicity.specs.Model.{Model}
use Rattle.atomicity.specs.Runs.{Step, calls, asks, Configuration, started, given, stepped, ran_over}
use Rattle.atomicity.specs.AllOrNone.{QueryAgrees}
use Rattle.atomicity.specs.Readers.{Finds}
use Rattle.atomicity.specs.Looks.{FindsTheSame, WhereDone, LooksAsOpened, LooksDecided, LooksFind, stores_counted, stores_in, WithoutStore, LookShows, StepShows, AllShow, LooksTogether}
use Rattle.atomicity.proofs.KeepLaws.{Keeps}
use Rattle.atomicity.proofs.PlanLaws.{open_along, open_read_along}
use Rattle.atomicity.proofs.StepLaws.{left_all, query_matches}
use Rattle.atomicity.proofs.Theorem.{Related, given_matches, ran_related, started_as, started_related, format_related}
use Rattle.atomicity.proofs.NonVacuity.{Steady, new_steady, done_steady, ran_steady, format_steady}

-- ------------------------------------------------------------------ a file that is opened
-- What an open of file f by client k, which didn't hold it, makes of volume v and session s: all active clients have what they had, k
-- holds the file, and the file has its decided map for its map.
record Opened (v : Volume) (s : Session) (k f : ℕ) (w : Volume) (s' : Session) : Type 0 where
  may : MayOpenRead (view v) s k f
  away : ((view v).headers f).holder ≢ k
  before : Fine v
  after : Steady w s'
  table : (view w).table ≡ (view v).table
  kept : Keeps (view v) s 0 (view w)
  active : is_active s' k ≡ true
  hold : holds_either (view w) s' k f ≡ true
  map : decided_map (view w) f ≡ ((view w).headers f).map

-- Its record is one of those.
own_kept : {a b : View} {s : Session} {k : ℕ} → MayAct a s k → Keeps a s 0 b → b.records k ≡ a.records k
own_kept {k = k} w kept = (kept.others k (record { active = w.active; other = omega (arith, w.active.low) })).same

module _ {v w : Volume} {s s' : Session} {k f : ℕ} (x : Opened v s k f w s') (p : ℕ) where
  -- Client k has no entry for the page, so it reads by the map.
  same_slot : slot_for (view w) f p (entry_for (view w) k f p) ≡ decided_slot (view v) f p
  same_slot =
      let none_for : entry_for (view w) k f p ≡ none = rw (own_kept x.may.act x.kept) (find_none (for_page f p) ((view v).records k).entries
      (running_foreign x.may.act.running f x.away (λ e. eqb e.page p))) in
      rw none_for (ap (λ (m : List ℕ). get_or m p 0) (sym x.map ∙ x.kept.maps f x.may.file))

  -- Both are refused by 9, or neither is.
  same_tests : first (query_tests (sound w) (view w) s' (read_page k f p)) ≡ first (query_tests (sound v) (view v) new_session (look_page f p))
  unfolding first query_tests
  same_tests = rw (
    fine_sound w x.after.volume,
    fine_sound v x.before,
    x.after.session,
    x.table,
    is_client_lem (view v).table k x.may.act.active.low x.may.act.running.client,
    x.active,
    is_file_lem (view v).table f x.may.file,
    x.hold,
  )

  same_by : (n : ℕ) → query_by n (view w) (read_page k f p) ≡ query_by n (view v) (look_page f p)
  same_by zero = rw (same_slot, x.table)
  same_by (suc n) = refl

  same_answer_lem : query w s' (read_page k f p) ≡ look v f p
  unfolding query
  same_answer_lem = rw same_tests (same_by (first (query_tests (sound v) (view v) new_session (look_page f p))))

  -- The sector that a look answers has the same bytes after the open.
  same_bytes : part_of w (look v f p) ≡ look_part v f p
  same_bytes = query_case (λ (y : QueryAnswer). part_of w y ≡ part_of v y) v new_session (look_page f p) (λ n e. refl)
      (λ ok here e.
      let below = decided_below here.laws f p here.file here.page in
      let there : (view w).slots f (decided_slot (view v) f p) ≡ sector w (sector_of (view w).table (slot_place f (decided_slot (view v) f p)))
      = slot_is w f _ (rw x.table here.file) (rw x.table below) in
      sym (rw x.table at there) ∙ x.kept.bytes f p here.file here.page ∙ slot_is v f _ here.file below)

  same_found : (query w s' (read_page k f p) ≡ look v f p) × (query_part w s' (read_page k f p) ≡ look_part v f p)
  same_found = (same_answer_lem, ap (part_of w) same_answer_lem ∙ same_bytes)

-- ------------------------------------------------------------------ each open
-- Opened for writing, the file is held by the client.
opened_holder : (a : View) (s : Session) (k f : ℕ) → ((changed_by a (open_plan a s k f)).headers f).holder ≡ k
unfolding open_plan
opened_holder a s k f =
    let h = (a.headers f).holder in
    if_equal Held h k [] _ (λ e. e)
    (λ n. if_test Held (held_by_orphan a s f) _ _ (λ e. last (recovery (is_decided a h) a h) _) (λ e. last [] (a.headers f).map))
  where
    Held : List Update → Type 0
    Held xs = ((changed_by a xs).headers f).holder ≡ k

    last : (xs : List Update) (m : List ℕ) → Held (xs ++ (set_header f (record { holder = k; map = m }) ∷ []))
    last xs m = rw (changed_append xs (set_header f (record { holder = k; map = m }) ∷ []) a, eq-eqb f f refl)

module _ (v : Volume) (s : Session) (k f : ℕ) (marks : length s.active ≡ 4) (words : length s.reading ≡ 4)
    (free : holds_either (view v) s k f ≡ false) (budget : ℕ) where
  abbrev left : Call → Volume
  left c = cut_at v (call_stores v s c) budget

  away : ((view v).headers f).holder ≢ k
  away = eqb-false _ _ (or_none (holds (view v) k f) (is_reading s k f) free).0

  opened : Passed v s (open_file k f) → length (call_stores v s (open_file k f)) ≤ budget
      → Opened v s k f (left (open_file k f)) (session_after (view v) s (open_file k f))
  unfolding plan
  opened ok le = record {
    may = ok.allowed.either;
    away = away;
    before = ok.fine;
    after = done_steady ok marks words budget le;
    table = rw seen (changed_table (open_plan (view v) s k f) (view v));
    kept = kept;
    active = ok.allowed.either.act.active.on;
    hold = rw (eq-eqb _ k holder);
    map = held_map (view (left (open_file k f))) f k holder
        (rw (own_kept ok.allowed.either.act kept) (running_undecided ok.allowed.either.act.running));
  }
    where
      seen : view (left (open_file k f)) ≡ changed_by (view v) (open_plan (view v) s k f)
      seen = left_all v s (open_file k f) ok budget le

      kept : Keeps (view v) s 0 (view (left (open_file k f)))
      kept = rw seen (along_end (open_along ok.allowed.either))

      holder : ((view (left (open_file k f))).headers f).holder ≡ k
      holder = rw seen (opened_holder (view v) s k f)

  opened_read : Passed v s (open_read k f) → length (call_stores v s (open_read k f)) ≤ budget
      → Opened v s k f (left (open_read k f)) (session_after (view v) s (open_read k f))
  unfolding plan
  opened_read ok le = record {
    may = ok.allowed;
    away = away;
    before = ok.fine;
    after = done_steady ok marks words budget le;
    table = rw seen (changed_table (open_read_plan (view v) s k f) (view v));
    kept = rw seen (along_end (open_read_along ok.allowed));
    active = rw free ok.allowed.act.active.on;
    hold = or_true (holds (view (left (open_read k f))) k f) _
        (rw free (with_reading_lem s k ok.allowed.act.active.low words ok.allowed.act.active.high f));
    map = unheld_map (view (left (open_read k f))) f (rw seen (open_read_frees ok.allowed free));
  }
    where
      seen : view (left (open_read k f)) ≡ changed_by (view v) (open_read_plan (view v) s k f)
      seen = left_all v s (open_read k f) ok budget le

pub looks_as_opened : LooksAsOpened
looks_as_opened v s k f p budget marks words free = (
  call_case (λ (x : After). WhereDone x.answer (FindsTheSame v x k f p)) v s (open_file k f) budget
      (λ n e. tt) (λ ok le. same_found (opened v s k f marks words free budget ok le) p) (λ ok lt. tt),
  call_case (λ (x : After). WhereDone x.answer (FindsTheSame v x k f p)) v s (open_read k f) budget
      (λ n e. tt) (λ ok le. same_found (opened_read v s k f marks words free budget ok le) p) (λ ok lt. tt),
)

-- ------------------------------------------------------------------ in the lists
module _ {t : Table} {r : Configuration} (h : Related t r) where
  look_agrees : (f p : ℕ) → QueryAgrees r.volume new_session r.model (look_page f p) (look r.volume f p)
  look_agrees f p = query_matches r.volume new_session r.model (given_matches _ _ _ true h.matches) (look_page f p)

  -- None of its tests applies.
  look_passes : {f p : ℕ} → Fine r.volume → IsPage t f p → first (query_tests (sound r.volume) (view r.volume) new_session (look_page f p)) ≡ 0
  unfolding first query_tests
  look_passes {f} {p} ok i = rw (fine_sound r.volume ok, h.table, is_file_lem t f i.file, lt-ltb p (file_at t f).pages i.below)

  look_finds : {f p : ℕ} → Fine r.volume → IsPage t f p
      → Finds r.volume (r.model.pages f p) (look r.volume f p) × (look_part r.volume f p ≡ r.model.pages f p)
  look_finds {f} {p} ok i =
      let answer = query_answered r.volume new_session (look_page f p) (look_passes ok i) in
      let agrees = rw answer at (look_agrees f p) in
      (rw answer agrees.0, agrees.1)

-- From any sound volume with the content that it has.
pub looks_find_from : (v : Volume) (steps : List Step) → sound v ≡ true → (f p : ℕ) → IsPage (view v).table f p
    → let r = ran_over (started_as v) steps in
    Finds r.volume (r.model.pages f p) (look r.volume f p) × (look_part r.volume f p ≡ r.model.pages f p)
looks_find_from v steps ok f p i =
    look_finds (ran_related (started_related v) steps) (ran_steady (started_as v) (new_steady (fine v ok)) steps).volume i

-- At once.
pub looks_decided : LooksDecided
looks_decided v f p ok i = looks_find_from v [] ok f p i

-- From a formatted volume.
pub looks_find : LooksFind
looks_find v T l d steps f p i =
    look_finds (ran_related (format_related v T l d) steps) (ran_steady (started (format v T l).volume) (format_steady v T l d) steps).volume i

-- ------------------------------------------------------------------ together
-- No store leaves the volume.
cut_empty : (v : Volume) (xs : List Store) (n : ℕ) → length xs ≡ 0 → cut_at v xs n ≡ v
unfolding cut_at
cut_empty v [] n e = refl
cut_empty v (x ∷ xs) n e = absurd (omega (arith, e))

without_store : (r : Configuration) (x : Step) → stores_in r x ≡ 0 → (stepped r x).volume ≡ r.volume
unfolding stepped
without_store r (calls crash c budget) = call_case (λ (x : After). stores_counted x.answer ≡ 0 → x.volume ≡ r.volume)
    r.volume (given crash r.session) c budget
    (λ n e z. refl) (λ ok le z. cut_empty r.volume _ budget z) (λ ok lt z. rw z (cut_none r.volume _))
without_store r (asks crash q) = λ e. refl

-- Where every look on this volume shows the content, every step without a store that starts from it does.
module _ (content : ℕ → ℕ → Bytes) (v : Volume) (h : (f p : ℕ) → LookShows (content f p) v (look_part v f p) (look v f p)) where
  step_shows : (r : Configuration) (x : Step) → r.volume ≡ v → StepShows content r x
  step_shows r (calls crash c budget) e = tt
  step_shows r (asks crash (read_page k f p)) e = tt
  step_shows r (asks crash (look_page f p)) e = rw e (h f p)

  all_show : (r : Configuration) (steps : List Step) → r.volume ≡ v → WithoutStore r steps → AllShow content r steps
  all_show r [] e w = tt
  all_show r (x ∷ xs) e w = (step_shows r x e, all_show (stepped r x) xs (without_store r x w.0 ∙ e) w.1)

-- A look that agrees with the model shows its page.
agreed_shows : (v : Volume) (m : Model) (f p : ℕ) (x : QueryAnswer) → QueryAgrees v new_session m (look_page f p) x
    → LookShows (m.pages f p) v (look_part v f p) x
agreed_shows v m f p (found n) h = h
agreed_shows v m f p (query_refused n) h = tt

pub related_together : {t : Table} {r : Configuration} → Related t r → (steps : List Step) → WithoutStore r steps → AllShow r.model.pages r steps
related_together {r = r} h steps =
    all_show r.model.pages r.volume (λ f p. agreed_shows r.volume r.model f p (look r.volume f p) (look_agrees h f p)) r steps refl

-- From any volume with the content that it has, and from a formatted one.
pub looks_together_from : (v : Volume) (before steps : List Step) → let r = ran_over (started_as v) before in
    WithoutStore r steps → AllShow r.model.pages r steps
looks_together_from v before steps = related_together (ran_related (started_related v) before) steps

pub looks_together : LooksTogether
looks_together v T l d before steps = related_together (ran_related (format_related v T l d) before) steps
