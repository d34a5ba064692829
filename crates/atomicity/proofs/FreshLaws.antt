-- Begin, open, write and commit of one client on a fresh view: of each call, that none of its tests holds and which updates
-- it makes; and that after them the bytes written are the page's decided content.
-- The views are written out, each as the one before with the updates of a call. A test asks for what the view shows; that
-- the session fits is supposed here.
use mathlib.Core.Path.{◌≡◌, refl, ◌∙◌}
use mathlib.Core.Bool.{true, false, not, ◌&&◌}
use mathlib.Core.List.{List, [], ◌∷◌}
use Prim.Native.Nat.{ℕ, ◌≤◌, ◌<◌}
use native.Mathlib.Omega.{arith}
use borrow.Author.Tests.{eq-eqb, ne_eqb, lt-ltb}
use lib.Dec.{eqb, ltb}
use lib.ListN.{length}
use lib.Seq.{get_or-set_same}
use Rattle.interface.specs.declared.Session.{Session}
use Rattle.interface.specs.Answers.{new_session}
use Rattle.lists.specs.Lists.{first, any, member, from}
use Rattle.sector.specs.Contents.{Bytes, Record, Header, idle_record, open_record, decided_record, appended}
use Rattle.sector.specs.Entries.{gives_slot, redone}
use Rattle.lists.proofs.ListLaws.{no_both, member_from, member_filter}
use Rattle.lists.proofs.CaseLaws.{by_test}
use Rattle.lists.proofs.SearchLaws.{member_some, from_length, from_below, filter_one}
use Rattle.volume.specs.Places.{is_client, is_file, file_at, IsClient, IsFile, IsPage}
use Rattle.volume.specs.Views.{View, Update, set_record, set_header, set_slot, changed, changed_by}
use Rattle.volume.proofs.PlaceLaws.{is_client_lem, is_file_lem}
use Rattle.rules.specs.Sessions.{is_active, set_active, is_reading, without_reading, session_fits}
use Rattle.rules.specs.Recovery.{held_files, recovery}
use Rattle.rules.specs.Plans.{begin, open_file, write, commit, free_slots, chosen, begin_plan, open_plan, plan}
use Rattle.rules.specs.Refusals.{tests}
use Rattle.rules.specs.Content.{decided_content}
use Rattle.rules.proofs.SessionLaws.{new_inactive, set_same, active_reading, new_unread, none_read, without_unread}

-- ------------------------------------------------------------------ the views
-- What a fresh view shows of client k and of page p of file f, which has a slot to spare.
pub record Fresh (a : View) (k f p : ℕ) : Type 0 where
  pub client : IsClient a.table k
  pub four : k ≤ 4
  pub idle : a.records k ≡ idle_record
  pub page : IsPage a.table f p
  pub free : (g : ℕ) → IsFile a.table g → (a.headers g).holder ≡ 0
  pub map : (a.headers f).map ≡ from 0 (file_at a.table f).pages
  pub room : (file_at a.table f).pages < (file_at a.table f).slots

-- The session while client k's transaction runs.
abbrev pub one_active : ℕ → Session
one_active k = set_active new_session k true

-- After begin.
abbrev pub begun : View → ℕ → View
begun a k = changed a (set_record k open_record)

-- After open: the file's header names the client, with the same map.
abbrev pub held_header : View → ℕ → ℕ → Header
held_header a k f = record { holder = k; map = (a.headers f).map }

abbrev pub opened : View → ℕ → ℕ → View
opened a k f = changed (begun a k) (set_header f (held_header a k f))

-- After write: slot r has the bytes, and the record has the page's entry.
abbrev pub one_entry : ℕ → ℕ → ℕ → Record
one_entry f p r = appended open_record (record { file = f; page = p; slot = r })

abbrev pub written : View → ℕ → ℕ → ℕ → Bytes → ℕ → View
written a k f p d r = changed (changed (opened a k f) (set_slot f r d)) (set_record k (one_entry f p r))

-- Commit's updates: the record decided, the header with the entry's slot in its map, the record idle.
abbrev pub ending : View → ℕ → ℕ → ℕ → ℕ → List Update
ending a k f p r =
    set_record k (decided_record (one_entry f p r))
    ∷ set_header f (record { holder = 0; map = redone f (one_entry f p r).entries (a.headers f).map })
    ∷ set_record k idle_record ∷ []

module _ {a : View} {k f p : ℕ} (h : Fresh a k f p) where
  client : is_client a.table k ≡ true
  client = is_client_lem a.table k h.client.low h.client.high

  active : is_active (one_active k) k ≡ true
  active = set_same new_session k true refl h.client.low h.four

  -- Nobody holds a file for reading.
  unread : (j : ℕ) → is_reading (one_active k) j f ≡ false
  unread j = active_reading new_session k true j f ∙ new_unread j f

  file : is_file a.table f ≡ true
  file = is_file_lem a.table f h.page.file

  below : ltb p (file_at a.table f).pages ≡ true
  below = lt-ltb p (file_at a.table f).pages h.page.below

  unheld : (a.headers f).holder ≡ 0
  unheld = h.free f h.page.file

  -- ------------------------------------------------------------------ begin
  pub begin_passed : session_fits a new_session ≡ true → first (tests true a new_session (begin k)) ≡ 0
  unfolding first tests
  begin_passed fits = rw (fits, client, new_inactive k)

  pub begin_made : plan a new_session (begin k) ≡ set_record k open_record ∷ []
  unfolding plan begin_plan
  begin_made = rw (h.idle, new_inactive k)

  -- ------------------------------------------------------------------ open
  pub open_passed : session_fits (begun a k) (one_active k) ≡ true → first (tests true (begun a k) (one_active k) (open_file k f)) ≡ 0
  unfolding first tests
  open_passed fits = rw (fits, client, active, file, unheld, none_read (one_active k) k f (λ j lo hi. unread j))

  pub open_made : plan (begun a k) (one_active k) (open_file k f) ≡ set_header f (held_header a k f) ∷ []
  unfolding plan open_plan
  open_made = rw (unheld, ne_eqb 0 k (omega arith))

  -- Open ends no reading hold.
  pub open_session : without_reading (one_active k) k f ≡ one_active k
  open_session = without_unread (one_active k) k f (unread k)

  -- ------------------------------------------------------------------ write
  abbrev pages : ℕ
  pages = (file_at a.table f).pages

  abbrev slots : ℕ
  slots = (file_at a.table f).slots

  -- The map has the slots below the number of pages, so the slot of that number is free.
  some_free : eqb (length (free_slots (opened a k f) k f)) 0 ≡ false
  unfolding free_slots
  some_free =
      let spare : (not (member pages ((opened a k f).headers f).map) && not (any (gives_slot f pages) ((opened a k f).records k).entries))
      ≡ true = rw (eq-eqb f f refl, eq-eqb k k refl, h.map, from_below pages 0 pages (omega arith)) in
      member_some pages (free_slots (opened a k f) k f) (by_test (member pages (free_slots (opened a k f) k f)) (λ e. e)
      (λ e. no_both _ spare (member_filter _ pages (from 0 slots) (member_from slots 0 pages (omega arith) (omega arith)) e)))

  pub write_passed : (d : Bytes) → length d ≡ 256 → session_fits (opened a k f) (one_active k) ≡ true
      → first (tests true (opened a k f) (one_active k) (write k f p d)) ≡ 0
  unfolding first tests
  write_passed d size fits = rw (fits, client, active, file, eq-eqb f f refl, eq-eqb k k refl, unread k, below, eq-eqb _ _ size, some_free)

  pub write_made : (d : Bytes) → let r = chosen (opened a k f) k f p in
      plan (opened a k f) (one_active k) (write k f p d) ≡ set_slot f r d ∷ set_record k (one_entry f p r) ∷ []
  unfolding plan
  write_made d = rw (eq-eqb k k refl, eq-eqb k k refl)

  -- ------------------------------------------------------------------ commit
  module _ (d : Bytes) (r : ℕ) where
    -- The client holds this one file.
    one_held : held_files (written a k f p d r) k ≡ f ∷ []
    unfolding held_files
    one_held = filter_one _ (length a.table.files) 1 f h.page.file.low (omega arith)
        (rw (eq-eqb f f refl) (eq-eqb k k refl))
        (λ g lo hi n. rw (ne_eqb g f n, h.free g (record { low = lo; high = omega arith })) (ne_eqb 0 k (omega arith)))

    pub commit_passed : session_fits (written a k f p d r) (one_active k) ≡ true
        → first (tests true (written a k f p d r) (one_active k) (commit k)) ≡ 0
    unfolding first tests
    commit_passed fits = rw (fits, client, active)

    pub commit_made : plan (written a k f p d r) (one_active k) (commit k) ≡ ending a k f p r
    unfolding plan recovery
    commit_made = rw (one_held, eq-eqb k k refl, eq-eqb f f refl)

    -- Nobody holds the file, its map has slot r at the page, and that slot has the bytes.
    pub committed_content : decided_content (changed_by (written a k f p d r) (ending a k f p r)) f p ≡ d
    unfolding redone
    committed_content =
        let at = get_or-set_same (from 0 pages) p r 0 (rw from_length h.page.below) in
        rw (eq-eqb f f refl, h.map, at, eq-eqb r r refl)
