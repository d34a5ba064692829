-- Two clients read one file: on a formatted volume both begin and open it for reading, the opens without a store, and both hold it
-- then. The run is followed through the four calls, as in `Progress`.
use mathlib.Core.Path.{◌≡◌, refl, sym, ap, ◌∙◌}
use mathlib.Core.Bool.{true, false}
use mathlib.Core.List.{[], ◌∷◌}
use mathlib.Core.Logic.{◌≢◌}
use Prim.Native.Nat.{ℕ, ◌≤◌}
use native.Mathlib.Omega.{arith}
use borrow.Author.Tests.{ne_eqb}
use lib.ListN.{length}
use Rattle.interface.specs.declared.Session.{Session}
use Rattle.interface.specs.Answers.{new_session, done}
use Rattle.lists.specs.Lists.{first}
use Rattle.sector.specs.Contents.{Table, Header, idle_record, open_record}
use Rattle.volume.specs.Places.{is_client, IsClient, IsFile}
use Rattle.volume.specs.Views.{View, set_record, changed}
use Rattle.volume.specs.Volumes.{view}
use Rattle.volume.specs.Format.{table_for, new_volume, format}
use Rattle.volume.proofs.PlaceLaws.{is_client_lem, is_file_lem}
use Rattle.volume.proofs.FormatLaws.{new_table, new_record, new_header_lem, new_fine, FormatFacts, format_done_lem}
use Rattle.rules.specs.Sessions.{is_active, set_active, is_reading, with_reading, session_fits}
use Rattle.rules.specs.Plans.{begin, open_read, begin_plan, open_read_plan, plan, session_after}
use Rattle.rules.specs.Refusals.{tests}
use Rattle.rules.proofs.SessionLaws.{new_inactive, set_same, set_other, set_marks, new_unread, active_reading, reading_other, set_words, with_reading_lem}
use Rattle.atomicity.specs.Runs.{Configuration, started}
use Rattle.atomicity.specs.NonVacuity.{called_all, answers_to}
use Rattle.atomicity.specs.Readers.{sharing, ReadersShare}
use Rattle.atomicity.proofs.NonVacuity.{new_steady}
use Rattle.atomicity.proofs.Progress.{At, advance}

-- ------------------------------------------------------------------ each call
module _ (a : View) (s : Session) (k f : ℕ) (client : IsClient a.table k) where
  known : is_client a.table k ≡ true
  known = is_client_lem a.table k client.low client.high

  begin_passes : is_active s k ≡ false → session_fits a s ≡ true → first (tests true a s (begin k)) ≡ 0
  unfolding first tests
  begin_passes off fits = rw (fits, known, off)

  begin_makes : is_active s k ≡ false → a.records k ≡ idle_record → plan a s (begin k) ≡ set_record k open_record ∷ []
  unfolding plan begin_plan
  begin_makes off idle = rw (idle, off)

  module _ (file : IsFile a.table f) (free : (a.headers f).holder ≡ 0) where
    read_passes : is_active s k ≡ true → session_fits a s ≡ true → first (tests true a s (open_read k f)) ≡ 0
    unfolding first tests
    read_passes on fits = rw (fits, known, on, is_file_lem a.table f file, free)

    read_makes : is_reading s k f ≡ false → plan a s (open_read k f) ≡ []
    unfolding plan open_read_plan
    read_makes off = rw (free, ne_eqb 0 k (omega (arith, client.low)), off)

    read_notes : is_reading s k f ≡ false → session_after a s (open_read k f) ≡ with_reading s k f
    read_notes off = rw (free, ne_eqb 0 k (omega (arith, client.low)), off)

-- ------------------------------------------------------------------ the four calls
module _ (a : View) (j k f : ℕ) (cj : IsClient a.table j) (ck : IsClient a.table k) (ne : j ≢ k) (four : a.table.clients ≤ 4)
    (idle : (i : ℕ) → IsClient a.table i → a.records i ≡ idle_record) (file : IsFile a.table f) (free : (a.headers f).holder ≡ 0) where
  abbrev one : Session
  one = set_active new_session j true

  abbrev two : Session
  two = set_active one k true

  abbrev three : Session
  three = with_reading two j f

  abbrev begun : View
  begun = changed (changed a (set_record j open_record)) (set_record k open_record)

  other : k ≢ j
  other e = ne (sym e)

  k_off : is_active one k ≡ false
  k_off = set_other new_session j k true cj.low ck.low other ∙ new_inactive k

  j_on : is_active two j ≡ true
  j_on = set_other one k j true ck.low cj.low ne ∙ set_same new_session j true refl cj.low (omega (arith, cj.high, four))

  k_on : is_active two k ≡ true
  k_on = set_same one k true (set_marks new_session j true refl) ck.low (omega (arith, ck.high, four))

  unread : (i : ℕ) → is_reading two i f ≡ false
  unread i = active_reading one k true i f ∙ active_reading new_session j true i f ∙ new_unread i f

  k_unread : is_reading three k f ≡ false
  k_unread = reading_other two j cj.low _ k f ck.low other ∙ unread k

  k_idle : (changed a (set_record j open_record)).records k ≡ idle_record
  k_idle = rw (ne_eqb k j other) (idle k ck)

  shares : (r : Configuration) (budget : ℕ) → At r a new_session → 1 ≤ budget
      → (answers_to r budget (sharing j k f) ≡ done 1 ∷ done 1 ∷ done 0 ∷ done 0 ∷ [])
      × (is_reading (called_all r budget (sharing j k f)).session j f ≡ true)
      × (is_reading (called_all r budget (sharing j k f)).session k f ≡ true)
  shares r budget start le =
      let b = advance (begin j) _ budget start (begin_passes a new_session j f cj (new_inactive j))
      (begin_makes a new_session j f cj (new_inactive j) (idle j cj)) refl le in
      let c = advance (begin k) _ budget b.1 (begin_passes _ one k f ck k_off) (begin_makes _ one k f ck k_off k_idle) refl le in
      let d = advance (open_read j f) _ budget c.1 (read_passes begun two j f cj file free j_on)
      (read_makes begun two j f cj file free (unread j)) (read_notes begun two j f cj file free (unread j)) (omega arith) in
      let e = advance (open_read k f) _ budget d.1 (read_passes begun three k f ck file free k_on)
      (read_makes begun three k f ck file free k_unread) (read_notes begun three k f ck file free k_unread) (omega arith) in (
        rw (b.0, c.0, d.0, e.0),
        rw e.1.session (reading_other three k ck.low _ j f cj.low ne
            ∙ with_reading_lem two j cj.low refl (omega (arith, cj.high, four)) f),
        rw e.1.session (with_reading_lem three k ck.low (set_words two j _ refl) (omega (arith, ck.high, four)) f),
      )

-- ------------------------------------------------------------------ on a formatted volume
pub readers_share : ReadersShare
readers_share v T l e j k f budget cj ck ne file le =
    let t : Table = table_for (length v) T l in
    let x : FormatFacts t (format v T l).volume = format_done_lem v T l e in
    let same : (view (new_volume t)).table ≡ t = new_table t x.facts in
    shares (view (new_volume t)) j k f (rw same cj) (rw same ck) ne (rw same x.facts.four)
    (λ i c. let d : IsClient t i = rw same at c in new_record t x.facts i d.low d.high)
    (rw same file) (ap (λ (h : Header). h.holder) (new_header_lem t x.facts f file))
    (started (format v T l).volume) budget
    (rw x.volume (record { steady = new_steady (new_fine t x.facts); seen = refl; session = refl })) le
