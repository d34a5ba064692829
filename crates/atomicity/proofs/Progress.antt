-- Writes take effect: on a formatted volume a client's begin, open, write and commit are done, and what was written is then
-- the decided content.
-- The run is followed through the four calls: where its session fits the volume, as it always does, the laws of the fresh view
-- say that the call isn't refused and which updates it makes, so how many stores, and what the next view is.
use mathlib.Core.Path.{◌≡◌, refl, ap, ◌∙◌}
use mathlib.Core.Bool.{true}
use mathlib.Core.List.{List, [], ◌∷◌}
use Prim.Native.Nat.{ℕ, ◌≤◌, ◌<◌}
use native.Mathlib.Omega.{arith}
use lib.ListN.{length}
use Rattle.interface.specs.declared.Session.{Session}
use Rattle.interface.specs.Answers.{new_session, done}
use Rattle.lists.specs.Lists.{first}
use Rattle.sector.specs.Contents.{Bytes, Table, Header}
use Rattle.volume.specs.Places.{file_at, IsClient, IsPage}
use Rattle.volume.specs.Views.{View, Update, changed_by}
use Rattle.volume.specs.Volumes.{view}
use Rattle.volume.specs.Sound.{sound}
use Rattle.volume.specs.Format.{table_for, new_volume, format}
use Rattle.volume.proofs.LawfulLaws.{TableFacts}
use Rattle.volume.proofs.StoreLaws.{stores_length}
use Rattle.volume.proofs.SoundLaws.{fine_sound}
use Rattle.volume.proofs.FormatLaws.{new_table, new_record, new_header_lem, new_fine, FormatFacts, format_done_lem}
use Rattle.rules.specs.Sessions.{session_fits}
use Rattle.rules.specs.Plans.{Call, begin, open_file, write, commit, chosen, plan, session_after}
use Rattle.rules.specs.Refusals.{tests}
use Rattle.rules.specs.Content.{decided_content}
use Rattle.rules.specs.Calls.{After, call_stores, call}
use Rattle.rules.proofs.CallLaws.{passed, call_done}
use Rattle.atomicity.specs.Runs.{Configuration, started, called}
use Rattle.atomicity.specs.NonVacuity.{called_all, answers_to, writing, WritesTakeEffect}
use Rattle.atomicity.proofs.StepLaws.{left_all}
use Rattle.atomicity.proofs.NonVacuity.{Steady, new_steady, call_steady}
use Rattle.atomicity.proofs.FreshLaws.{Fresh, opened, begin_passed, begin_made, open_passed, open_made, open_session, write_passed, write_made, commit_passed, commit_made, committed_content}

-- ------------------------------------------------------------------ a call that is done
-- Where a run is: its volume and session are steady, and these are its view and its session.
pub record At (r : Configuration) (a : View) (s : Session) : Type 0 where
  pub steady : Steady r.volume r.session
  pub seen : view r.volume ≡ a
  pub session : r.session ≡ s

-- A call of which no test holds, if the session fits, makes its updates and hands back its session.
pub advance : {r : Configuration} {a : View} {s s' : Session} (c : Call) (xs : List Update) (budget : ℕ) → At r a s
    → (session_fits a s ≡ true → first (tests true a s c) ≡ 0) → plan a s c ≡ xs → session_after a s c ≡ s' → length xs ≤ budget
    → ((call r.volume r.session c budget).answer ≡ done (length xs))
    × At (called r r.session c budget) (changed_by a xs) s'
advance {r} {a} {s} c xs budget h passes made handed le =
    let none : first (tests (sound r.volume) (view r.volume) r.session c) ≡ 0
    = rw (fine_sound r.volume h.steady.volume, h.seen, h.session) (passes (rw (h.seen, h.session) at h.steady.session)) in
    let updates : plan (view r.volume) r.session c ≡ xs = rw (h.seen, h.session) made in
    let count : length (call_stores r.volume r.session c) ≡ length xs
    = stores_length (view r.volume).table (plan (view r.volume) r.session c) ∙ rw updates in
    let ends = call_done r.volume r.session c budget none (rw count le) in (
      ap (λ (x : After). x.answer) ends ∙ rw count,
      record {
        steady = call_steady h.steady c budget;
        seen = ap (λ (x : After). view x.volume) ends
            ∙ left_all r.volume r.session c (passed r.volume r.session c none) budget (rw count le) ∙ rw (updates, h.seen);
        session = ap (λ (x : After). x.session) ends ∙ rw (h.seen, h.session) handed;
      },
    )

-- ------------------------------------------------------------------ the four calls
effective : {a : View} {k f p : ℕ} (h : Fresh a k f p) (d : Bytes) → length d ≡ 256
    → (r : Configuration) (budget : ℕ) → At r a new_session → 3 ≤ budget
    → (answers_to r budget (writing k f p d) ≡ done 1 ∷ done 1 ∷ done 2 ∷ done 3 ∷ [])
    × (decided_content (view (called_all r budget (writing k f p d)).volume) f p ≡ d)
effective {a} {k} {f} {p} h d size r budget start le =
    let slot = chosen (opened a k f) k f p in
    let b = advance (begin k) _ budget start (begin_passed h) (begin_made h) refl (omega arith) in
    let o = advance (open_file k f) _ budget b.1 (open_passed h) (open_made h) (open_session h) (omega arith) in
    let w = advance (write k f p d) _ budget o.1 (write_passed h d size) (write_made h d) refl (omega arith) in
    let c = advance (commit k) _ budget w.1 (commit_passed h d slot) (commit_made h d slot) refl le in
    (rw (b.0, o.0, w.0, c.0), rw c.1.seen (committed_content h d slot))

-- ------------------------------------------------------------------ on a formatted volume
new_fresh : (t : Table) → TableFacts t → (k f p : ℕ) → IsClient t k → IsPage t f p → (file_at t f).pages < (file_at t f).slots
    → Fresh (view (new_volume t)) k f p
new_fresh t facts k f p client page room = record {
  client = rw (new_table t facts) client;
  four = omega (arith, facts.four);
  idle = new_record t facts k client.low client.high;
  page = rw (new_table t facts) page;
  free = λ g i. ap (λ (x : Header). x.holder) (new_header_lem t facts g (rw (new_table t facts) at i));
  map = rw (new_table t facts) (ap (λ (x : Header). x.map) (new_header_lem t facts f page.file));
  room = rw (new_table t facts) room;
}

pub writes_take_effect : WritesTakeEffect
writes_take_effect v T l e k f p d budget client page room size le =
    let t : Table = table_for (length v) T l in
    let x : FormatFacts t (format v T l).volume = format_done_lem v T l e in
    effective (new_fresh t x.facts k f p client page room) d size (started (format v T l).volume) budget
    (rw x.volume (record { steady = new_steady (new_fine t x.facts); seen = refl; session = refl })) le
