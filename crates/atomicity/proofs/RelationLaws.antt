-- The relation between volume and session on one side and the model on the other, and that every call keeps it, however it
-- ends. The decided content is the model's pages, and each active client's pending pages are those of its record; if any
-- client is active, the others have none pending. Soundness isn't part of it: a call that isn't refused has tested it.
use mathlib.Core.Path.{◌≡◌, refl, sym, ap, ◌∙◌}
use mathlib.Core.Bool.{true, false, true≢false}
use mathlib.Core.List.{List}
use mathlib.Core.Logic.{◌≢◌}
use mathlib.Core.Option.{Option, none, some}
use Prim.Native.Nat.{ℕ, zero, suc, ◌≤◌, ◌<◌}
use native.Mathlib.Omega.{arith}
use borrow.Author.Tests.{eq-eqb, ne_eqb, le-leb}
use lib.Dec.{eqb}
use lib.ListN.{length, take}
use Rattle.interface.specs.declared.Session.{Session}
use Rattle.interface.specs.Answers.{new_session, done, crashed}
use Rattle.lists.specs.Lists.{when◌then◌else◌}
use Rattle.sector.specs.Contents.{Bytes, Entry, Record}
use Rattle.lists.proofs.ListLaws.{no_both}
use Rattle.lists.proofs.CaseLaws.{by_equal, if_test}
use Rattle.volume.specs.Places.{file_at}
use Rattle.volume.specs.Views.{View, Update, changed_by}
use Rattle.volume.proofs.PlaceLaws.{IsFile}
use Rattle.volume.proofs.AlongLaws.{along_take, along_end, changed_table}
use Rattle.rules.specs.Sessions.{is_active, set_active, with_reading, without_reader, holds_either, none_active}
use Rattle.rules.specs.Plans.{Call, begin, open_file, open_read, write, commit, abort, entry_for, chosen, begin_plan, write_plan, plan, session_after}
use Rattle.rules.specs.Content.{decided_content}
use Rattle.rules.proofs.SessionLaws.{none_active_lem, set_same, set_other, set_marks}
use Rattle.rules.proofs.AllowedLaws.{Active, Others, MayBegin, MayAct, MayWrite, Allowed, own_record}
use Rattle.rules.proofs.RecoveryLaws.{decided_view}
use Rattle.atomicity.specs.Model.{no_pending, Model, emptied, with_pending, with_page, committed, is_deciding, effect}
use Rattle.atomicity.proofs.KeepLaws.{pending_by, pending_in, Keeps, kept_content}
use Rattle.atomicity.proofs.PlanLaws.{KeptAlong, abort_along, begin_along, begin_opens, open_along, open_read_along}
use Rattle.atomicity.proofs.WriteLaws.{new_free, write_along, commit_along}
use Rattle.atomicity.proofs.PendingLaws.{page_again, page_first, commit_content}

-- ------------------------------------------------------------------ the relation
-- The decided content of every page is the model's.
abbrev pub PagesMatch : View → Model → Type 0
PagesMatch a m = (f p : ℕ) → IsFile a.table f → p < (file_at a.table f).pages → decided_content a f p ≡ m.pages f p

-- An active client's pending pages are those of its record, and another has none.
pub record Tracked (a : View) (s : Session) (m : Model) (k : ℕ) : Type 0 where
  pub active : is_active s k ≡ true → m.pending k ≡ pending_in a k
  pub idle : is_active s k ≡ false → m.pending k ≡ no_pending

-- Between two calls. If no client is active, what is pending in the model no longer counts.
pub record Matches (a : View) (s : Session) (m : Model) : Type 0 where
  pub pages : PagesMatch a m
  pub tracked : none_active s ≡ false → (k : ℕ) → 1 ≤ k → k ≤ 4 → Tracked a s m k
  pub marks : length s.active ≡ 4

-- In a call, after the model has emptied what no longer counts.
pub record Faithful (a : View) (s : Session) (m : Model) : Type 0 where
  pub pages : PagesMatch a m
  pub tracked : (k : ℕ) → 1 ≤ k → k ≤ 4 → Tracked a s m k
  pub marks : length s.active ≡ 4

pub faithful : (a : View) (s : Session) (m : Model) → Matches a s m → Faithful a s (when none_active s then emptied m else m)
faithful a s m h = if_test (Faithful a s) (none_active s) (emptied m) m
    (λ e. record {
      pages = h.pages;
      tracked = λ k lo hi. record { active = λ on. no_both _ on (none_active_lem s k e); idle = λ off. refl };
      marks = h.marks;
    })
    (λ e. record { pages = h.pages; tracked = h.tracked e; marks = h.marks })

pub faithful_matches : (a : View) (s : Session) (m : Model) → Faithful a s m → Matches a s m
faithful_matches a s m h = record { pages = h.pages; tracked = λ e. h.tracked; marks = h.marks }

-- With a new session only the pages count.
pub new_matches : (a : View) (m : Model) → PagesMatch a m → Matches a new_session m
new_matches a m h = record { pages = h; tracked = λ e. absurd (true≢false e); marks = refl }

-- ------------------------------------------------------------------ updates that keep what must not be touched
module _ {a₀ : View} {s : Session} {k : ℕ} (m : Model) (pages : PagesMatch a₀ m) where
  pages_kept : (a : View) → a.table ≡ a₀.table → Keeps a₀ s k a → PagesMatch a m
  pages_kept a e kept f p i lt =
      let file : IsFile a₀.table f = rw e at i in
      let page : p < (file_at a₀.table f).pages = rw e at lt in
      kept_content kept f p file page ∙ pages f p file page

  prefix_pages : {xs : List Update} → KeptAlong a₀ s k a₀ xs → (n : ℕ) → PagesMatch (changed_by a₀ (take n xs)) m
  prefix_pages {xs} along n = pages_kept _ (changed_table (take n xs) a₀) (along_take n along)

  end_pages : {xs : List Update} → KeptAlong a₀ s k a₀ xs → PagesMatch (changed_by a₀ xs) m
  end_pages {xs} along = pages_kept _ (changed_table xs a₀) (along_end along)

-- What a call of client k that is done leaves: the mark and the pending pages of k may be others, those of the others stay.
own_matches : {k : ℕ} {a b : View} {s s' : Session} {m m' : Model} → Faithful a s m
    → ((j : ℕ) → Others s k j → pending_in b j ≡ pending_in a j)
    → ((j : ℕ) → 1 ≤ j → j ≢ k → is_active s' j ≡ is_active s j)
    → ((j : ℕ) → j ≢ k → m'.pending j ≡ m.pending j)
    → (1 ≤ k → k ≤ 4 → Tracked b s' m' k) → PagesMatch b m' → length s'.active ≡ 4 → Matches b s' m'
own_matches {k} {b = b} {s} {s'} {m' = m'} h others marks pending own pages four =
    let tracked : (j : ℕ) → 1 ≤ j → j ≤ 4 → Tracked b s' m' j = λ j lo hi. by_equal j k
    (λ e. rw e (own (rw e at lo) (rw e at hi)))
    (λ n. record {
      active = λ on.
          let w : Active s j = record { low = lo; high = hi; on = sym (marks j lo n) ∙ on } in
          pending j n ∙ (h.tracked j lo hi).active w.on ∙ sym (others j (record { active = w; other = n }));
      idle = λ off. pending j n ∙ (h.tracked j lo hi).idle (sym (marks j lo n) ∙ off);
    }) in
    record { pages = pages; tracked = λ e. tracked; marks = four }

-- ------------------------------------------------------------------ each call
-- Crashed after n stores: what is pending no longer counts, so only the pages are asked for. Done: whatever the count.
pub record Outcome (a : View) (s : Session) (m : Model) (c : Call) : Type 0 where
  pub crashes : (n : ℕ) → PagesMatch (changed_by a (take n (plan a s c))) (effect m c (crashed n))
  pub ends : (n : ℕ) → Matches (changed_by a (plan a s c)) (session_after a s c) (effect m c (done n))

module _ (a : View) (s : Session) (m : Model) (h : Faithful a s m) where
  -- Those of the others stay, if the updates leave the others alone.
  kept_pending : {k : ℕ} {b : View} {xs : List Update} → KeptAlong b s k b xs → (j : ℕ) → Others s k j → pending_in (changed_by b xs) j ≡ pending_in b j
  kept_pending along j o = ((along_end along).others j o).pending

  begin_outcome : (k : ℕ) → MayBegin a s k → Outcome a s m (begin k)
  unfolding plan
  begin_outcome k w = record {
    crashes = prefix_pages m h.pages (begin_along w);
    ends = λ n. own_matches h (kept_pending (begin_along w)) (λ j lo n. set_other s k j true w.low lo n) (λ j n. refl)
        (λ lo hi. record {
          active = λ on. (h.tracked k lo hi).idle w.off ∙ sym none_given;
          idle = λ off. no_both _ (set_same s k true h.marks lo hi) off;
        })
        (end_pages m h.pages (begin_along w)) (set_marks s k true h.marks);
  }
    where
      none_given : pending_in (changed_by a (begin_plan a s k)) k ≡ no_pending
      none_given = ap (λ (r : Record). pending_by (changed_by a (begin_plan a s k)).slots r.entries) (begin_opens a s k)

  write_outcome : (k f p : ℕ) (d : Bytes) → MayWrite a s k f p d → Outcome a s m (write k f p d)
  unfolding plan
  write_outcome k f p d w = record {
    crashes = prefix_pages m h.pages along;
    ends = λ n. own_matches h (kept_pending along) (λ j lo n. refl) (λ j n. rw (ne_eqb j k n))
        (λ lo hi. record {
          active = λ on. rw (eq-eqb k k refl, (h.tracked k lo hi).active on) (written (entry_for a k f p) refl);
          idle = λ off. no_both _ w.place.act.active.on off;
        })
        (end_pages m h.pages along) h.marks;
  }
    where
      along : KeptAlong a s k a (write_plan a k f p d (entry_for a k f p))
      along = write_along w (entry_for a k f p) refl

      written : (o : Option Entry) → entry_for a k f p ≡ o
          → with_page f p d (pending_in a k) ≡ pending_in (changed_by a (write_plan a k f p d o)) k
      written (some e) found = page_again (own_record w.place.act) a f p d e found
      written none new = rw (eq-eqb k k refl)
          (page_first (own_record w.place.act) a f p d (chosen a k f p) new (new_free w new).ungiven)

  module _ (k : ℕ) (w : MayAct a s k) where
    -- Commit and abort unmark k and end its reading holds, and leave none of its pages pending.
    ended : (b : View) (m' : Model) → ((j : ℕ) → m'.pending j ≡ (when eqb j k then no_pending else m.pending j))
        → ((j : ℕ) → Others s k j → pending_in b j ≡ pending_in a j) → PagesMatch b m' → Matches b (without_reader (set_active s k false) k) m'
    ended b m' pending others pages = own_matches h others (λ j lo n. set_other s k j false w.active.low lo n)
        (λ j n. pending j ∙ rw (ne_eqb j k n))
        (λ lo hi. record {
          active = λ on. no_both _ on (set_same s k false h.marks lo hi);
          idle = λ off. pending k ∙ rw (eq-eqb k k refl);
        })
        pages (set_marks s k false h.marks)

    -- From the first store on the content is that of the decided view, which is the model's after the commit.
    commit_outcome : Outcome a s m (commit k)
    unfolding plan
    commit_outcome = record {
      crashes = crashes;
      ends = λ n. ended _ (committed m k) (λ j. refl) (λ j o. kept_pending (commit_along w) j o ∙ rw (ne_eqb j k o.other))
          (end_pages (committed m k) decided (commit_along w));
    }
      where
        decided : PagesMatch (decided_view a k) (committed m k)
        decided f p i lt = commit_content w f p i
            ∙ rw (h.pages f p i lt, (h.tracked k w.active.low w.active.high).active w.active.on)

        crashes : (n : ℕ) → PagesMatch (changed_by a (take n (plan a s (commit k)))) (effect m (commit k) (crashed n))
        crashes zero = h.pages
        crashes (suc n) =
            let decides : is_deciding (crashed (suc n)) ≡ true = le-leb 1 (suc n) (omega arith) in
            rw decides (prefix_pages (committed m k) decided (commit_along w) n)

  -- The opens leave the marks, what is pending and all active clients.
  opens : {s' : Session} {xs : List Update} → KeptAlong a s 0 a xs → s'.active ≡ s.active → Matches (changed_by a xs) s' m
  opens along same = own_matches h (kept_pending along) (λ j lo n. rw same) (λ j n. refl) (λ lo hi. absurd (omega arith))
      (end_pages m h.pages along) (rw same h.marks)

  pub outcome : (c : Call) → Allowed a s c → Outcome a s m c
  unfolding plan
  outcome (begin k) w = begin_outcome k w
  outcome (open_file k f) w = record {
    crashes = prefix_pages m h.pages (open_along w.either);
    ends = λ n. opens (open_along w.either) refl;
  }
  outcome (open_read k f) w = record {
    crashes = prefix_pages m h.pages (open_read_along w);
    ends = λ n. opens (open_read_along w)
        (if_test (λ (s' : Session). s'.active ≡ s.active) (holds_either a s k f) s (with_reading s k f) (λ e. refl) (λ e. refl));
  }
  outcome (write k f p d) w = write_outcome k f p d w
  outcome (commit k) w = commit_outcome k w
  outcome (abort k) w = record {
    crashes = prefix_pages m h.pages (abort_along w);
    ends = λ n. ended k w _ (with_pending m k no_pending) (λ j. refl) (kept_pending (abort_along w)) (end_pages m h.pages (abort_along w));
  }
