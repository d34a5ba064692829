-- A step on a volume keeps the relation with the model: a call however it ends, and a question hands back what the model shows.
-- A call's end is one of three: refused, so nothing changes; done or crashed, so the view is the one after its updates or after
-- a prefix of them, of which the laws over views speak.
use mathlib.Core.Path.{◌≡◌, refl, sym, ap, ◌∙◌}
use mathlib.Core.List.{List}
use mathlib.Core.Option
use mathlib.Core.Option.{Option, none, some}
use Prim.Native.Nat.{ℕ, ◌≤◌}
use borrow.Author.Tests.{eqb-true}
use lib.ListN.{length, get_or, take}
use Rattle.interface.specs.declared.Session.{Session}
use Rattle.interface.specs.Answers.{refused}
use Rattle.lists.specs.Lists.{when◌then◌else◌}
use Rattle.sector.specs.Contents.{Entry}
use Rattle.sector.specs.Sectors.{sector}
use Rattle.lists.proofs.ListLaws.{no_both}
use Rattle.lists.proofs.CaseLaws.{by_test}
use Rattle.volume.specs.Places.{slot_place, sector_of}
use Rattle.volume.specs.Views.{View, changed_by}
use Rattle.volume.specs.Volumes.{Volume, view}
use Rattle.volume.specs.Stores.{cut_at}
use Rattle.volume.proofs.AccessLaws.{slot_is}
use Rattle.volume.proofs.LawfulLaws.{Lawful, entry_facts}
use Rattle.volume.proofs.AlongLaws.{Along, changed_table}
use Rattle.volume.proofs.SoundLaws.{Fine, cut_view, cut_all, cut_fine}
use Rattle.rules.specs.Sessions.{holds, none_active}
use Rattle.rules.specs.Plans.{Call, begin, open_file, open_read, write, commit, abort, Query, read_page, look_page, entry_for, slot_for, plan}
use Rattle.rules.specs.Calls.{After, call_stores, call, query, part_of}
use Rattle.rules.specs.Content.{decided_map, decided_slot}
use Rattle.rules.proofs.CallLaws.{Passed, call_case, call_left, query_case}
use Rattle.rules.proofs.SessionLaws.{none_active_lem}
use Rattle.rules.proofs.AllowedLaws.{Active, MayRead, read_holder, own_record, slot_below}
use Rattle.rules.proofs.ContentLaws.{unheld_map, decided_below}
use Rattle.atomicity.specs.Model.{Pending, Model, overlaid, shown, emptied, effect, model_call}
use Rattle.atomicity.specs.AllOrNone.{QueryAgrees}
use Rattle.atomicity.proofs.KeepLaws.{bytes_for, pending_in}
use Rattle.atomicity.proofs.WriteLaws.{own_map, plan_lawful}
use Rattle.atomicity.proofs.RelationLaws.{Matches, Faithful, faithful, faithful_matches, new_matches, Outcome, outcome}

-- ------------------------------------------------------------------ a call
refused_matches : (a : View) (s : Session) (m : Model) → Matches a s m → (c : Call) (n : ℕ) → Matches a s (effect m c (refused n))
refused_matches a s m h (begin k) n = h
refused_matches a s m h (open_file k f) n = h
refused_matches a s m h (open_read k f) n = h
refused_matches a s m h (write k f p d) n = h
refused_matches a s m h (commit k) n = h
refused_matches a s m h (abort k) n = h

-- The first n stores of a call that isn't refused: its updates have their places, and the views on the way are lawful.
module _ (v : Volume) (s : Session) (c : Call) (ok : Passed v s c) where
  lawful_along : Along (view v).table (Lawful (view v).table) (view v) (plan (view v) s c)
  lawful_along = plan_lawful (view v) s c ok.allowed

  left_view : (n : ℕ) → view (cut_at v (call_stores v s c) n) ≡ changed_by (view v) (take n (plan (view v) s c))
  left_view = cut_view ok.fine lawful_along

  pub left_all : (n : ℕ) → length (call_stores v s c) ≤ n → view (cut_at v (call_stores v s c) n) ≡ changed_by (view v) (plan (view v) s c)
  left_all = cut_all ok.fine lawful_along

  pub left_fine : (n : ℕ) → Fine (cut_at v (call_stores v s c) n)
  left_fine = cut_fine ok.fine lawful_along

pub call_matches : (v : Volume) (s : Session) (m : Model) → Matches (view v) s m → (c : Call) (budget : ℕ)
    → let x = call v s c budget in Matches (view x.volume) x.session (model_call m s c x.answer)
unfolding model_call
call_matches v s m h c budget =
    let m' : Model = when none_active s then emptied m else m in
    let clear : Faithful (view v) s m' = faithful (view v) s m h in
    let out : Passed v s c → Outcome (view v) s m' c = λ ok. outcome (view v) s m' clear c ok.allowed in
    call_case (λ (x : After). Matches (view x.volume) x.session (model_call m s c x.answer)) v s c budget
    (λ n e. refused_matches (view v) s m' (faithful_matches (view v) s m' clear) c n)
    (λ ok le. rw (left_all v s c ok budget le) ((out ok).ends _))
    (λ ok lt. rw (left_view v s c ok budget) (new_matches _ _ ((out ok).crashes budget)))

-- The table stays.
pub call_table : (v : Volume) (s : Session) (c : Call) (budget : ℕ) → (view (call v s c budget).volume).table ≡ (view v).table
call_table v s c budget = call_left (λ w. (view w).table ≡ (view v).table) v s c budget refl
    (λ ok. ap (λ (a : View). a.table) (left_view v s c ok budget) ∙ changed_table (take budget (plan (view v) s c)) (view v))

-- ------------------------------------------------------------------ a question
-- A file that a client reads, by either hold, has its decided map for its map: nobody holds it, or the client, which isn't decided.
read_map : {a : View} {s : Session} {k f p : ℕ} → MayRead a s k f p → decided_map a f ≡ (a.headers f).map
read_map {a} {s} {k} {f} w = by_test (holds a k f) (λ e. own_map w.act f (eqb-true _ _ e))
    (λ e. unheld_map a f (w.act.ready.reads k f (read_holder w e)).free)

-- The slot that a read finds has what the model shows.
slot_shown : (a : View) (s : Session) (m : Model) → Matches a s m → (k f p : ℕ) → MayRead a s k f p
    → (o : Option Entry) → entry_for a k f p ≡ o
    → a.slots f (slot_for a f p o) ≡ Option.get_or (bytes_for a.slots o) (m.pages f p)
slot_shown a s m h k f p w none e =
    sym (ap (λ (l : List ℕ). a.slots f (get_or l p 0)) (read_map w)) ∙ h.pages f p w.file w.page
slot_shown a s m h k f p w (some e) found = rw (entry_facts (own_record w.act) f p e found).file

-- A client that reads is active, so the model's pending pages are those of its record.
pub read_pending : (a : View) (s : Session) (m : Model) → Matches a s m → (k : ℕ) → Active s k → m.pending k ≡ pending_in a k
read_pending a s m h k w =
    (h.tracked (by_test (none_active s) (λ e. no_both _ w.on (none_active_lem s k e)) (λ e. e)) k w.low w.high).active w.on

pub query_matches : (v : Volume) (s : Session) (m : Model) → Matches (view v) s m → (q : Query) → QueryAgrees v s m q (query v s q)
query_matches v s m h (read_page k f p) = query_case (QueryAgrees v s m (read_page k f p)) v s (read_page k f p) (λ n e. tt)
    (λ fine w e.
    let o = entry_for (view v) k f p in
    let same : sector v (sector_of (view v).table (slot_place f (slot_for (view v) f p (entry_for (view v) k f p)))) ≡ shown m (read_page k f p)
    = sym (slot_is v f _ w.file (slot_below w o refl)) ∙ slot_shown (view v) s m h k f p w o refl
    ∙ ap (λ (l : Pending). overlaid l m.pages f p) (sym (read_pending (view v) s m h k w.act.active)) in
    (same, ap (part_of v) e ∙ same))
query_matches v s m h (look_page f p) = query_case (QueryAgrees v s m (look_page f p)) v s (look_page f p) (λ n e. tt)
    (λ fine w e.
    let same : sector v (sector_of (view v).table (slot_place f (decided_slot (view v) f p))) ≡ m.pages f p
    = sym (slot_is v f _ w.file (decided_below w.laws f p w.file w.page)) ∙ h.pages f p w.file w.page in
    (same, ap (part_of v) e ∙ same))
