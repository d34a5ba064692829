-- Each prefix of the stores of begin, of both opens and of abort keeps what must not be touched.
-- A header store of recovery keeps it by itself: it frees a header with its decided map. When all are freed no header names
-- the client, so its record may become idle, and then open. The last store of open is a header with its decided map too.
use mathlib.Core.Path.{◌≡◌, refl, sym, ◌∙◌, subst}
use mathlib.Core.Bool.{Bool, true, false, not, ◌&&◌, false≢true}
use mathlib.Core.List.{List, [], ◌∷◌, ◌++◌, append_assoc}
use mathlib.Core.Logic.{◌≢◌}
use Prim.Native.Nat.{ℕ, ◌≤◌}
use native.Mathlib.Omega.{arith}
use borrow.Author.Tests.{eqb-true, eqb-false, eq-eqb, ne_eqb, not-false}
use lib.Dec.{eqb}
use Rattle.interface.specs.declared.Session.{Session}
use Rattle.lists.specs.Lists.{when◌then◌else◌, every, member}
use Rattle.sector.specs.Contents.{Table, Header, idle_record, open_record}
use Rattle.lists.proofs.ListLaws.{and_left, and_right, or_right, or_none, no_both}
use Rattle.lists.proofs.CaseLaws.{by_equal, if_test, if_equal}
use Rattle.volume.specs.Places.{is_file}
use Rattle.volume.specs.Views.{View, Update, set_record, set_header, changed, changed_by}
use Rattle.volume.proofs.PlaceLaws.{IsFile, file_of}
use Rattle.volume.proofs.LawfulLaws.{HeaderFacts, Lawful, idle_fits, open_fits, placed_header}
use Rattle.volume.proofs.AlongLaws.{Along, last, step, last_record}
use Rattle.rules.specs.Sessions.{is_active, is_orphaned, is_reading, holds, holds_either}
use Rattle.rules.specs.Recovery.{is_decided, map_after, held_files, recovery}
use Rattle.rules.specs.Plans.{begin_plan, open_plan, open_read_plan}
use Rattle.rules.specs.Content.{decided_map}
use Rattle.rules.proofs.AllowedLaws.{Others, Running, MayBegin, MayAct, MayOpenRead, holder_orphaned, running_undecided, running_foreign}
use Rattle.rules.proofs.ContentLaws.{decided_header, unheld_map, decided_fits}
use Rattle.rules.proofs.RecoveryLaws.{held_files_lem, held_member, freeing, map_after_lem, recovery_is}
use Rattle.atomicity.proofs.KeepLaws.{Keeps, keeps_self, keep_header, keep_record}

-- Every prefix of the updates, made on view a, keeps what a₀ has.
abbrev pub KeptAlong : View → Session → ℕ → View → List Update → Type 0
KeptAlong a₀ s k a xs = Along a₀.table (Keeps a₀ s k) a xs

-- No header names client j.
abbrev pub Unnamed : Table → ℕ → View → Type 0
Unnamed t j a = (f : ℕ) → IsFile t f → (a.headers f).holder ≢ j

-- ------------------------------------------------------------------ recovery
-- Recovery of a client that is none of the others, and what comes after it.
module _ (a₀ : View) (s : Session) (k j : ℕ) (laws : Lawful a₀.table a₀) (lo : 1 ≤ j) (hi : j ≤ a₀.table.clients)
    (ne : (i : ℕ) → Others s k i → i ≢ j) (ys : List Update)
    (after : (a : View) → Keeps a₀ s k a → Unnamed a₀.table j a → KeptAlong a₀ s k a ys) where
  -- The files that client j may still hold are those to come.
  freeing_along : (fs : List ℕ) (a : View) → every (λ f. is_file a₀.table f && eqb (a₀.headers f).holder j) fs ≡ true
      → ((g : ℕ) → IsFile a₀.table g → (a.headers g).holder ≡ j → member g fs ≡ true) → Keeps a₀ s k a
      → KeptAlong a₀ s k a (freeing a₀ fs ++ (set_record j idle_record ∷ ys))
  freeing_along [] a held left kept =
      let unnamed : Unnamed a₀.table j a = λ f i e. false≢true (left f i e) in
      step {x = set_record j idle_record} kept (lo, hi, idle_fits a₀.table)
      (after _ (keep_record kept j idle_record (idle_fits a₀.table) (λ f i e. absurd (unnamed f i e)) ne) unnamed)
  freeing_along (f ∷ fs) a held left kept =
      let this = and_left (is_file a₀.table f && eqb (a₀.headers f).holder j) _ held in
      let file : IsFile a₀.table f = file_of a₀.table f (and_left (is_file a₀.table f) _ this) in
      let holder : (a₀.headers f).holder ≡ j = eqb-true _ _ (and_right (is_file a₀.table f) _ this) in
      step kept (placed_header (decided_header a₀ f 0) laws.table file (decided_fits laws f file))
      (freeing_along fs _ (and_right (is_file a₀.table f && eqb (a₀.headers f).holder j) _ held) still
      (keep_header kept f 0 (record { map = decided_fits laws f file; holder = λ n. absurd (n refl) }) refl (λ i o q. ne i o (sym q ∙ holder))))
    where
      still : (g : ℕ) → IsFile a₀.table g → ((changed a (set_header f (decided_header a₀ f 0))).headers g).holder ≡ j
          → member g fs ≡ true
      still g i = if_equal (λ (h : Header). h.holder ≡ j → member g fs ≡ true) g f (decided_header a₀ f 0) (a.headers g)
          (λ e q. absurd (omega arith)) (λ n q. or_right (eqb g f) (member g fs) (left g i q) (ne_eqb g f n))

  recovers : KeptAlong a₀ s k a₀ (freeing a₀ (held_files a₀ j) ++ (set_record j idle_record ∷ ys))
  recovers = freeing_along (held_files a₀ j) a₀ (held_files_lem a₀ j) (held_member a₀ j) (keeps_self laws)

  pub recovery_then : KeptAlong a₀ s k a₀ (recovery (is_decided a₀ j) a₀ j ++ ys)
  recovery_then = rw (recovery_is a₀ j lo, append_assoc (freeing a₀ (held_files a₀ j)) (set_record j idle_record ∷ []) ys) recovers

-- Recovery of j and nothing after it; and of the caller itself.
recovery_of : {a₀ : View} (s : Session) (k j : ℕ) → Lawful a₀.table a₀ → 1 ≤ j → j ≤ a₀.table.clients
    → ((i : ℕ) → Others s k i → i ≢ j) → KeptAlong a₀ s k a₀ (recovery (is_decided a₀ j) a₀ j)
recovery_of {a₀} s k j laws lo hi ne = rw (recovery_is a₀ j lo) (recovers a₀ s k j laws lo hi ne [] (λ a kept unnamed. last kept))

pub recovery_along : {a₀ : View} (s : Session) (k : ℕ) → Lawful a₀.table a₀ → 1 ≤ k → k ≤ a₀.table.clients
    → KeptAlong a₀ s k a₀ (recovery (is_decided a₀ k) a₀ k)
recovery_along s k laws lo hi = recovery_of s k k laws lo hi (λ i o. o.other)

module _ {a : View} {s : Session} {k : ℕ} where
  -- ------------------------------------------------------------------ abort
  pub abort_along : MayAct a s k → KeptAlong a s k a (recovery false a k)
  abort_along w = subst (λ (redo : Bool). KeptAlong a s k a (recovery redo a k)) (running_undecided w.running)
      (recovery_along s k w.ready.laws w.active.low w.running.client)

  -- ------------------------------------------------------------------ begin
  pub begin_along : MayBegin a s k → KeptAlong a s k a (begin_plan a s k)
  unfolding begin_plan
  begin_along w =
      if_test (λ (xs : List Update). KeptAlong a s k a (xs ++ (set_record k open_record ∷ []))) (is_orphaned a s k) _ []
      (λ e. recovery_then a s k k w.ready.laws w.low w.high (λ i o. o.other) (set_record k open_record ∷ []) opened)
      (λ e. opened a (keeps_self w.ready.laws) (λ f i q.
      let idle : eqb (a.records k).state 0 ≡ true = not-false _ (rw w.off at e) in
      no_both _ idle (rw q at ((w.ready.laws.headers f i).holder (rw q (omega (arith, w.low)))).live)))
    where
      opened : (b : View) → Keeps a s k b → Unnamed a.table k b → KeptAlong a s k b (set_record k open_record ∷ [])
      opened b kept unnamed =
          step {x = set_record k open_record} kept (w.low, w.high, open_fits a.table)
          (last (keep_record kept k open_record (open_fits a.table) (λ f i e. absurd (unnamed f i e)) (λ i o. o.other)))

  -- ------------------------------------------------------------------ open, for writing and for reading
  -- All active clients are left alone, k too: the others are those that aren't 0. The holder, which isn't k, is none of them.
  module _ {f : ℕ} (w : MayOpenRead a s k f) (foreign : (a.headers f).holder ≢ k) where
    unheld : (i : ℕ) → Others s 0 i → (a.headers f).holder ≢ i
    unheld i o q =
        let some : eqb (a.headers f).holder 0 ≡ false = rw q (ne_eqb i 0 (omega (arith, o.active.low))) in
        let off : is_active s (a.headers f).holder ≡ false = rw (ne_eqb _ k foreign, some) at w.free in
        no_both (is_active s i) o.active.on (rw q at off)

    takes : (b : View) → Keeps a s 0 b → KeptAlong a s 0 b (set_header f (decided_header a f k) ∷ [])
    takes b kept =
        let map = decided_fits w.act.ready.laws f w.file in
        let run : Running a k = w.act.running in
        let own = (kept.others k (record { active = w.act.active; other = omega (arith, w.act.active.low) })).same in
        let undecided : (not (eqb k 0) && is_decided b k) ≡ false
        = rw (own, ne_eqb k 0 (omega (arith, w.act.active.low))) (running_undecided run) in
        let facts : HeaderFacts a.table b.records f (decided_header a f k) = record {
          map = map;
          holder = λ n. record {
            client = run.client;
            live = rw (own, run.state);
            away = rw own (running_foreign run f foreign (λ e. member e.slot (decided_map a f)));
          };
        } in
        step kept (placed_header (decided_header a f k) w.act.ready.laws.table w.file map)
        (last (keep_header kept f k facts undecided unheld))

  -- What a recovery of it relies on.
  module _ {f h : ℕ} (w : MayOpenRead a s k f) (e : (a.headers f).holder ≡ h) (n : (a.headers f).holder ≢ k) (pos : 1 ≤ h) where
    holder_client : h ≤ a.table.clients
    holder_client = rw e at ((w.act.ready.laws.headers f w.file).holder (omega arith)).client

    holder_other : (i : ℕ) → Others s 0 i → i ≢ h
    holder_other i o x = unheld w n i o (e ∙ sym x)

  pub open_along : {f : ℕ} → MayOpenRead a s k f → KeptAlong a s 0 a (open_plan a s k f)
  unfolding open_plan
  open_along {f} w =
      let self : Keeps a s 0 a = keeps_self w.act.ready.laws in
      if_equal (KeptAlong a s 0 a) (a.headers f).holder k [] _ (λ e. last self)
      (λ n. rw (holder_orphaned a s k f (w.act.ready.laws.headers f w.file) w.free n) (by_equal (a.headers f).holder 0
      (λ e. rw (eq-eqb _ 0 e, sym (unheld_map a f e)) (takes w n a self))
      (λ z. rw (ne_eqb _ 0 z) (orphaned (a.headers f).holder refl n (omega arith)))))
    where
      orphaned : (h : ℕ) → (a.headers f).holder ≡ h → (a.headers f).holder ≢ k → 1 ≤ h → KeptAlong a s 0 a
          (recovery (is_decided a h) a h ++ (set_header f (record { holder = k; map = map_after (is_decided a h) a h f }) ∷ []))
      orphaned h e n pos = rw (map_after_lem a h f pos e)
          (recovery_then a s 0 h w.act.ready.laws pos (holder_client w e n pos) (holder_other w e n pos) _ (λ b kept unnamed. takes w n b kept))

  pub open_read_along : {f : ℕ} → MayOpenRead a s k f → KeptAlong a s 0 a (open_read_plan a s k f)
  unfolding open_read_plan
  open_read_along {f} w =
      let self : Keeps a s 0 a = keeps_self w.act.ready.laws in
      let h = (a.headers f).holder in
      if_test (KeptAlong a s 0 a) (holds_either a s k f) [] _ (λ e. last self)
      (λ e.
      let n : h ≢ k = eqb-false _ _ (or_none (holds a k f) (is_reading s k f) e).0 in
      rw (holder_orphaned a s k f (w.act.ready.laws.headers f w.file) w.free n) (by_equal h 0
      (λ z. rw (eq-eqb _ 0 z) (last self))
      (λ z. rw (ne_eqb _ 0 z) (recovery_of s 0 h w.act.ready.laws (omega arith) (holder_client w refl n (omega arith)) (holder_other w refl n (omega arith))))))

-- After begin the record is open and has no entries.
pub begin_opens : (a : View) (s : Session) (k : ℕ) → (changed_by a (begin_plan a s k)).records k ≡ open_record
unfolding begin_plan
begin_opens a s k = last_record (when is_orphaned a s k then recovery (is_decided a k) a k else []) a k open_record
