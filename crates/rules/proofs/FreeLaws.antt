-- Files that nobody holds: a call leaves each of them so, but for the one that it opens for writing; and after a file is opened for
-- reading nobody holds it. So the reading holds of a session go on after a call.
-- An update gives a file a holder only if it stores that file's header; recovery's headers have none, and open's is the last.
use mathlib.Core.Path.{◌≡◌, refl}
use mathlib.Core.Bool.{Bool, true, false, not, ◌||◌}
use mathlib.Core.List.{List, [], ◌∷◌, ◌++◌, map}
use mathlib.Core.Logic.{◌≢◌}
use mathlib.Core.Option.{Option, none, some}
use Prim.Native.Nat.{ℕ}
use borrow.Author.Tests.{eqb-true, eqb-false, eq-eqb, ne_eqb}
use lib.Dec.{eqb}
use Rattle.interface.specs.declared.Session.{Session}
use Rattle.lists.specs.Lists.{when◌then◌else◌, every, member}
use Rattle.sector.specs.Contents.{Bytes, Entry, idle_record}
use Rattle.lists.proofs.ListLaws.{and_left, and_right, and_both, or_none}
use Rattle.lists.proofs.CaseLaws.{by_equal, if_test}
use Rattle.lists.proofs.SearchLaws.{or_true, every_end}
use Rattle.volume.specs.Views.{View, Update, set_record, set_header, set_slot, changed_by}
use Rattle.volume.proofs.PlaceLaws.{IsFile}
use Rattle.rules.specs.Sessions.{is_orphaned, is_reading, holds, holds_either}
use Rattle.rules.specs.Recovery.{is_decided, map_after, held_files, recovery}
use Rattle.rules.specs.Plans.{Call, begin, open_file, open_read, write, commit, abort, entry_for, held_by_orphan, begin_plan, open_plan, open_read_plan, write_plan, plan}
use Rattle.rules.proofs.AllowedLaws.{MayOpenRead, holder_orphaned}
use Rattle.rules.proofs.RecoveryLaws.{held_member}

-- The update doesn't give file g a holder.
abbrev pub keeps_free : ℕ → Update → Bool
keeps_free g (set_record k r) = true
keeps_free g (set_header f h) = not (eqb g f) || eqb h.holder 0
keeps_free g (set_slot f r d) = true

pub free_kept : (xs : List Update) (a : View) (g : ℕ) → every (keeps_free g) xs ≡ true → (a.headers g).holder ≡ 0
    → ((changed_by a xs).headers g).holder ≡ 0
free_kept [] a g e h = h
free_kept (set_record k r ∷ xs) a g e h = free_kept xs _ g e h
free_kept (set_slot f r d ∷ xs) a g e h = free_kept xs _ g e h
free_kept (set_header f x ∷ xs) a g e h =
    free_kept xs _ g (and_right (not (eqb g f) || eqb x.holder 0) _ e) (go (eqb g f) (and_left (not (eqb g f) || eqb x.holder 0) _ e))
  where
    go : (b : Bool) → (not b || eqb x.holder 0) ≡ true → (when b then x else a.headers g).holder ≡ 0
    go true q = eqb-true _ _ q
    go false q = h

-- ------------------------------------------------------------------ recovery
-- Headers of these files, with any maps and no holder.
module _ (m : ℕ → List ℕ) (g : ℕ) where
  abbrev headers : List ℕ → List Update
  headers fs = map (λ f. set_header f (record { holder = 0; map = m f })) fs

  headers_free : (fs : List ℕ) → every (keeps_free g) (headers fs) ≡ true
  headers_free [] = refl
  headers_free (f ∷ fs) = and_both (not (eqb g f) || true) _ (or_true (not (eqb g f)) true refl) (headers_free fs)

  freed : (fs : List ℕ) (a : View) (k : ℕ) → (member g fs || eqb (a.headers g).holder 0) ≡ true
      → ((changed_by a (headers fs ++ (set_record k idle_record ∷ []))).headers g).holder ≡ 0
  freed [] a k e = eqb-true _ _ e
  freed (f ∷ fs) a k e = freed fs _ k (go (eqb g f) e)
    where
      go : (b : Bool) → ((b || member g fs) || eqb (a.headers g).holder 0) ≡ true
          → (member g fs || eqb (when b then record { holder = 0; map = m f } else a.headers g).holder 0) ≡ true
      go true q = or_true (member g fs) true refl
      go false q = q

recovery_keeps : (redo : Bool) (a : View) (k g : ℕ) → every (keeps_free g) (recovery redo a k) ≡ true
unfolding recovery
recovery_keeps redo a k g =
    let m : ℕ → List ℕ = λ f. map_after redo a k f in
    every_end (keeps_free g) (headers m g (held_files a k)) (set_record k idle_record) (headers_free m g (held_files a k)) refl

-- After recovery of its holder a file has none.
recovery_frees : (redo : Bool) (a : View) (k f : ℕ) → IsFile a.table f → (a.headers f).holder ≡ k
    → ((changed_by a (recovery redo a k)).headers f).holder ≡ 0
unfolding recovery
recovery_frees redo a k f i e = freed (λ g. map_after redo a k g) f (held_files a k) a k (rw (held_member a k f i e))

-- ------------------------------------------------------------------ every call
-- The call opens file g for writing.
abbrev pub opens_file : Call → ℕ → Bool
opens_file (begin k) g = false
opens_file (open_file k f) g = eqb g f
opens_file (open_read k f) g = false
opens_file (write k f p d) g = false
opens_file (commit k) g = false
opens_file (abort k) g = false

module _ (a : View) (s : Session) (g : ℕ) where
  abbrev Kept : List Update → Type 0
  Kept xs = every (keeps_free g) xs ≡ true

  begin_keeps : (k : ℕ) → Kept (begin_plan a s k)
  unfolding begin_plan
  begin_keeps k = every_end (keeps_free g) (when is_orphaned a s k then recovery (is_decided a k) a k else []) _
      (if_test Kept (is_orphaned a s k) _ [] (λ e. recovery_keeps (is_decided a k) a k g) (λ e. refl)) refl

  open_keeps : (k f : ℕ) → eqb g f ≡ false → Kept (open_plan a s k f)
  unfolding open_plan
  open_keeps k f n =
      let h = (a.headers f).holder in
      if_test Kept (holds a k f) [] _ (λ e. refl)
      (λ e. if_test Kept (held_by_orphan a s f) _ _
      (λ o. every_end (keeps_free g) (recovery (is_decided a h) a h) _ (recovery_keeps (is_decided a h) a h g) (rw n)) (λ o. rw n))

  open_read_keeps : (k f : ℕ) → Kept (open_read_plan a s k f)
  unfolding open_read_plan
  open_read_keeps k f =
      let h = (a.headers f).holder in
      if_test Kept (holds_either a s k f) [] _ (λ e. refl)
      (λ e. if_test Kept (held_by_orphan a s f) _ [] (λ o. recovery_keeps (is_decided a h) a h g) (λ o. refl))

  write_keeps : (k f p : ℕ) (d : Bytes) (o : Option Entry) → Kept (write_plan a k f p d o)
  write_keeps k f p d (some e) = refl
  write_keeps k f p d none = refl

  pub plan_keeps : (c : Call) → opens_file c g ≡ false → Kept (plan a s c)
  unfolding plan
  plan_keeps (begin k) n = begin_keeps k
  plan_keeps (open_file k f) n = open_keeps k f n
  plan_keeps (open_read k f) n = open_read_keeps k f
  plan_keeps (write k f p d) n = write_keeps k f p d (entry_for a k f p)
  plan_keeps (commit k) n = recovery_keeps true a k g
  plan_keeps (abort k) n = recovery_keeps false a k g

-- Opened for reading by a client that doesn't hold it, a file has no holder afterwards: an orphaned one is recovered, and there is no
-- other.
pub open_read_frees : {a : View} {s : Session} {k f : ℕ} → MayOpenRead a s k f → holds_either a s k f ≡ false
    → ((changed_by a (open_read_plan a s k f)).headers f).holder ≡ 0
unfolding open_read_plan
open_read_frees {a} {s} {k} {f} w e =
    let h = (a.headers f).holder in
    let n : h ≢ k = eqb-false _ _ (or_none (holds a k f) (is_reading s k f) e).0 in
    rw (e, holder_orphaned a s k f (w.act.ready.laws.headers f w.file) w.free n) (by_equal h 0
    (λ z. rw (eq-eqb h 0 z) z) (λ z. rw (ne_eqb h 0 z) (recovery_frees (is_decided a h) a h f w.file refl)))
