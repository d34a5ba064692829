-- The reading holds of the session that a call hands back fit the volume that it leaves: each is one of an active client, on a file
-- that nobody holds.
-- A hold that was there stays, and its client is still active; the call's updates give its file no holder, unless the call opens it
-- for writing, and then the hold isn't there any more. A hold that is noted is of a file that is free then.
use mathlib.Core.Path.{◌≡◌, refl, sym, ◌∙◌}
use mathlib.Core.Bool.{true, false}
use mathlib.Core.List.{List}
use mathlib.Core.Logic.{◌≢◌}
use Prim.Native.Nat.{ℕ, ◌≤◌}
use native.Mathlib.Omega.{arith}
use borrow.Author.Tests.{ne_eqb}
use lib.ListN.{length}
use Rattle.interface.specs.declared.Session.{Session}
use Rattle.lists.specs.Lists.{every}
use Rattle.lists.proofs.ListLaws.{no_both}
use Rattle.lists.proofs.CaseLaws.{by_equal, if_test}
use Rattle.volume.specs.Views.{View, Update, changed_by}
use Rattle.volume.proofs.AlongLaws.{changed_table}
use Rattle.rules.specs.Sessions.{is_active, set_active, is_reading, with_reading, without_reading, without_reader, holds_either}
use Rattle.rules.specs.Plans.{Call, begin, open_file, open_read, write, commit, abort, open_read_plan, plan, session_after}
use Rattle.rules.proofs.SessionLaws.{set_same, set_other, active_reading, reading_other, with_reading_other, without_reading_lem, without_reading_other, without_reader_lem, not_read}
use Rattle.rules.proofs.AllowedLaws.{Reader, Shared, MayBegin, MayAct, MayOpen, MayOpenRead, Allowed}
use Rattle.rules.proofs.FreeLaws.{keeps_free, free_kept, opens_file, plan_keeps, open_read_frees}

module _ (a : View) (s : Session) (marks : length s.active ≡ 4) (words : length s.reading ≡ 4) where
  -- A hold that was there, of a client that is still active, on a file that the updates don't give a holder.
  stays : {j g : ℕ} (s' : Session) (xs : List Update) → Shared a s j g → is_active s' j ≡ true → every (keeps_free g) xs ≡ true
      → Shared (changed_by a xs) s' j g
  stays {g = g} s' xs r on free = record { active = on; file = rw (changed_table xs a) r.file; free = free_kept xs a g free r.free }

  -- It was there in the session given.
  was : {s' : Session} {j g : ℕ} → Reader s' j g → is_reading s' j g ≡ is_reading s j g → Reader s j g
  was x e = record { low = x.low; high = x.high; first = x.first; last = x.last; on = sym e ∙ x.on }

  begin_reads : (k : ℕ) → MayBegin a s k → (j g : ℕ) → Reader (set_active s k true) j g
      → Shared (changed_by a (plan a s (begin k))) (set_active s k true) j g
  begin_reads k w j g x =
      let r : Shared a s j g = w.ready.reads j g (was x (active_reading s k true j g)) in
      stays _ (plan a s (begin k)) r (by_equal j k
      (λ e. rw e (set_same s k true marks w.low (omega (arith, w.high, w.ready.laws.table.four))))
      (λ n. set_other s k j true w.low x.low n ∙ r.active)) (plan_keeps a s g (begin k) refl)

  -- The file opened for writing has no reader left: k's hold has ended, and with another's the open is refused.
  open_reads : (k f : ℕ) → MayOpen a s k f → (j g : ℕ) → Reader (without_reading s k f) j g
      → Shared (changed_by a (plan a s (open_file k f))) (without_reading s k f) j g
  open_reads k f w j g x = by_equal g f
      (λ e. by_equal j k (λ q. no_both _ (rw (e, q) at x.on) (without_reading_lem s k lo words hi f))
      (λ n. no_both _ (rw e at (other n).on) (not_read s k f j w.unread x.low x.high n)))
      (λ m. by_equal j k (λ q. go m (was x (rw q (without_reading_other s k lo words hi f g w.either.file.low x.first m)))) (λ n. go m (other n)))
    where
      lo : 1 ≤ k
      lo = w.either.act.active.low

      hi : k ≤ 4
      hi = w.either.act.active.high

      other : j ≢ k → Reader s j g
      other n = was x (reading_other s k lo _ j g x.low n)

      go : g ≢ f → Reader s j g → Shared (changed_by a (plan a s (open_file k f))) (without_reading s k f) j g
      go m y =
          let r : Shared a s j g = w.either.act.ready.reads j g y in
          stays _ (plan a s (open_file k f)) r r.active (plan_keeps a s g (open_file k f) (ne_eqb g f m))

  -- The hold that is noted is of a file that nobody holds then.
  open_read_reads : (k f : ℕ) → MayOpenRead a s k f → let s' = session_after a s (open_read k f) in
      (j g : ℕ) → Reader s' j g → Shared (changed_by a (plan a s (open_read k f))) s' j g
  unfolding plan
  open_read_reads k f w = if_test (λ (s' : Session). (j g : ℕ) → Reader s' j g → Shared (changed_by a (open_read_plan a s k f)) s' j g)
      (holds_either a s k f) s (with_reading s k f)
      (λ e j g x. go s x (λ on. on))
      (λ e j g x. by_equal j k
      (λ q. by_equal g f (λ z. rw (q, z) (noted e))
      (λ m. go (with_reading s k f) (was x (rw q (with_reading_other s k lo words hi f g w.file.low x.first m))) (λ on. on)))
      (λ n. go (with_reading s k f) (was x (reading_other s k lo _ j g x.low n)) (λ on. on)))
    where
      lo : 1 ≤ k
      lo = w.act.active.low

      hi : k ≤ 4
      hi = w.act.active.high

      go : {j g : ℕ} (s' : Session) → Reader s j g → (is_active s j ≡ true → is_active s' j ≡ true)
          → Shared (changed_by a (open_read_plan a s k f)) s' j g
      go {j} {g} s' y on =
          let r : Shared a s j g = w.act.ready.reads j g y in
          stays s' (open_read_plan a s k f) r (on r.active) (plan_keeps a s g (open_read k f) refl)

      noted : holds_either a s k f ≡ false → Shared (changed_by a (open_read_plan a s k f)) (with_reading s k f) k f
      noted e = record {
        active = w.act.active.on;
        file = rw (changed_table (open_read_plan a s k f) a) w.file.high;
        free = open_read_frees w e;
      }

  -- Commit and abort: k's holds have ended, and every other client's is as it was.
  ended_reads : (k : ℕ) → MayAct a s k → (c : Call) → ((g : ℕ) → opens_file c g ≡ false) → let s' = without_reader (set_active s k false) k in
      (j g : ℕ) → Reader s' j g → Shared (changed_by a (plan a s c)) s' j g
  ended_reads k w c shut j g x = by_equal j k
      (λ e. no_both _ (rw e at x.on) (without_reader_lem (set_active s k false) k w.active.low words w.active.high g))
      (λ n.
      let y : Reader s j g = was x (reading_other (set_active s k false) k w.active.low 0 j g x.low n ∙ active_reading s k false j g) in
      let r : Shared a s j g = w.ready.reads j g y in
      stays _ (plan a s c) r (set_other s k j false w.active.low x.low n ∙ r.active) (plan_keeps a s g c (shut g)))

  pub returned_reads : (c : Call) → Allowed a s c
      → (j g : ℕ) → Reader (session_after a s c) j g → Shared (changed_by a (plan a s c)) (session_after a s c) j g
  returned_reads (begin k) w = begin_reads k w
  returned_reads (open_file k f) w = open_reads k f w
  returned_reads (open_read k f) w = open_read_reads k f w
  returned_reads (write k f p d) w = λ j g x.
      let r : Shared a s j g = w.place.act.ready.reads j g x in
      stays s (plan a s (write k f p d)) r r.active (plan_keeps a s g (write k f p d) refl)
  returned_reads (commit k) w = ended_reads k w (commit k) (λ g. refl)
  returned_reads (abort k) w = ended_reads k w (abort k) (λ g. refl)
