-- A reading hold stays over a call that is refused, which hands back the session given, and over one that is done and doesn't end it:
-- what the call changes is another client's word, or the bit of another file, or the hold is noted anew.
use mathlib.Core.Path.{◌≡◌, refl, sym, ◌∙◌}
use mathlib.Core.Bool.{true, false, ◌&&◌}
use mathlib.Core.Logic.{◌≢◌}
use Prim.Native.Nat.{ℕ}
use borrow.Author.Tests.{eqb-false, eq-eqb}
use lib.Dec.{eqb}
use lib.ListN.{length}
use Rattle.interface.specs.declared.Session.{Session}
use Rattle.interface.specs.Answers.{crashed}
use Rattle.lists.proofs.ListLaws.{no_both}
use Rattle.lists.proofs.CaseLaws.{by_equal, if_test}
use Rattle.volume.specs.Views.{View}
use Rattle.volume.specs.Volumes.{Volume, view}
use Rattle.rules.specs.Sessions.{set_active, is_reading, with_reading, without_reading, without_reader, holds_either}
use Rattle.rules.specs.Plans.{Call, begin, open_file, open_read, write, commit, abort, session_after}
use Rattle.rules.specs.Calls.{After, call}
use Rattle.rules.proofs.SessionLaws.{active_reading, reading_other, with_reading_lem, with_reading_other, without_reading_other}
use Rattle.rules.proofs.CallLaws.{call_case}
use Rattle.rules.proofs.AllowedLaws.{Active, Reader, MayOpen, MayOpenRead, Allowed}
use Rattle.atomicity.specs.Readers.{ends_hold}

module _ (s : Session) (words : length s.reading ≡ 4) {k f : ℕ} (x : Reader s k f) where
  -- Commit and abort of another client.
  ended_stays : (j : ℕ) → Active s j → eqb j k ≡ false → is_reading (without_reader (set_active s j false) j) k f ≡ true
  ended_stays j w e =
      reading_other (set_active s j false) j w.low 0 k f x.low (λ q. eqb-false j k e (sym q)) ∙ active_reading s j false k f ∙ x.on

  -- Open for writing, of another file or by another client.
  open_stays : (a : View) (j g : ℕ) → MayOpen a s j g → (eqb j k && eqb g f) ≡ false → is_reading (without_reading s j g) k f ≡ true
  open_stays a j g w e = by_equal k j
      (λ q. by_equal f g (λ z. no_both _ (rw (eq-eqb j k (sym q), eq-eqb g f (sym z))) e)
      (λ n. rw q (without_reading_other s j w.either.act.active.low words w.either.act.active.high g f w.either.file.low x.first n
      ∙ rw q at x.on)))
      (λ n. reading_other s j w.either.act.active.low _ k f x.low n ∙ x.on)

  -- Open for reading.
  open_read_stays : (a : View) (j g : ℕ) → MayOpenRead a s j g → is_reading (session_after a s (open_read j g)) k f ≡ true
  open_read_stays a j g w = if_test (λ (s' : Session). is_reading s' k f ≡ true) (holds_either a s j g) s (with_reading s j g)
      (λ e. x.on)
      (λ e. by_equal k j
      (λ q. by_equal f g (λ z. rw (q, z) (with_reading_lem s j w.act.active.low words w.act.active.high g))
      (λ n. rw q (with_reading_other s j w.act.active.low words w.act.active.high g f w.file.low x.first n ∙ rw q at x.on)))
      (λ n. reading_other s j w.act.active.low _ k f x.low n ∙ x.on))

  done_holds : (a : View) (c : Call) → Allowed a s c → ends_hold k f c ≡ false → is_reading (session_after a s c) k f ≡ true
  done_holds a (begin j) w e = active_reading s j true k f ∙ x.on
  done_holds a (open_file j g) w e = open_stays a j g w e
  done_holds a (open_read j g) w e = open_read_stays a j g w
  done_holds a (write j g p d) w e = x.on
  done_holds a (commit j) w e = ended_stays j w.active e
  done_holds a (abort j) w e = ended_stays j w.active e

  pub holds_stay : (v : Volume) (c : Call) (budget : ℕ) → ends_hold k f c ≡ false → let y = call v s c budget in
      ((n : ℕ) → y.answer ≢ crashed n) → is_reading y.session k f ≡ true
  holds_stay v c budget e = call_case (λ (y : After). ((n : ℕ) → y.answer ≢ crashed n) → is_reading y.session k f ≡ true) v s c budget
      (λ n ok h. x.on) (λ w le h. done_holds (view v) c w.allowed e) (λ w lt h. absurd (h budget refl))
