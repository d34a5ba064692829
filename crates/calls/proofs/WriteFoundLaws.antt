-- What the tests of write found, taken apart, and what its stores rely on: the entry that the record has, or the slot chosen
-- for a new one. The answer is one of three cases; the other two are another constructor's.
use mathlib.Core.Path.{◌≡◌, refl, sym, subst}
use mathlib.Core.Option.{Option, none, some}
use Prim.Native.Nat.{ℕ, zero, suc, ◌<◌}
use lib.ListN.{length}
use Rattle.std.specs.Prelude.{Ok}
use Rattle.interface.specs.declared.Session.{Session}
use Rattle.lists.specs.Lists.{first}
use Rattle.sector.specs.Contents.{Bytes}
use Rattle.sector.specs.declared.layout.Entry.{Entry}
use Rattle.volume.specs.Places.{IsFile, file_at}
use Rattle.volume.specs.Volumes.{Volume, view}
use Rattle.volume.specs.Sound.{sound}
use Rattle.rules.specs.Plans.{entry_for, chosen, write}
use Rattle.rules.specs.Refusals.{tests}
use Rattle.rules.proofs.CallLaws.{passed}
use Rattle.transaction.specs.Tested.{NewPage}
use Rattle.transaction.proofs.TestedLaws.{old_slot, new_page}
use Rattle.checks.specs.declared.Target.{Target}
use Rattle.checks.specs.Writes.{refused_by, again, new, answer_by, write_found}

-- ------------------------------------------------------------------ the three answers
pub refused_by_lem : (m n : ℕ) (o : Option Entry) (r : ℕ) → refused_by m ≡ answer_by n o r → m ≡ n
refused_by_lem m zero (some e) r h = cc
refused_by_lem m zero none r h = cc
refused_by_lem m (suc n) o r h = cc

-- The page has an entry, with this slot.
pub record AgainAt (n : ℕ) (o : Option Entry) (q : ℕ) : Type 0 where
  pub accepted : 0 ≡ n
  pub entry : Entry
  pub found : o ≡ some entry
  pub slot : entry.slot ≡ q

pub again_at : (q n : ℕ) (o : Option Entry) (r : ℕ) → again q ≡ answer_by n o r → AgainAt n o q
again_at q zero (some e) r h = record { accepted = refl; entry = e; found = refl; slot = cc }
again_at q zero none r h = absurd (cc)
again_at q (suc n) o r h = absurd (cc)

-- The page has none, and a new one takes this slot.
pub record NewAt (n : ℕ) (o : Option Entry) (r q : ℕ) : Type 0 where
  pub accepted : 0 ≡ n
  pub absent : o ≡ none
  pub slot : q ≡ r

pub new_at : (q n : ℕ) (o : Option Entry) (r : ℕ) → new q ≡ answer_by n o r → NewAt n o r q
new_at q zero none r h = record { accepted = refl; absent = refl; slot = cc }
new_at q zero (some e) r h = absurd (cc)
new_at q (suc n) o r h = absurd (cc)

-- A page that goes somewhere is one that no test refused.
pub goes : (t : Target) (n : ℕ) (o : Option Entry) (r : ℕ) → write_found (Ok t) ≡ answer_by n o r → 0 ≡ n
goes (Target.Again q) n o r h = (again_at q n o r h).accepted
goes (Target.New q) n o r h = (new_at q n o r h).accepted

-- ------------------------------------------------------------------ what the stores rely on
module _ (v : Volume) (s : Session) (k f p : ℕ) (d : Bytes) (e : 0 ≡ first (tests (sound v) (view v) s (write k f p d))) where
  pub writes_file : IsFile (view v).table f × (length d ≡ 256)
  writes_file = let w = (passed v s (write k f p d) (sym e)).allowed in (w.place.file, w.size)

  pub again_below : (x : Entry) → entry_for (view v) k f p ≡ some x → x.slot < (file_at (view v).table f).slots
  again_below x found = old_slot (passed v s (write k f p d) (sym e)).allowed x found

  pub new_below : (q : ℕ) → entry_for (view v) k f p ≡ none → q ≡ chosen (view v) k f p → NewPage (view v) k f p q
  new_below q absent slot =
      subst (λ (r : ℕ). NewPage (view v) k f p r) (sym slot) (new_page (passed v s (write k f p d) (sym e)).allowed absent)
