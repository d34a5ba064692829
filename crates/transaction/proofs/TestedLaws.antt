-- What the stores of a call require, from the tests of the call: none of them held.
use mathlib.Core.Path.{◌≡◌, refl}
use mathlib.Core.Bool.{true}
use mathlib.Core.Logic.{◌≢◌}
use mathlib.Core.Option.{none, some}
use Prim.Native.Nat.{ℕ, ◌<◌}
use native.Mathlib.Omega.{arith}
use borrow.Author.Tests.{eqb-false}
use lib.ListN.{length}
use Rattle.interface.specs.declared.Session.{Session}
use Rattle.sector.specs.Contents.{Bytes, Entry}
use Rattle.volume.specs.Places.{IsClient, file_at}
use Rattle.volume.specs.Views.{View}
use Rattle.volume.specs.Lawful.{header_fits}
use Rattle.volume.proofs.LawfulLaws.{entry_facts, header_fits_lem}
use Rattle.rules.specs.Plans.{entry_for, chosen}
use Rattle.rules.proofs.AllowedLaws.{MayBegin, MayAct, MayOpenRead, MayWrite, own_record}
use Rattle.rules.proofs.ChoiceLaws.{chosen_free}
use Rattle.transaction.specs.Tested.{NewPage}

module _ {a : View} {s : Session} {k : ℕ} where
  pub begin_client : MayBegin a s k → IsClient a.table k
  begin_client w = record { low = w.low; high = w.high }

  pub act_client : MayAct a s k → IsClient a.table k
  act_client w = record { low = w.active.low; high = w.running.client }

  pub open_header : {f : ℕ} → MayOpenRead a s k f → header_fits a.records a.table f (a.headers f) ≡ true
  open_header {f} w = header_fits_lem a.table a.records f (a.headers f) (w.act.ready.laws.headers f w.file)

  module _ {f p : ℕ} {d : Bytes} (w : MayWrite a s k f p d) where
    pub old_slot : (e : Entry) → entry_for a k f p ≡ some e → e.slot < (file_at a.table f).slots
    old_slot e found = (entry_facts (own_record w.place.act) f p e found).slot

    pub new_page : entry_for a k f p ≡ none → NewPage a k f p (chosen a k f p)
    new_page absent =
        let spare : length (a.records k).entries ≢ 62 = eqb-false _ _ (rw absent at w.few) in
        record {
          client = act_client w.place.act;
          file = w.place.file;
          absent = absent;
          choice = refl;
          below = (chosen_free a k f p (rw absent at w.room)).below;
          room = omega (arith, (own_record w.place.act).few);
        }
