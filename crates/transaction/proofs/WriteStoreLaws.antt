-- Write's updates: the page in the slot of its entry, or in the chosen slot and then the record with the entry appended. The
-- record is the same after the page is stored.
use mathlib.Core.Path.{◌≡◌, ap}
use mathlib.Core.List.{[], ◌∷◌, ◌++◌}
use mathlib.Core.Option.{some}
use Prim.Native.Nat.{ℕ, ◌<◌}
use lib.ListN.{length}
use Rattle.std.specs.Prelude.{Result, Ok, Err}
use Rattle.std.specs.Result.{IsErrAnd}
use Rattle.interface.specs.declared.Session.{Session}
use Rattle.sector.specs.Contents.{Bytes, Entry, appended}
use Rattle.volume.specs.Places.{IsClient}
use Rattle.volume.specs.Views.{View, set_record, set_slot}
use Rattle.volume.specs.Volumes.{Volume, view}
use Rattle.volume.specs.WellFormed.{WellFormed}
use Rattle.rules.specs.Plans.{write, entry_for, plan}
use Rattle.stores.specs.declared.Run.{Run}
use Rattle.stores.specs.declared.Crashed.{Crashed}
use Rattle.stores.specs.Runs.{UpdatesMade, AllMade}
use Rattle.stores.proofs.MadeLaws.{all_table, all_one, made_more, made_cut}
use Rattle.transaction.specs.Tested.{NewPage}

pub again_plan : (a : View) (s : Session) (k f p slot : ℕ) (d : Bytes) (e : Entry) → entry_for a k f p ≡ some e → e.slot ≡ slot
    → plan a s (write k f p d) ≡ set_slot f slot d ∷ []
unfolding plan
again_plan a s k f p slot d e found same = rw (found, same)

new_plan : (a : View) (s : Session) (k f p slot : ℕ) (d : Bytes) → NewPage a k f p slot
    → plan a s (write k f p d) ≡ (set_slot f slot d ∷ []) ++ (set_record k (appended (a.records k) (record { file = f; page = p; slot = slot })) ∷ [])
unfolding plan
new_plan a s k f p slot d new = rw (new.absent, new.choice)

module _ {v : Volume} (formed : WellFormed v) {k f p slot : ℕ} (new : NewPage (view v) k f p slot) {d : Bytes}
    {w : Volume} {r : Run} where
  -- The supply fails at the page.
  pub write_cut : {q : Result Run Crashed} {c : Crashed} → IsErrAnd q (λ x. x ≡ c) → UpdatesMade v (Ok r) (set_slot f slot d ∷ []) w (Err c)
      → (s : Session) → UpdatesMade v (Ok r) (plan (view v) s (write k f p d)) w q
  write_cut i m s = rw (new_plan (view v) s k f p slot d new) (made_cut _ i m)

  module _ (size : length d ≡ 256) {q : Run} (m : UpdatesMade v (Ok r) (set_slot f slot d ∷ []) w (Ok q)) where
    written : AllMade v (set_slot f slot d ∷ []) w
    written = all_one _ formed (new.file, new.below, size) m

    same : (view w).records k ≡ (view v).records k
    same = ap (λ (a : View). a.records k) written.seen

    pub written_formed : WellFormed w × IsClient (view w).table k × (length ((view w).records k).entries < 62)
    written_formed = (written.formed, rw (all_table _ written) new.client, rw same new.room)

    pub write_more : {u : Volume} {z : Result Run Crashed}
        → UpdatesMade w (Ok q) (set_record k (appended ((view w).records k) (record { file = f; page = p; slot = slot })) ∷ []) u z
        → (s : Session) → UpdatesMade v (Ok r) (plan (view v) s (write k f p d)) u z
    write_more n s = rw (new_plan (view v) s k f p slot d new) (made_more m (all_table _ written) (rw same at n))
