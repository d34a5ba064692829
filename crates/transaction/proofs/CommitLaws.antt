-- Commit and abort by recovery. Once the record is decided, recovery by the record's state redoes it, as commit's plan says of
-- the view before; while it is open, recovery undoes it.
use mathlib.Core.Path.{◌≡◌, refl, ap, ◌∙◌}
use mathlib.Core.Bool.{true}
use mathlib.Core.List.{List, [], ◌∷◌}
use Prim.Native.Nat.{ℕ}
use borrow.Author.Tests.{eq-eqb}
use Rattle.std.specs.Prelude.{Result, Ok, Err}
use Rattle.std.specs.Result.{IsErrAnd}
use Rattle.interface.specs.declared.Session.{Session}
use Rattle.sector.specs.Contents.{decided_record}
use Rattle.volume.specs.Places.{IsClient}
use Rattle.volume.specs.Views.{View, Update, set_record}
use Rattle.volume.specs.Volumes.{Volume, view}
use Rattle.volume.specs.WellFormed.{WellFormed}
use Rattle.volume.proofs.LawfulLaws.{RecordFacts, record_facts, decided_fits}
use Rattle.rules.specs.Recovery.{recovery}
use Rattle.rules.specs.Plans.{commit, abort, plan}
use Rattle.rules.proofs.RecoveryLaws.{decided_view, recovery_decided}
use Rattle.stores.specs.declared.Run.{Run}
use Rattle.stores.specs.declared.Crashed.{Crashed}
use Rattle.stores.specs.Runs.{UpdatesMade, AllMade}
use Rattle.stores.proofs.MadeLaws.{all_table, all_one, made_more, made_cut}
use Rattle.recovery.specs.Work.{recovery_now}
use Rattle.recovery.proofs.WorkLaws.{now_open, now_decided}

decided_now : (a : View) (k : ℕ) → recovery_now (decided_view a k) k ≡ recovery true a k
decided_now a k = now_decided (decided_view a k) k (rw (eq-eqb k k refl)) ∙ rw (recovery_decided a k, eq-eqb k k refl)

-- The first store of commit.
abbrev deciding : View → ℕ → List Update
deciding a k = set_record k (decided_record (a.records k)) ∷ []

-- The supply fails at the record.
pub commit_cut : {v w : Volume} {k : ℕ} {r : Run} {q : Result Run Crashed} {c : Crashed} → IsErrAnd q (λ x. x ≡ c)
    → UpdatesMade v (Ok r) (deciding (view v) k) w (Err c) → (s : Session) → UpdatesMade v (Ok r) (plan (view v) s (commit k)) w q
unfolding plan
commit_cut {v} {k = k} i m s = made_cut (recovery true (view v) k) i m

module _ {v : Volume} (formed : WellFormed v) {k : ℕ} (client : IsClient (view v).table k) {w : Volume} {r q : Run}
    (m : UpdatesMade v (Ok r) (deciding (view v) k) w (Ok q)) where
  decided : AllMade v (deciding (view v) k) w
  decided =
      let facts : RecordFacts (view v).table ((view v).records k) = record_facts (formed.record_fits k client.low client.high) in
      all_one _ formed (client.low, client.high, decided_fits facts) m

  pub decided_formed : WellFormed w × IsClient (view w).table k
  decided_formed = (decided.formed, rw (all_table _ decided) client)

  pub commit_more : {u : Volume} {z : Result Run Crashed} → UpdatesMade w (Ok q) (recovery_now (view w) k) u z
      → (s : Session) → UpdatesMade v (Ok r) (plan (view v) s (commit k)) u z
  unfolding plan
  commit_more n s =
      let same = ap (λ (a : View). recovery_now a k) decided.seen ∙ decided_now (view v) k in
      made_more m (all_table _ decided) (rw same at n)

pub abort_plan : (a : View) (s : Session) (k : ℕ) → (a.records k).state ≡ 1 → plan a s (abort k) ≡ recovery_now a k
unfolding plan
abort_plan a s k e = rw (now_open a k e)
