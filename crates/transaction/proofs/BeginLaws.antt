-- Begin's updates: those of recovery by the record's state, then the open record.
use mathlib.Core.Path.{◌≡◌, refl, ap}
use mathlib.Core.Bool.{Bool, true, false, not}
use mathlib.Core.List.{List, [], ◌∷◌, ◌++◌}
use Prim.Native.Nat.{ℕ}
use Rattle.interface.specs.declared.Session.{Session}
use Rattle.lists.specs.Lists.{when◌then◌else◌}
use Rattle.sector.specs.Contents.{is_idle, open_record}
use Rattle.volume.specs.Views.{View, Update, set_record}
use Rattle.rules.specs.Sessions.{is_active}
use Rattle.rules.specs.Recovery.{is_decided, recovery}
use Rattle.rules.specs.Plans.{begin, begin_plan, plan}
use Rattle.recovery.specs.Work.{recovery_now}

pub begin_plan_lem : (a : View) (s : Session) (k : ℕ) → is_active s k ≡ false
    → plan a s (begin k) ≡ recovery_now a k ++ (set_record k open_record ∷ [])
unfolding plan begin_plan recovery_now
begin_plan_lem a s k off = rw off (ap (λ (l : List Update). l ++ (set_record k open_record ∷ [])) (go (is_idle (a.records k))))
  where
    go : (b : Bool) → (when not b then recovery (is_decided a k) a k else []) ≡ (when b then [] else recovery (is_decided a k) a k)
    go true = refl
    go false = refl
