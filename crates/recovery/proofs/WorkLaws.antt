-- The updates of recovery by the record's state.
use mathlib.Core.Path.{◌≡◌}
use mathlib.Core.Bool.{true, false}
use mathlib.Core.List.{[]}
use Prim.Native.Nat.{ℕ}
use Rattle.sector.specs.Contents.{is_idle}
use Rattle.volume.specs.Views.{View}
use Rattle.rules.specs.Recovery.{is_decided, recovery}
use Rattle.recovery.specs.Work.{recovery_now}

module _ (a : View) (k : ℕ) where
  pub now_idle : (a.records k).state ≡ 0 → recovery_now a k ≡ []
  unfolding recovery_now
  now_idle e = rw e

  pub now_open : (a.records k).state ≡ 1 → recovery_now a k ≡ recovery false a k
  unfolding recovery_now
  now_open e = rw e

  pub now_decided : (a.records k).state ≡ 2 → recovery_now a k ≡ recovery true a k
  unfolding recovery_now
  now_decided e = rw e

  -- A record that isn't idle.
  pub now_live : is_idle (a.records k) ≡ false → recovery_now a k ≡ recovery (is_decided a k) a k
  unfolding recovery_now
  now_live e = rw e
