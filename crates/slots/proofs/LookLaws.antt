-- What a look relies on, on a sound volume: its view is lawful, so that who holds a file is a client.
use mathlib.Core.Path.{◌≡◌}
use mathlib.Core.Bool.{true}
use mathlib.Core.Logic.{◌≢◌}
use Prim.Native.Nat.{ℕ}
use native.Mathlib.Omega.{arith}
use Rattle.volume.specs.Places.{IsClient, IsFile}
use Rattle.volume.specs.Volumes.{Volume, view}
use Rattle.volume.specs.Sound.{sound}
use Rattle.volume.proofs.LawfulLaws.{Lawful, lawful_facts}
use Rattle.volume.proofs.SoundLaws.{sound_lawful}

module _ (v : Volume) (ok : sound v ≡ true) where
  pub sound_laws : Lawful (view v).table (view v)
  sound_laws = lawful_facts (view v) (sound_lawful v ok)

  pub holder_client : {f k : ℕ} → IsFile (view v).table f → k ≡ ((view v).headers f).holder → k ≢ 0 → IsClient (view v).table k
  holder_client {f} {k} i e n = record { low = omega arith; high = rw e ((sound_laws.headers f i).holder (rw e at n)).client }
