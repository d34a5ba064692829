-- What the tests of a write have established before its stores.
use Rattle.std.specs.Prelude.{◌≡◌, ℕ, ◌<◌, length}
use Rattle.std.proofs.Math.Option.{none}
use Rattle.sector.specs.Layout.{entry_limit}
use Rattle.volume.specs.Places.{IsClient, IsFile, file_at}
use Rattle.volume.specs.Views.{View}
use Rattle.rules.specs.Plans.{entry_for, chosen}

-- Page p of file f has no entry of client k yet. Its slot is the one chosen, one of the file's, and the record has room.
pub record NewPage (a : View) (k f p slot : ℕ) : Type 0 where
  pub client : IsClient a.table k
  pub file : IsFile a.table f
  pub absent : entry_for a k f p ≡ none
  pub choice : slot ≡ chosen a k f p
  pub below : slot < (file_at a.table f).slots
  pub room : length (a.records k).entries < entry_limit
