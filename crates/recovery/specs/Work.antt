-- What recovery has to do: for a client as its record stands, and for one file.
use Rattle.std.specs.Prelude.{Bool, List, [], ◌∷◌, ℕ}
use Rattle.lists.specs.Lists.{when◌then◌else◌}
use Rattle.sector.specs.Contents.{Header, is_idle}
use Rattle.volume.specs.Views.{View, Update, set_header}
use Rattle.rules.specs.Sessions.{holds}
use Rattle.rules.specs.Recovery.{is_decided, map_after, recovery}

-- The updates of recovery by the record's state: none if it is idle, else a redo if it is decided.
unfoldable pub recovery_now : View → ℕ → List Update
recovery_now a k = when is_idle (a.records k) then [] else recovery (is_decided a k) a k

-- The header that recovery of k leaves to file f: held by nobody.
abbrev pub freed : (redo : Bool) → View → ℕ → ℕ → Header
freed redo a k f = record { holder = 0; map = map_after redo a k f }

-- The updates of recovery for file f: that header, if k holds the file.
unfoldable pub release_of : (redo : Bool) → View → ℕ → ℕ → List Update
release_of redo a k f = when holds a k f then set_header f (freed redo a k f) ∷ [] else []
