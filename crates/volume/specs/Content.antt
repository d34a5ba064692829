-- Decided content, the paper's term, and the map that a file is left by recovery.
use Rattle.std.specs.Prelude.{Bool, not, ◌&&◌, List, ℕ, eqb, get_or}
use Rattle.lists.specs.Lists.{when◌then◌else◌}
use Rattle.sector.specs.Contents.{Bytes, is_decided_record}
use Rattle.sector.specs.Entries.{redone}
use Rattle.volume.specs.Views.{View}

-- Record k is decided.
abbrev pub is_decided : View → ℕ → Bool
is_decided a k = is_decided_record (a.records k)

-- The map that recovery of k leaves to file f: redone "if the record is decided", else as it is. Commit redoes a record that
-- was open when the call began, so whether to redo is told.
abbrev pub map_after : (redo : Bool) → View → ℕ → ℕ → List ℕ
map_after redo a k f = when redo then redone f (a.records k).entries (a.headers f).map else (a.headers f).map

-- File f's map, "changed by its entries in record k if the header names k and k is decided".
abbrev pub decided_map : View → ℕ → List ℕ
decided_map a f =
    let k = (a.headers f).holder in
    map_after (not (eqb k 0) && is_decided a k) a k f

-- The slot of its page p: "by the map" so changed.
abbrev pub decided_slot : View → ℕ → ℕ → ℕ
decided_slot a f p = get_or (decided_map a f) p 0

-- The decided content of that page.
abbrev pub decided_content : View → ℕ → ℕ → Bytes
decided_content a f p = a.slots f (decided_slot a f p)
