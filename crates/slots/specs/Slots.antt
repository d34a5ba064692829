-- What a search for a slot found.
use Rattle.std.proofs.Math.Option.{Option, none, some}
use Rattle.std.specs.Prelude.{ℕ, Some, None}
use Rattle.std.specs.Prelude as code
use Rattle.sector.specs.Contents.{Entry}

-- The slot, if there is one: the program's `Option` as the definitions' one.
abbrev pub slot_of : code.Option ℕ → Option ℕ
slot_of (Some r) = some r
slot_of None = none

-- The slot of an entry that was found.
unfoldable pub entry_slot : Option Entry → Option ℕ
entry_slot none = none
entry_slot (some e) = some e.slot
