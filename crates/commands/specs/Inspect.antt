-- The lines that are passed over, those that set or show the session, and those that look at the volume or change it by hand.
use Rattle.std.specs.Prelude.{Bool, true, false, ◌&&◌, [], ◌∷◌, ℕ, ◌/◌, eqb, ltb, length, set, Option, Some, None}
use Rattle.interface.specs.declared.Session.{Session}
use Rattle.interface.specs.Answers.{none_reading, session_of, CountAnswer}
use Rattle.lists.specs.Lists.{when◌then◌else◌, between}
use Rattle.sector.specs.Contents.{Bytes}
use Rattle.sector.specs.Sectors.{sector}
use Rattle.volume.specs.Volumes.{Volume}
use Rattle.rules.specs.Sessions.{is_reading, with_reading}
use Rattle.rules.specs.Spare.{spare}
use Rattle.script.specs.Fields.{argument}
use Rattle.commands.specs.Lines.{byte_argument}

-- "Empty lines and lines that begin with `#` are skipped."
abbrev pub is_remark : Bytes → Bool
is_remark [] = true
is_remark (c ∷ l) = eqb c 0x23

-- `session M`: client k is marked where bit k − 1 of M is set, "without reading holds".
abbrev pub session_set : Bytes → Session
session_set l = session_of (byte_argument 1 l) none_reading

-- A session has room for a reading hold of this client and file: "K 1 to 4, F 1 to 16".
abbrev pub is_hold : (client : ℕ) → (file : ℕ) → Bool
is_hold k f = between 1 k 4 && between 1 f 16

-- `reading K F`: "the session gets that reading hold", if there is room for it.
unfoldable pub reading_added : Session → Bytes → Option Session
reading_added s l =
    when is_hold (byte_argument 1 l) (byte_argument 2 l)
    then Some (with_reading s (byte_argument 1 l) (byte_argument 2 l))
    else None

-- `session` has a line for this client and file: the client holds the file for reading.
abbrev pub shows_hold : Session → (client : ℕ) → (file : ℕ) → Bool
shows_hold s k f = is_hold k f && is_reading s k f

-- `spare F`: M-104's question about that file.
abbrev pub spare_asked : Volume → Bytes → CountAnswer
spare_asked v l = spare v (byte_argument 1 l)

-- Whether the place is in the volume, and the volume afterwards.
pub record Poked : Type 0 where
  pub is_inside : Bool
  pub volume : Volume

-- `poke ADDRESS BYTE`: "one byte of the volume"
unfoldable pub poked : Volume → Bytes → Poked
poked v l =
    when ltb (argument 1 l) (length v) then record { is_inside = true; volume = set v (argument 1 l) (byte_argument 2 l) }
    else record { is_inside = false; volume = v }

-- `dump S`: sector S; nothing if it isn't in the volume.
unfoldable pub dumped : Volume → Bytes → Option Bytes
dumped v l = when ltb (argument 1 l) (length v / 256) then Some (sector v (argument 1 l)) else None
