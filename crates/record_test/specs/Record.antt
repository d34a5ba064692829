-- An intentions record: what `sound` asks of it, and the parts of that as a program tests them.
use Rattle.std.specs.Prelude.{◌≡◌, Bool, not, ◌&&◌, ◌||◌, List, [], ◌∷◌, ℕ, ◌+◌, ◌-◌, ◌≤◌, ◌<◌, eqb}
use Rattle.lists.specs.Lists.{when◌then◌else◌, all, every}
use Rattle.sector.specs.Layout.{idle_state, open_state, decided_state, sector_limit, file_limit}
use Rattle.sector.specs.Contents.{Bytes, Table, Entry}
use Rattle.sector.specs.Decoding.{header_sector_in, decode_record}
use Rattle.volume.specs.Places.{record_place}
use Rattle.volume.specs.Lawful.{entry_fits, pages_differ, slots_differ, record_fits}
use Rattle.volume.specs.Volumes.{Volume, bytes_at}
use Rattle.byteset.specs.Set.{has_byte, with_byte}
use Rattle.sector.specs.Encoded.{is_record_encoding}

-- State s fits c entries: idle has none, open and decided have any number. No other byte is a state.
unfoldable pub state_fits : ℕ → ℕ → Bool
state_fits s c = when eqb s idle_state then eqb c 0 else (eqb s open_state || eqb s decided_state)

-- Each entry fits, and no two are for one page or give one slot.
unfoldable pub entries_fit : Table → List Entry → Bool
entries_fit t es = all (every (entry_fits t) es ∷ pages_differ es ∷ slots_differ es ∷ [])

-- The sector that a number of the entry stands for: that many sectors after the header of the entry's file.
abbrev pub sector_for : Bytes → (Entry → ℕ) → Entry → ℕ
sector_for tb part e = header_sector_in tb (e.file - 1) + part e

-- Of its page.
abbrev pub page_sector : Bytes → Entry → ℕ
page_sector tb e = sector_for tb (λ e. e.page) e

-- Of its slot.
abbrev pub slot_sector : Bytes → Entry → ℕ
slot_sector tb e = sector_for tb (λ e. e.slot) e

-- What an entry that fits has: its file is in range, and so are these two sectors.
pub record InRange (tb : Bytes) (e : Entry) : Type 0 where
  pub low : 1 ≤ e.file
  pub high : e.file ≤ file_limit
  pub page : page_sector tb e < sector_limit
  pub slot : slot_sector tb e < sector_limit

-- The sectors for the entry are put into the two sets. The answer is whether both were absent.
pub record Inserted (tb : Bytes) (e : Entry) (pages slots : List ℕ) (answer : Bool) (pages' slots' : List ℕ) : Type 0 where
  pub tells : answer ≡ (not (has_byte pages (page_sector tb e)) && not (has_byte slots (slot_sector tb e)))
  pub by_page : pages' ≡ with_byte pages (page_sector tb e)
  pub by_slot : slots' ≡ with_byte slots (slot_sector tb e)

-- What `sound` asks of a record.
unfoldable pub record_sound : Table → Bytes → Bool
record_sound t d = is_record_encoding d && record_fits t (decode_record d)

-- What it asks of client k's record.
abbrev pub record_sound_in : Table → Volume → ℕ → Bool
record_sound_in t v k = record_sound t (bytes_at t v (record_place k))
