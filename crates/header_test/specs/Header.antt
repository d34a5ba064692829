-- A file header: what `sound` asks of it, and the parts of that as a program tests them.
use Rattle.std.specs.Prelude.{◌≡◌, Bool, not, ◌&&◌, ◌||◌, List, [], ◌∷◌, ℕ, eqb, leb, ltb, Option, IfSome}
use Rattle.std.specs.Option.{is_some}
use Rattle.lists.specs.Lists.{all, every, distinct}
use Rattle.sector.specs.Contents.{Table, Entry, is_idle}
use Rattle.sector.specs.Entries.{for_file}
use Rattle.sector.specs.Decoding.{decode_header}
use Rattle.volume.specs.Places.{file_at, header_place}
use Rattle.volume.specs.Lawful.{header_fits}
use Rattle.volume.specs.Volumes.{Volume, bytes_at, record_in}
use Rattle.byteset.specs.declared.BitSet.{BitSet}
use Rattle.byteset.specs.Set.{has_byte, Holds}
use Rattle.sector.specs.Encoded.{is_header_encoding}

-- The slots of the map are below R and distinct.
unfoldable pub map_fits : ℕ → List ℕ → Bool
map_fits R m = every (λ r. ltb r R) m && distinct eqb m

-- What that test gives: where it holds, the slots of the map m in a set.
pub record Scanned (R : ℕ) (m : List ℕ) (seen : Option (BitSet 4)) : Type 0 where
  pub tells : is_some seen ≡ map_fits R m
  pub holds : IfSome seen (λ s. Holds s.words m)

-- The entry is for another file than f, or gives a slot that is not in the set s.
abbrev pub slot_apart : ℕ → List ℕ → Entry → Bool
slot_apart f s e = not (for_file f e && has_byte s e.slot)

-- Every entry is so.
abbrev pub slots_apart : ℕ → List ℕ → List Entry → Bool
slots_apart f s es = every (slot_apart f s) es

-- Client k may hold file f, whose map has the slots in the set s; or k is 0, nobody.
unfoldable pub holder_test : Table → Volume → ℕ → ℕ → List ℕ → Bool
holder_test t v k f s =
    eqb k 0
    || all (leb k t.clients
    ∷ not (is_idle (record_in t (bytes_at t v) k))
    ∷ slots_apart f s (record_in t (bytes_at t v) k).entries
    ∷ [])

-- What `sound` asks of file f's header.
unfoldable pub header_sound : Table → Volume → ℕ → Bool
header_sound t v f =
    is_header_encoding (file_at t f) (bytes_at t v (header_place f))
    && header_fits (record_in t (bytes_at t v)) t f (decode_header (file_at t f) (bytes_at t v (header_place f)))
