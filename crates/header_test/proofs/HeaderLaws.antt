-- A header as the code tests it is a header that `sound` asks for: `header_fits` begins with the map, and that the map has all
-- pages follows from the length of the sector. The set that the map left has the map's slots, so a slot that is not in the
-- set is not in the map.
use mathlib.Core.Path.{◌≡◌, refl, sym, ap, ◌∙◌, subst}
use mathlib.Core.Bool.{Bool, true, false, not, ◌&&◌, ◌||◌, and_assoc, and-true, and-false}
use mathlib.Core.Logic.{◌≢◌}
use mathlib.Core.List.{List, [], ◌∷◌}
use Prim.Native.Nat.{ℕ, ◌-◌, ◌≤◌, ◌<◌}
use native.Mathlib.Omega.{arith}
use borrow.Author.Tests.{eq-eqb, ne_eqb, le-leb, lt-leb, lt-ltb, le-ltb}
use lib.Dec.{eqb, leb, ltb}
use lib.ListN.{length}
use Rattle.std.specs.Prelude.{Some, None}
use Rattle.lists.specs.Lists.{all, every, member}
use Rattle.sector.specs.Contents.{Bytes, File, Table, Record, Header, is_idle}
use Rattle.sector.specs.Entries.{for_file}
use Rattle.sector.specs.Decoding.{clients_in, file_count_in, header_sector_in, file_in, state_in, holder_in, decode_table, decode_record, decode_header}
use Rattle.sector.specs.Sectors.{sector}
use Rattle.sector.proofs.CodecLaws.{decoded_map}
use Rattle.sector.proofs.SectorLaws.{sector_length}
use Rattle.lists.proofs.TestLaws.{all_no}
use Rattle.volume.specs.Places.{record_place, header_place}
use Rattle.volume.specs.Lawful.{holder_fits, header_fits}
use Rattle.volume.specs.Volumes.{Volume, bytes_at, record_in}
use Rattle.volume.proofs.PlaceLaws.{is_client_lem}
use Rattle.byteset.specs.declared.BitSet.{BitSet}
use Rattle.byteset.specs.Set.{no_bytes, has_byte, with_byte, Holds}
use Rattle.byteset.proofs.SetLaws.{has_none, length_with}
use Rattle.sector.specs.Encoded.{is_header_encoding}
use Rattle.header_test.specs.Header.{map_fits, Scanned, slots_apart, holder_test, header_sound}
use Rattle.header_test.specs.Tested.{Tested}
use Rattle.table_test.proofs.DecodingLaws.{file_is}
use Rattle.table_test.proofs.TableLaws.{clients_are}
use Rattle.record_test.proofs.RecordLaws.{state_in_lem}
use Rattle.byteset.proofs.WalkLaws.{Walk, walk_none, walk_seen, walk_more, walk_done}

-- ------------------------------------------------------------------ the map, as `map_fits` tests it
-- Of the map m the slots before `left` are tested, and are in the set.
pub record MapLeft (R : ℕ) (m left s : List ℕ) : Type 0 where
  pub low : every (λ r. ltb r R) m ≡ every (λ r. ltb r R) left
  pub walk : Walk m s left
  pub words : length s ≡ 4

pub map_all : (R : ℕ) (m : List ℕ) → MapLeft R m m no_bytes
map_all R m = record { low = refl; walk = walk_none m no_bytes has_none; words = refl }

module _ {R : ℕ} {m left s : List ℕ} (l : MapLeft R m left s) (r : ℕ) (rest : List ℕ) (next : left ≡ r ∷ rest) where
  here : MapLeft R m (r ∷ rest) s
  here = subst (λ (xs : List ℕ). MapLeft R m xs s) next l

  pub slot_high : R ≤ r → Scanned R m None
  unfolding map_fits
  slot_high h = record { tells = sym (rw (here.low, le-ltb r R h)); holds = tt }

  pub slot_twice : not (has_byte s r) ≡ false → Scanned R m None
  unfolding map_fits
  slot_twice e = record { tells = sym (rw (walk_seen _ _ here.walk e) (and-false (every (λ r. ltb r R) m))); holds = tt }

  pub map_more : r < R → not (has_byte s r) ≡ true → r < 256 → MapLeft R m rest (with_byte s r)
  map_more h e byte = record {
    low = here.low ∙ rw (lt-ltb r R h);
    walk = walk_more _ _ here.walk e (omega (arith, l.words));
    words = length_with s r ∙ l.words;
  }

pub map_done : {R : ℕ} {m : List ℕ} (s : BitSet 4) → MapLeft R m [] s.words → Scanned R m (Some s)
unfolding map_fits
map_done s l = record { tells = sym (rw l.low (walk_done l.walk).0); holds = (walk_done l.walk).1 }

-- ------------------------------------------------------------------ the holder
-- As `holder_fits` tests it, of n clients.
module _ (v : Volume) (tb : Bytes) (k f : ℕ) (s : List ℕ) (n : ℕ) (q : n ≡ clients_in tb) where
  pub holder_none : k ≡ 0 → holder_test (decode_table tb) v k f s ≡ true
  unfolding holder_test
  holder_none e = rw (eq-eqb k 0 e)

  module _ (some : k ≢ 0) where
    pub holder_high : n < k → holder_test (decode_table tb) v k f s ≡ false
    unfolding holder_test
    holder_high h = rw (ne_eqb k 0 some, clients_are tb, ← q) (all_no _ 0 (lt-leb k n h))

    pub holder_last : k ≤ n → (d : Bytes) → d ≡ bytes_at (decode_table tb) v (record_place k)
        → (not (eqb (state_in d) 0) && slots_apart f s (decode_record d).entries) ≡ holder_test (decode_table tb) v k f s
    unfolding holder_test record_in all
    holder_last h d at =
        rw (ne_eqb k 0 some, is_client_lem (decode_table tb) k (omega (arith, some)) (rw (clients_are tb, ← q) h), ← at)
        (rw (clients_are tb, ← q, le-leb k n h, state_in_lem d) (ap (λ (b : Bool). not (eqb (state_in d) 0) && b) (sym (and-true _))))

holder_is : (t : Table) (v : Volume) (k f : ℕ) (s m : List ℕ) → Holds s m
    → holder_test t v k f s ≡ (eqb k 0 || holder_fits (record_in t (bytes_at t v)) t f (record { holder = k; map = m }))
unfolding holder_test
holder_is t v k f s m hs =
    let r : Record = record_in t (bytes_at t v) k in
    let has_is : has_byte s ≡ (λ (y : ℕ). member y m) = λ i y. hs y i in
    ap (λ (has : ℕ → Bool). eqb k 0 || all (leb k t.clients ∷ not (is_idle r) ∷ every (λ e. not (for_file f e && has e.slot)) r.entries ∷ [])) has_is

-- ------------------------------------------------------------------ the whole header, as `header_is_sound` tests it
-- d is the sector of file f's header.
module _ (v : Volume) (tb : Bytes) (f : ℕ) (lo : 1 ≤ f) (hi : f ≤ file_count_in tb) (d : Bytes)
    (at : d ≡ bytes_at (decode_table tb) v (header_place f)) where
  sound_is : header_sound (decode_table tb) v f
      ≡ (is_header_encoding (file_in tb (f - 1)) d && header_fits (record_in (decode_table tb) (bytes_at (decode_table tb) v)) (decode_table tb) f (decode_header (file_in tb (f - 1)) d))
  unfolding header_sound
  sound_is = rw (← at, file_is tb f lo hi)

  pub no_header_lem : is_header_encoding (file_in tb (f - 1)) d ≡ false → header_sound (decode_table tb) v f ≡ false
  no_header_lem e = sound_is ∙ rw e

  module _ (ok : is_header_encoding (file_in tb (f - 1)) d ≡ true) (len : length d ≡ 256) (few : (file_in tb (f - 1)).pages ≤ 120) where
    parts_lem : header_sound (decode_table tb) v f
        ≡ (map_fits (file_in tb (f - 1)).slots (decode_header (file_in tb (f - 1)) d).map
        && (eqb (decode_header (file_in tb (f - 1)) d).holder 0
        || holder_fits (record_in (decode_table tb) (bytes_at (decode_table tb) v)) (decode_table tb) f (decode_header (file_in tb (f - 1)) d)))
    unfolding map_fits all
    parts_lem =
        let count : eqb (length (decode_header (file_in tb (f - 1)) d).map) (file_in tb (f - 1)).pages ≡ true =
        eq-eqb _ _ (decoded_map (file_in tb (f - 1)) d len (omega arith)) in
        sound_is ∙ rw (ok, file_is tb f lo hi, count) (simp (and_assoc, and-true))

    pub map_no_lem : map_fits (file_in tb (f - 1)).slots (decode_header (file_in tb (f - 1)) d).map ≡ false → header_sound (decode_table tb) v f ≡ false
    map_no_lem e = parts_lem ∙ rw e

    pub header_last_lem : map_fits (file_in tb (f - 1)).slots (decode_header (file_in tb (f - 1)) d).map ≡ true
        → (s : List ℕ) → Holds s (decode_header (file_in tb (f - 1)) d).map
        → holder_test (decode_table tb) v (holder_in d) f s ≡ header_sound (decode_table tb) v f
    unfolding decode_header
    header_last_lem e s hs = holder_is (decode_table tb) v (holder_in d) f s (decode_header (file_in tb (f - 1)) d).map hs ∙ sym (parts_lem ∙ rw e)

-- It is found by the table, where all but the headers has been tested.
module _ {v : Volume} {tb : Bytes} (tested : Tested v tb) (f : ℕ) (lo : 1 ≤ f) (hi : f ≤ file_count_in tb) {i s : ℕ} (same : i ≡ f)
    (place : s ≡ header_sector_in tb (i - 1)) {d : Bytes} (read : d ≡ sector v s) where
  abbrev t : Table
  t = decode_table tb

  abbrev x : File
  x = file_in tb (i - 1)

  abbrev h : Header
  h = decode_header x d

  at : d ≡ bytes_at t v (header_place f)
  at = read ∙ ap (sector v) (place ∙ rw same (tested.header_is f lo hi))

  pub no_header : is_header_encoding x d ≡ false → header_sound t v f ≡ false
  no_header e = no_header_lem v tb f lo hi d at (rw same at e)

  module _ (ok : is_header_encoding x d ≡ true) where
    ok_here : is_header_encoding (file_in tb (f - 1)) d ≡ true
    ok_here = rw same at ok

    len : length d ≡ 256
    len = rw read (sector_length v s (rw (place, same) (tested.headers f lo hi)))

    few : (file_in tb (f - 1)).pages ≤ 120
    few = tested.pages f lo hi

    pub map_no : map_fits x.slots h.map ≡ false → header_sound t v f ≡ false
    map_no e = map_no_lem v tb f lo hi d at ok_here len few (rw same at e)

    pub header_last : map_fits x.slots h.map ≡ true → (s : List ℕ) → Holds s h.map → holder_test t v (holder_in d) f s ≡ header_sound t v f
    header_last e s hs = header_last_lem v tb f lo hi d at ok_here len few (rw same at e) s (rw same at hs)
