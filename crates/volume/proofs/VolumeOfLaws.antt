-- The volume of a view: each place holds the encoding of what the view has for it. So its view is that view, wherever the table
-- has something, and it is sound just if that view is lawful. And a well-formed volume is the volume of its own view.
use mathlib.Core.Path.{◌≡◌, refl, sym, ap, ◌∙◌, subst}
use mathlib.Core.Bool.{true}
use Prim.Native.Nat.{ℕ, ◌+◌, ◌*◌, ◌≤◌, ◌<◌}
use native.Mathlib.Omega.{arith}
use lib.ListN.{length, drop}
use Rattle.lists.proofs.ListLaws.{same_refl}
use Rattle.lists.proofs.TestLaws.{iff}
use Rattle.sector.specs.Layout.{items_room, entry_limit}
use Rattle.sector.specs.Contents.{Bytes, Table, Record}
use Rattle.sector.specs.Encoding.{encode_table}
use Rattle.sector.specs.Decoding.{decode_table, decode_record}
use Rattle.sector.proofs.CodecLaws.{table_back, table_length, record_back, record_length, header_back, header_length}
use Rattle.volume.specs.Places.{file_at, end_sector, Place, table_place, record_place, header_place, slot_place}
use Rattle.volume.specs.Views.{View}
use Rattle.volume.specs.Lawful.{record_fits, lawful}
use Rattle.volume.specs.Volumes.{Volume, bytes_at, view}
use Rattle.volume.specs.Sound.{sound}
use Rattle.volume.specs.WellFormed.{WellFormed}
use Rattle.volume.specs.Assembled.{bytes_for, volume_of}
use Rattle.volume.proofs.PlaceLaws.{IsFile, Exists}
use Rattle.volume.proofs.AccessLaws.{table_is, record_is, header_is, slot_is}
use Rattle.volume.proofs.LawfulLaws.{HolderFacts, HeaderFacts, Lawful, lawful_facts, facts_lawful}
use Rattle.volume.proofs.CanonicalLaws.{is_encoding, Encoded, record_encoding, header_encoding}
use Rattle.volume.proofs.WellFormedLaws.{lawful_fitting, formed_by}
use Rattle.volume.proofs.SoundLaws.{sound_lawful, fine_sound}
use Rattle.volume.proofs.AssembledLaws.{assembled_bytes, assembled_length, assembled_same, assembled_back}

-- What the view has for each place fills its sector and no more.
pub record Sized (a : View) : Type 0 where
  pub files : length a.table.files ≤ entry_limit
  pub entries : (k : ℕ) → 1 ≤ k → k ≤ a.table.clients → length (a.records k).entries ≤ entry_limit
  pub maps : (f : ℕ) → IsFile a.table f → length (a.headers f).map ≡ (file_at a.table f).pages
  pub pages : (f : ℕ) → IsFile a.table f → (file_at a.table f).pages ≤ items_room
  pub slots : (f r : ℕ) → IsFile a.table f → r < (file_at a.table f).slots → length (a.slots f r) ≡ 256

-- ------------------------------------------------------------------ lawful views
-- Views that have the same, wherever the table has something.
record Alike (t : Table) (a b : View) : Type 0 where
  records : (k : ℕ) → 1 ≤ k → k ≤ t.clients → a.records k ≡ b.records k
  headers : (f : ℕ) → IsFile t f → a.headers f ≡ b.headers f

-- Both are lawful or neither is.
lawful_alike : {t : Table} {a b : View} → Alike t a b → Lawful t a → Lawful t b
lawful_alike {t} {a} {b} e l = record {
  table = l.table;
  records = λ k lo hi. subst (λ (r : Record). record_fits t r ≡ true) (e.records k lo hi) (l.records k lo hi);
  headers = λ f i. subst (HeaderFacts t b.records f) (e.headers f i) (record {
    map = (l.headers f i).map;
    holder = λ n.
        let h = (l.headers f i).holder n in
        subst (λ (r : Record). HolderFacts t r f (a.headers f)) (e.records (a.headers f).holder (omega arith) h.client) h;
  });
}

module _ (a : View) (sized : Sized a) (rest : Bytes) where
  -- ------------------------------------------------------------------ what stands in each place
  full : (p : Place) → Exists a.table p → length (bytes_for a p) ≡ 256
  full table_place e = table_length a.table sized.files
  full (record_place k) e = record_length (a.records k) (sized.entries k e.0 e.1)
  full (header_place f) i = header_length (file_at a.table f) (a.headers f) (omega (arith, sized.maps f i, sized.pages f i))
  full (slot_place f r) e = sized.slots f r e.0 e.1

  of_bytes : (p : Place) → Exists a.table p → bytes_at a.table (volume_of a rest) p ≡ bytes_for a p
  of_bytes p e = assembled_bytes a.table (bytes_for a) full rest p e

  pub of_length : length (volume_of a rest) ≡ 256 * end_sector a.table + length rest
  of_length = assembled_length a.table (bytes_for a) full rest

  -- ------------------------------------------------------------------ its view
  pub of_table : (view (volume_of a rest)).table ≡ a.table
  of_table = table_is (volume_of a rest) ∙ ap decode_table (of_bytes table_place tt) ∙ table_back a.table

  pub of_record : (k : ℕ) → 1 ≤ k → k ≤ a.table.clients → (view (volume_of a rest)).records k ≡ a.records k
  of_record k lo hi =
      record_is (volume_of a rest) k lo (rw of_table hi) ∙ ap decode_record (of_bytes (record_place k) (lo, hi)) ∙ record_back (a.records k)

  pub of_header : (f : ℕ) → IsFile a.table f → (view (volume_of a rest)).headers f ≡ a.headers f
  of_header f i =
      header_is (volume_of a rest) f (rw of_table i)
      ∙ rw (of_table, of_bytes (header_place f) i) (header_back (file_at a.table f) (a.headers f) (sized.maps f i))

  pub of_slot : (f r : ℕ) → IsFile a.table f → r < (file_at a.table f).slots → (view (volume_of a rest)).slots f r ≡ a.slots f r
  of_slot f r i lt = slot_is (volume_of a rest) f r (rw of_table i) (rw of_table lt) ∙ rw of_table (of_bytes (slot_place f r) (i, lt))

  -- ------------------------------------------------------------------ it is sound just if its view is lawful
  of_encoded : Encoded a.table (bytes_at a.table (volume_of a rest))
  of_encoded p e = ap (is_encoding a.table p) (of_bytes p e) ∙ go p e
    where
      go : (p : Place) → Exists a.table p → is_encoding a.table p (bytes_for a p) ≡ true
      go table_place e = same_refl (encode_table a.table)
      go (record_place k) e = record_encoding (a.records k)
      go (header_place f) i = header_encoding a.table f (a.headers f) (sized.maps f i)
      go (slot_place f r) e = refl

  lawful_of : lawful a ≡ true → Lawful (view (volume_of a rest)).table (view (volume_of a rest))
  lawful_of ok = subst (λ t. Lawful t (view (volume_of a rest))) (sym of_table)
      (lawful_alike (record { records = λ k lo hi. sym (of_record k lo hi); headers = λ f i. sym (of_header f i) }) (lawful_facts a ok))

  of_lawful : lawful (view (volume_of a rest)) ≡ true → lawful a ≡ true
  of_lawful ok = facts_lawful a.table a refl
      (lawful_alike (record { records = of_record; headers = of_header })
      (subst (λ t. Lawful t (view (volume_of a rest))) of_table (lawful_facts (view (volume_of a rest)) ok)))

  pub of_sound : 256 * end_sector a.table + length rest ≡ 256 * a.table.sectors → sound (volume_of a rest) ≡ lawful a
  of_sound size =
      let v : Volume = volume_of a rest in
      iff _ _ (λ ok. of_lawful (sound_lawful v ok))
      (λ ok.
      let l = lawful_of ok in
      fine_sound v (record {
        laws = l;
        formed = formed_by v (rw of_table (record { size = of_length ∙ size; ends = omega arith })) (rw of_table of_encoded) (lawful_fitting l);
      }))

-- ------------------------------------------------------------------ a well-formed volume
pub volume_back : (v : Volume) → WellFormed v → volume_of (view v) (drop (256 * end_sector (view v).table) v) ≡ v
volume_back v formed =
    assembled_same (view v).table (bytes_for (view v)) (bytes_at (view v).table v) same (drop (256 * end_sector (view v).table) v)
    ∙ assembled_back (view v).table v
  where
    same : (p : Place) → Exists (view v).table p → bytes_for (view v) p ≡ bytes_at (view v).table v p
    same table_place e = sym formed.tabled.table
    same (record_place k) e = sym (formed.record_bytes k e.0 e.1)
    same (header_place f) i = sym (formed.header_bytes f i.low i.high)
    same (slot_place f r) e = slot_is v f r e.0 e.1
