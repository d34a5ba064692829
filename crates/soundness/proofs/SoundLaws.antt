-- The code's tests of a volume, one sector after the other, are together what `sound` asks for; and what each of them gives to
-- those after it.
-- `sound` takes the numbers of every record and header first and their bytes then, over the view; the code takes both together,
-- sector by sector. Each way is a walk over the same numbers of clients and files, where the view's record and header are the
-- ones read from their sectors.
use mathlib.Core.Path.{◌≡◌, refl, sym, ◌∙◌}
use mathlib.Core.Bool.{Bool, true, false, ◌&&◌}
use mathlib.Core.List.{[], ◌∷◌}
use Prim.Native.Nat.{ℕ, ◌+◌, ◌*◌, ◌-◌, ◌<◌, ◌≤◌}
use native.Mathlib.Omega.{arith}
use borrow.Author.Tests.{eqb-true, eq-eqb, le-leb, lt-leb}
use lib.Dec.{eqb, leb}
use lib.ListN.{length}
use Rattle.lists.specs.Lists.{all, every, from}
use Rattle.sector.specs.Contents.{Bytes, Table}
use Rattle.sector.specs.Sectors.{sector}
use Rattle.sector.specs.Decoding.{sectors_in, clients_in, file_count_in, header_sector_in, decode_table}
use Rattle.lists.proofs.ListLaws.{and_left, and_right, and_both, all_at, every_from}
use Rattle.lists.proofs.TestLaws.{iff, all_no, all_of, all_last, every_both, none, ◌also◌, final, ◌then◌}
use Rattle.sector.proofs.CodecLaws.{decoded_files}
use Rattle.volume.specs.Places.{client_numbers, file_numbers, file_at, header_sector, end_sector, Place, record_place, header_place}
use Rattle.volume.specs.Lawful.{table_fits, record_fits, header_fits, lawful}
use Rattle.volume.specs.Volumes.{Volume, table_of, bytes_at, record_in, header_in, view}
use Rattle.volume.specs.Sound.{encoded, canonical, sound, table_sound_in}
use Rattle.volume.proofs.PlaceLaws.{IsFile, is_client_lem, is_file_lem, end_low, file_ends}
use Rattle.volume.proofs.LawfulLaws.{file_facts}
use Rattle.sector.specs.Encoded.{is_table_encoding, is_record_encoding, is_header_encoding}
use Rattle.table_test.specs.Table.{table_sound}
use Rattle.record_test.specs.Record.{record_sound, record_sound_in}
use Rattle.header_test.specs.Header.{header_sound}
use Rattle.header_test.specs.Tested.{Tested}
use Rattle.table_test.proofs.DecodingLaws.{file_is}
use Rattle.table_test.proofs.TableLaws.{sectors_are, clients_are, facts, is_table, header_in_lem}
use Rattle.record_test.proofs.RecordLaws.{few_files, sound_count}

-- The tests of the length and of sector 0, tb, in order.
unfoldable pub table_test : Volume → Bytes → Bool
table_test v tb = all (leb 256 (length v) ∷ table_sound tb ∷ eqb (length v) (256 * sectors_in tb) ∷ [])

-- The tests of a volume whose sector 0 is tb, in order.
unfoldable pub sound_test : Volume → Bytes → Bool
sound_test v tb = all
    (table_sound_in v
    ∷ every (record_sound_in (decode_table tb) v) (from 1 (clients_in tb))
    ∷ every (header_sound (decode_table tb) v) (from 1 (file_count_in tb))
    ∷ [])

-- ------------------------------------------------------------------ what the tests of the table and of the length give
module _ (v tb : Bytes) (ok : table_sound tb ≡ true) (sized : length v ≡ 256 * sectors_in tb) where
  abbrev t : Table
  t = decode_table tb

  pub few_clients : clients_in tb ≤ 4
  few_clients = rw (clients_are tb) at (facts tb ok).four

  ends : end_sector t ≤ sectors_in tb
  ends = rw (sectors_are tb) at (facts tb ok).ends

  pub records_inside : 256 * clients_in tb + 256 ≤ length v
  records_inside = omega (arith, end_low t, clients_are tb, ends, sized)

  -- With the records tested too, all that the tests of the headers ask for.
  pub tested : every (record_sound_in t v) (from 1 (clients_in tb)) ≡ true → Tested v tb
  tested e = record {
    clients = few_clients;
    files = few_files tb ok;
    short = omega (arith, (facts tb ok).size, sectors_are tb, sized);
    records = records_inside;
    headers = λ f lo hi. omega (arith, header_is f lo hi, file_ends t f (is f lo hi), ends, sized);
    header_is = header_is;
    pages = λ f lo hi. rw (file_is tb f lo hi) at (file_facts (facts tb ok) f (is f lo hi)).few;
    slots = λ f lo hi. rw (file_is tb f lo hi) at (file_facts (facts tb ok) f (is f lo hi)).room;
    counts = λ k lo hi. sound_count t _ (every_from (record_sound_in t v) (clients_in tb) 1 e k lo (omega arith));
  }
    where
      is : (f : ℕ) → 1 ≤ f → f ≤ file_count_in tb → IsFile t f
      is f lo hi = record { low = lo; high = rw (decoded_files tb) hi }

      header_is : (f : ℕ) → 1 ≤ f → f ≤ file_count_in tb → header_sector_in tb (f - 1) ≡ header_sector t f
      header_is = header_in_lem tb (is_table tb ok)

-- ------------------------------------------------------------------ the length and sector 0
-- What these tests have shown.
pub record TableTested (v : Volume) (tb : Bytes) : Type 0 where
  pub long : 256 ≤ length v
  pub table : table_sound tb ≡ true
  pub size : length v ≡ 256 * sectors_in tb

module _ (v : Volume) (tb : Bytes) (q : tb ≡ sector v 0) where
  -- `table_sound_in`, about tb.
  abbrev table_parts : Bool
  table_parts = all (table_fits (decode_table tb) ∷ eqb (length v) (256 * (decode_table tb).sectors) ∷ is_table_encoding tb ∷ [])

  pub table_parts_lem : table_sound_in v ≡ table_parts
  unfolding table_sound_in table_of
  table_parts_lem = rw q

  pub table_tested : table_sound_in v ≡ true → TableTested v tb
  unfolding table_sound
  table_tested e =
      let p : table_parts ≡ true = sym table_parts_lem ∙ e in
      let table : table_sound tb ≡ true = and_both (is_table_encoding tb) _ (all_at _ 2 p) (all_at _ 0 p) in
      let size : eqb (length v) (256 * sectors_in tb) ≡ true = rw (← sectors_are tb) (all_at _ 1 p) in
      let sized : length v ≡ 256 * sectors_in tb = eqb-true _ _ size in
      record { long = omega (arith, records_inside v tb table sized); table = table; size = sized }

  tested_table : table_test v tb ≡ true → table_sound_in v ≡ true
  unfolding table_test table_sound
  tested_table e =
      let table : (is_table_encoding tb && table_fits (decode_table tb)) ≡ true = all_at _ 1 e in
      table_parts_lem ∙ all_of (and_right (is_table_encoding tb) _ table also rw (sectors_are tb) (all_at _ 2 e) also and_left (is_table_encoding tb) _ table also none)

  table_is : table_sound_in v ≡ table_test v tb
  unfolding table_test
  table_is = iff _ _ (λ e. let k = table_tested e in all_of (le-leb 256 (length v) k.long also k.table also eq-eqb _ _ k.size also none)) tested_table

  -- Test by test, as `table_is_sound_in` makes them.
  pub table_no : table_sound tb ≡ false → table_sound_in v ≡ false
  unfolding table_test
  table_no e = table_is ∙ all_no _ 1 e

  pub table_last : 256 ≤ length v → table_sound tb ≡ true → eqb (length v) (256 * sectors_in tb) ≡ table_sound_in v
  unfolding table_test
  table_last long table = sym (table_is ∙ all_last (le-leb 256 (length v) long then table then final))

pub short_no : (v : Volume) → length v < 256 → table_sound_in v ≡ false
unfolding table_test
short_no v h = table_is v (sector v 0) refl ∙ all_no _ 0 (lt-leb 256 (length v) h)

-- ------------------------------------------------------------------ sound
module _ (v : Volume) (tb : Bytes) (q : tb ≡ sector v 0) where
  abbrev t0 : Table
  t0 = decode_table tb

  abbrev places : Place → Bytes
  places = bytes_at t0 v

  -- The bytes of every record and of every header, and what they say.
  abbrev record_bytes : Bool
  record_bytes = every (λ k. is_record_encoding (places (record_place k))) (client_numbers t0)

  abbrev record_numbers : Bool
  record_numbers = every (λ k. record_fits t0 (record_in t0 places k)) (client_numbers t0)

  abbrev header_bytes : Bool
  header_bytes = every (λ f. is_header_encoding (file_at t0 f) (places (header_place f))) (file_numbers t0)

  abbrev header_numbers : Bool
  header_numbers = every (λ f. header_fits (record_in t0 places) t0 f (header_in t0 places f)) (file_numbers t0)

  -- `sound`, with its tests in this order.
  abbrev parts : Bool
  parts = all
      (all (table_fits t0 ∷ record_numbers ∷ header_numbers ∷ [])
      ∷ all (eqb (length v) (256 * t0.sectors) ∷ all (is_table_encoding tb ∷ record_bytes ∷ header_bytes ∷ []) ∷ [])
      ∷ [])

  parts_are : sound v ≡ parts
  unfolding sound lawful view table_of canonical encoded
  parts_are = rw q

  -- The code tests bytes and numbers of a record together, and those of a header.
  records_are : every (record_sound_in t0 v) (from 1 (clients_in tb)) ≡ (record_bytes && record_numbers)
  unfolding record_sound record_in
  records_are = rw (← clients_are tb) (every_both _ _ _ t0.clients 1 (λ k lo hi. rw (is_client_lem t0 k lo (omega arith))))

  headers_are : every (header_sound t0 v) (from 1 (file_count_in tb)) ≡ (header_bytes && header_numbers)
  unfolding header_sound header_in
  headers_are =
      rw (← decoded_files tb)
      (every_both _ _ _ (length t0.files) 1 (λ f lo hi. rw (is_file_lem t0 f (record { low = lo; high = omega arith }))))

  sound_to : sound_test v tb ≡ true → parts ≡ true
  unfolding sound_test
  sound_to e =
      let table : table_parts v tb q ≡ true = sym (table_parts_lem v tb q) ∙ all_at _ 0 e in
      let recs : (record_bytes && record_numbers) ≡ true = sym records_are ∙ all_at _ 1 e in
      let heads : (header_bytes && header_numbers) ≡ true = sym headers_are ∙ all_at _ 2 e in
      all_of
      (all_of (all_at _ 0 table also and_right record_bytes _ recs also and_right header_bytes _ heads also none)
      also all_of (all_at _ 1 table
      also all_of (all_at _ 2 table also and_left record_bytes _ recs also and_left header_bytes _ heads also none) also none)
      also none)

  sound_from : parts ≡ true → sound_test v tb ≡ true
  unfolding sound_test
  sound_from e =
      let law : all (table_fits t0 ∷ record_numbers ∷ header_numbers ∷ []) ≡ true = all_at _ 0 e in
      let sized : all (eqb (length v) (256 * t0.sectors) ∷ all (is_table_encoding tb ∷ record_bytes ∷ header_bytes ∷ []) ∷ []) ≡ true = all_at _ 1 e in
      let bytes : all (is_table_encoding tb ∷ record_bytes ∷ header_bytes ∷ []) ≡ true = all_at _ 1 sized in
      let table : table_parts v tb q ≡ true = all_of (all_at _ 0 law also all_at _ 0 sized also all_at _ 0 bytes also none) in
      let recs : (record_bytes && record_numbers) ≡ true = and_both record_bytes _ (all_at _ 1 bytes) (all_at _ 1 law) in
      let heads : (header_bytes && header_numbers) ≡ true = and_both header_bytes _ (all_at _ 2 bytes) (all_at _ 2 law) in
      all_of (table_parts_lem v tb q ∙ table also records_are ∙ recs also headers_are ∙ heads also none)

  sound_is : sound v ≡ sound_test v tb
  sound_is = parts_are ∙ iff _ _ sound_from sound_to

  -- ------------------------------------------------------------------ test by test, as `is_sound` makes them
  pub records_no : every (record_sound_in t0 v) (from 1 (clients_in tb)) ≡ false → sound v ≡ false
  unfolding sound_test
  records_no e = sound_is ∙ all_no _ 1 e

  pub sound_last : table_sound_in v ≡ true → every (record_sound_in t0 v) (from 1 (clients_in tb)) ≡ true
      → every (header_sound t0 v) (from 1 (file_count_in tb)) ≡ sound v
  unfolding sound_test
  sound_last table recs = sym (sound_is ∙ all_last (table then recs then final))

pub table_unsound : (v : Volume) → table_sound_in v ≡ false → sound v ≡ false
unfolding sound_test
table_unsound v e = sound_is v (sector v 0) refl ∙ all_no _ 0 e
