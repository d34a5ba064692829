-- The table as the code tests it is the table that `sound` asks for: `table_fits` begins with the counts; the bytes are a table if
-- the frame is one and each file names the header that follows; and where the last file ends, all ends.
use mathlib.Core.Path.{◌≡◌, refl, ap, ◌∙◌}
use mathlib.Core.Bool.{Bool, true, false, ◌&&◌, and_assoc, and-true, and-false}
use mathlib.Core.List.{[], ◌∷◌}
use Prim.Native.Nat.{ℕ, ◌+◌, ◌-◌, ◌≤◌, ◌<◌}
use native.Mathlib.Omega.{arith}
use lib.Dec.{leb}
use lib.ListN.{length}
use Rattle.lists.specs.Lists.{all, every}
use Rattle.lists.proofs.TestLaws.{all_no, all_last, final, ◌then◌}
use Rattle.sector.specs.Layout.{sectors_offset}
use Rattle.sector.specs.Contents.{Bytes, Table}
use Rattle.sector.specs.Sectors.{byte}
use Rattle.sector.specs.Decoding.{sectors_in, clients_in, file_count_in, header_sector_in, decode_table}
use Rattle.lists.proofs.ListLaws.{and_left, and_right, between_true, all_at, same_equal}
use Rattle.sector.proofs.CodecLaws.{decoded_files}
use Rattle.volume.specs.Places.{header_sector, end_sector}
use Rattle.volume.specs.Lawful.{file_fits, table_fits}
use Rattle.volume.proofs.LawfulLaws.{TableFacts, table_facts}
use Rattle.volume.proofs.TableLaws.{table_header}
use Rattle.sector.specs.Encoded.{is_table_encoding, table_framed, headers_in}
use Rattle.sector.proofs.EncodedLaws.{table_is}
use Rattle.table_test.specs.Table.{counts_fit, table_sound, files_sound}

module _ (d : Bytes) where
  abbrev t : Table
  t = decode_table d

  pub sectors_are : t.sectors ≡ sectors_in d
  unfolding decode_table
  sectors_are = refl

  pub clients_are : t.clients ≡ clients_in d
  unfolding decode_table
  clients_are = refl

  -- What a sound table has.
  pub facts : table_sound d ≡ true → TableFacts t
  unfolding table_sound
  facts ok = table_facts (and_right (is_table_encoding d) _ ok)

  pub is_table : table_sound d ≡ true → is_table_encoding d ≡ true
  unfolding table_sound
  is_table ok = and_left (is_table_encoding d) _ ok

  pub file_count : counts_fit d ≡ true → (1 ≤ file_count_in d) × (file_count_in d ≤ 16)
  unfolding counts_fit
  file_count e = between_true 1 (file_count_in d) 16 (all_at _ 2 e)

  -- ------------------------------------------------------------------ where the headers lie, and where all ends
  module _ (ok : is_table_encoding d ≡ true) where
    pub header_in_lem : (f : ℕ) → 1 ≤ f → f ≤ file_count_in d → header_sector_in d (f - 1) ≡ header_sector t f
    header_in_lem f lo hi = ap (λ (b : Bytes). header_sector_in b (f - 1)) (same_equal d _ ok) ∙ table_header t f lo (rw (decoded_files d) hi)

  -- ------------------------------------------------------------------ test by test, as `table_is_sound` makes them
  abbrev fit : Bool
  fit = every file_fits t.files

  fits_are : table_fits t ≡ (counts_fit d && (fit && leb (end_sector t) (sectors_in d)))
  unfolding counts_fit all
  fits_are = rw (sectors_are, clients_are, decoded_files d) (simp (and_assoc, and-true))

  pub counts_no : counts_fit d ≡ false → table_sound d ≡ false
  unfolding table_sound
  counts_no e = rw (fits_are, e) (and-false (is_table_encoding d))

  module _ (len : length d ≡ 256) (small : byte d sectors_offset < 256) (counts : counts_fit d ≡ true) where
    encoding_is : is_table_encoding d ≡ all (table_framed d ∷ headers_in (clients_in d + 1) d ∷ [])
    encoding_is = table_is d len (omega (arith, file_count counts)) small

    pub frame_no : table_framed d ≡ false → table_sound d ≡ false
    unfolding table_sound
    frame_no e = rw (encoding_is ∙ all_no _ 0 e)

    framed_is : table_framed d ≡ true → is_table_encoding d ≡ headers_in (clients_in d + 1) d
    framed_is e = encoding_is ∙ all_last (e then final)

    pub table_last : table_framed d ≡ true → files_sound (clients_in d + 1) d ≡ table_sound d
    unfolding table_sound files_sound all
    table_last e = rw (framed_is e, fits_are, counts, clients_are) (simp and-true)
