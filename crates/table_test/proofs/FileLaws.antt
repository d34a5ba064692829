-- The walk over the table's files, as `files_are_sound` makes it: what is left of them decides whether all are sound, and where they
-- end.
use mathlib.Core.Path.{◌≡◌, ◌∙◌}
use mathlib.Core.Bool.{true, false}
use mathlib.Core.List.{List}
use mathlib.Core.Logic.{◌≢◌}
use Prim.Native.Nat.{ℕ, ◌+◌, ◌-◌, ◌≤◌, ◌<◌}
use lib.Dec.{leb}
use lib.ListN.{drop}
use Rattle.lists.specs.Lists.{every}
use Rattle.lists.proofs.TestLaws.{all_no, all_last, every_more, every_fails, final, ◌then◌}
use Rattle.sector.specs.Layout.{item_offset}
use Rattle.sector.specs.Contents.{Bytes, File}
use Rattle.sector.specs.Sectors.{byte}
use Rattle.sector.specs.Decoding.{sectors_in, file_count_in, header_sector_in, file_in, decode_table}
use Rattle.sector.specs.Encoded.{headers_follow, headers_in}
use Rattle.sector.proofs.RecognizeLaws.{follow_more, follow_fails, follow_done}
use Rattle.volume.specs.Places.{sector_after}
use Rattle.volume.specs.Lawful.{file_fits}
use Rattle.table_test.specs.Table.{files_sound}
use Rattle.table_test.proofs.DecodingLaws.{next_file, no_file_lem}

abbrev files : Bytes → List File
files d = (decode_table d).files

-- The files before i are sound, and the next one's header is sector h.
pub record FilesLeft (d : Bytes) (first h i : ℕ) : Type 0 where
  pub headers : headers_in first d ≡ headers_follow (file_count_in d - i) h (drop (item_offset i) d)
  pub fits : every file_fits (files d) ≡ every file_fits (drop i (files d))
  pub ends : sector_after first (files d) ≡ sector_after h (drop i (files d))

module _ {d : Bytes} {first h i : ℕ} (left : FilesLeft d first h i) where
  module _ (lt : i < file_count_in d) where
    module _ (small : byte d (item_offset i) < 256) where
      pub files_elsewhere : header_sector_in d i ≢ h → files_sound first d ≡ false
      unfolding files_sound
      files_elsewhere e = all_no _ 0 (follow_fails d _ (file_count_in d) h i left.headers lt small e)

      pub files_more : header_sector_in d i ≡ h → file_fits (file_in d i) ≡ true → FilesLeft d first (h + 1 + (file_in d i).slots) (i + 1)
      unfolding sector_after
      files_more e f = record {
        headers = follow_more d _ (file_count_in d) h i left.headers lt small e;
        fits = every_more (files d) i _ (next_file d i lt) _ file_fits f left.fits;
        ends = left.ends ∙ rw (next_file d i lt);
      }

    pub files_unfit : file_fits (file_in d i) ≡ false → files_sound first d ≡ false
    unfolding files_sound
    files_unfit f = all_no _ 1 (every_fails (files d) i _ (next_file d i lt) _ file_fits f left.fits)

  pub files_done : file_count_in d ≤ i → files_sound first d ≡ leb h (sectors_in d)
  unfolding files_sound sector_after
  files_done le =
      let ends : sector_after first (files d) ≡ h = left.ends ∙ rw (no_file_lem d i le) in
      let fit : every file_fits (files d) ≡ true = left.fits ∙ rw (no_file_lem d i le) in
      rw ends (all_last (follow_done d _ (file_count_in d) h i left.headers le then fit then final))
