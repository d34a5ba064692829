-- What the three tests of format's definition say where all of them hold.
use mathlib.Core.Path.{◌≡◌}
use mathlib.Core.Bool.{true}
use Prim.Native.Nat.{ℕ, ◌+◌, ◌*◌, ◌/◌, ◌%◌, ◌≤◌}
use native.Mathlib.Omega.{arith}
use borrow.Author.Tests.{eqb-true, leb-true}
use lib.Dec.{eqb}
use lib.ListN.{length}
use Rattle.sector.specs.Layout.{sector_limit, file_limit}
use Rattle.sector.specs.Contents.{Bytes}
use Rattle.sector.specs.Shapes.{files_of}
use Rattle.lists.proofs.ListLaws.{all_at, and_left, and_right, between_true}
use Rattle.volume.specs.Format.{length_fits, shape_fits, end_fits, table_for}
use Rattle.volume.proofs.PlaceLaws.{end_low}
use Rattle.format.specs.Requests.{Fits}

module _ (n T : ℕ) (l : Bytes) where
  pub shape_short : shape_fits T l ≡ true → length l ≤ 2 * file_limit
  unfolding shape_fits
  shape_short e = (between_true 2 (length l) (2 * file_limit) (all_at _ 2 e)).1

  -- Any list with these files can be laid out.
  pub fits : (x : Bytes) → files_of x ≡ files_of l → length_fits n ≡ true → shape_fits T l ≡ true → end_fits n T l ≡ true → Fits n T x
  unfolding length_fits shape_fits end_fits
  fits x same a b c =
      let whole : n % 256 ≡ 0 = eqb-true (n % 256) 0 (and_left (eqb (n % 256) 0) _ a) in
      let few : n / 256 ≤ sector_limit = leb-true (n / 256) sector_limit (and_right (eqb (n % 256) 0) _ a) in
      record { size = omega arith; small = omega arith; files = rw same (all_at _ 3 b); ends = rw same (leb-true _ _ c) }

  -- There is room for the table and the records.
  pub fits_room : Fits n T l → 256 * T + 256 ≤ n
  fits_room f = omega (arith, end_low (table_for n T l), f.size, f.ends)
