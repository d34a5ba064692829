-- The volume of a record and a header: its length, its table and its slots; and it is sound just if the record fits, and the header
-- beside it. All of it is what holds of the volume of any view.
use mathlib.Core.Path.{◌≡◌, refl, ◌∙◌}
use mathlib.Core.Bool.{Bool, true, false, ◌&&◌}
use mathlib.Core.List.{[]}
use Prim.Native.Nat.{ℕ, ◌≤◌, ◌<◌}
use native.Mathlib.Omega.{arith}
use lib.ListN.{length}
use Rattle.lists.specs.Lists.{all}
use Rattle.sector.specs.Layout.{entry_limit}
use Rattle.sector.specs.Contents.{Record, Header}
use Rattle.sector.specs.Sectors.{zero_sector}
use Rattle.volume.specs.Places.{IsFile, file_at, sector_after}
use Rattle.volume.specs.Lawful.{record_fits, header_fits, lawful}
use Rattle.volume.specs.Volumes.{view}
use Rattle.volume.specs.Sound.{sound}
use Rattle.volume.proofs.VolumeOfLaws.{Sized, of_length, of_table, of_slot, of_sound}
use Rattle.enumeration.specs.Choices.{small_file, small_table}
use Rattle.enumeration.specs.Small.{small_view, small_volume}

-- The one file.
pub small_file_lem : IsFile small_table 1
small_file_lem = record { low = omega arith; high = omega arith }

file_one : (f : ℕ) → IsFile small_table f → file_at small_table f ≡ small_file
file_one f i = let q : f ≡ 1 = omega (arith, i.low, i.high) in rw q

zero_length : length zero_sector ≡ 256
unfolding zero_sector
zero_length = refl

module _ (r : Record) (h : Header) (few : length r.entries ≤ entry_limit) (size : length h.map ≡ small_file.pages) where
  sized : Sized (small_view r h)
  sized = record {
    files = omega arith;
    entries = λ k lo hi. few;
    maps = λ f i. rw (file_one f i) size;
    pages = λ f i. rw (file_one f i) (omega arith);
    slots = λ f s i lt. zero_length;
  }

  pub small_length : length (small_volume r h) ≡ 1536
  unfolding small_volume sector_after
  small_length = of_length (small_view r h) sized []

  pub small_table_lem : (view (small_volume r h)).table ≡ small_table
  unfolding small_volume
  small_table_lem = of_table (small_view r h) sized []

  pub small_slot : (s : ℕ) → s < small_file.slots → (view (small_volume r h)).slots 1 s ≡ zero_sector
  unfolding small_volume
  small_slot s lt = of_slot (small_view r h) sized [] 1 s small_file_lem lt

  lawful_just : lawful (small_view r h) ≡ (record_fits small_table r && header_fits (λ k. r) small_table 1 h)
  unfolding lawful all sector_after
  lawful_just = drop_true (record_fits small_table r) (header_fits (λ k. r) small_table 1 h)
    where
      drop_true : (a b : Bool) → ((a && true) && ((b && true) && true)) ≡ (a && b)
      drop_true true true = refl
      drop_true true false = refl
      drop_true false b = refl

  pub sound_just : sound (small_volume r h) ≡ (record_fits small_table r && header_fits (λ k. r) small_table 1 h)
  unfolding small_volume sector_after
  sound_just = of_sound (small_view r h) sized [] refl ∙ lawful_just
