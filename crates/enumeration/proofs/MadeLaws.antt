-- A candidate as it is made: the layout of the small shape is the volume of an idle record and a new header, and each store puts
-- another one in its sector.
use mathlib.Core.Path.{◌≡◌, refl, sym, ap, ◌∙◌}
use mathlib.Core.List.{[], ◌∷◌}
use Prim.Native.Nat.{ℕ, ◌/◌, ◌%◌, ◌≤◌, ◌<◌}
use native.Mathlib.Omega.{arith}
use lib.ListN.{length, get_or}
use Rattle.std.specs.Prelude.{Result, Ok, Err, ⊤}
use Rattle.std.specs.Result.{IsOk}
use Rattle.interface.specs.declared.Refusal.{Refusal}
use Rattle.format.specs.Outcomes.{formatted}
use Rattle.lists.specs.Lists.{all, first}
use Rattle.sector.specs.Layout.{items_room, entry_limit}
use Rattle.sector.specs.Contents.{Record, Header, idle_record, new_header}
use Rattle.sector.specs.Sectors.{store_at, zero_sector}
use Rattle.sector.specs.Encoding.{encode_table, encode_record, encode_header}
use Rattle.sector.specs.Shapes.{files_of}
use Rattle.sector.proofs.SectorLaws.{store_part, store_behind}
use Rattle.volume.proofs.FormatLaws.{rest, new_volume_lem}
use Rattle.sector.proofs.CodecLaws.{table_length, record_length, header_length}
use Rattle.volume.specs.Places.{sector_after}
use Rattle.volume.specs.Views.{no_header, set_record, set_header}
use Rattle.volume.specs.Volumes.{Volume}
use Rattle.volume.specs.Stores.{updated}
use Rattle.volume.specs.Assembled.{file_owners, owners, joined}
use Rattle.volume.specs.Format.{length_fits, shape_fits, end_fits, format_tests, new_volume, Formatted, format}
use Rattle.enumeration.specs.Choices.{small_file, small_table, record_choices, header_choices}
use Rattle.enumeration.specs.Small.{small_volume, candidates}
use Rattle.enumeration.proofs.ChoiceLaws.{candidates_count, list_few, record_at, candidate_at}

-- ------------------------------------------------------------------ the layout
new_small : new_volume small_table ≡ small_volume idle_record (new_header small_file)
unfolding small_volume owners file_owners joined rest sector_after zero_sector
new_small = new_volume_lem small_table

pub laid_out : (v : Volume) (f : Formatted) → length v ≡ 1536 → f ≡ format v 1 (2 ∷ 3 ∷ []) → f.volume ≡ small_volume idle_record (new_header small_file)
unfolding format format_tests length_fits shape_fits end_fits all first files_of sector_after
laid_out v f size e = ap (λ (f : Formatted). f.volume) e ∙ rw size new_small

-- It isn't refused.
pub laid_ok : (v w : Volume) (r : Result ⊤ Refusal) → length v ≡ 1536 → formatted r w ≡ format v 1 (2 ∷ 3 ∷ []) → IsOk r
unfolding format format_tests length_fits shape_fits end_fits all first files_of sector_after
laid_ok v w (Ok _) size e = refl
laid_ok v w (Err x) size e = let answer = rw size at (ap (λ (f : Formatted). f.answer) e) in absurd (cc)

-- ------------------------------------------------------------------ the stores
table_full : length (encode_table small_table) ≡ 256
table_full = table_length small_table (omega arith)

record_stored : (r₀ r : Record) (h : Header) → length r₀.entries ≤ entry_limit → store_at (small_volume r₀ h) 1 (encode_record r) ≡ small_volume r h
unfolding small_volume owners file_owners joined
record_stored r₀ r h few = store_part (encode_table small_table) (encode_record r₀) _ (encode_record r) 1 table_full (record_length r₀ few)

header_stored : (r : Record) (h₀ h : Header) → length r.entries ≤ entry_limit → length h₀.map ≤ items_room
    → store_at (small_volume r h₀) 2 (encode_header small_file h) ≡ small_volume r h
unfolding small_volume owners file_owners joined
header_stored r h₀ h few size =
    store_behind (encode_table small_table) (encode_record r) (encode_header small_file h₀) _ (encode_header small_file h) 2
    (omega (arith, table_full, record_length r few)) (header_length small_file h₀ size)

-- The layout, with record i / 18 and then header i % 18 stored, is candidate i.
pub candidate_made : (u v w : Volume) (i : ℕ) → i < length candidates → u ≡ small_volume idle_record (new_header small_file)
    → v ≡ updated small_table u (set_record 1 (get_or record_choices (i / 18) idle_record))
    → w ≡ updated small_table v (set_header 1 (get_or header_choices (i % 18) no_header)) → w ≡ get_or candidates i []
unfolding sector_after
candidate_made u v w i lt e d c =
    let r : Record = get_or record_choices (i / 18) idle_record in
    let low : i < 2322 = rw candidates_count at lt in
    let few : length r.entries ≤ 2 = rw (record_at (i / 18) (omega arith)) (list_few (i / 18 % 43) (omega arith)) in
    rw (c, d, e, record_stored idle_record r (new_header small_file) (omega arith), header_stored r (new_header small_file) (get_or header_choices (i % 18) no_header) (omega arith) (omega arith))
    (sym (candidate_at i low))
