-- The list's number and its order, evaluated: the records that fit, each with the headers that fit beside it, are the sound candidates.
-- And no volume but a small one is in the list: each is the volume of a record and a header, and sound.
use mathlib.Core.Path.{◌≡◌, refl, ap}
use mathlib.Core.Bool.{true}
use mathlib.Core.List.{List, [], map, flat_map}
use Prim.Native.Nat.{◌≤◌, ◌<◌}
use native.Mathlib.Omega.{arith}
use borrow.Author.Tests.{leb-true, eqb-true}
use lib.Dec.{eqb, leb}
use lib.ListN.{length, get_or, length-map, get_or-map}
use Rattle.lists.specs.Lists.{all, every, filter}
use Rattle.sector.specs.Layout.{entry_limit}
use Rattle.sector.specs.Contents.{Record, Header}
use Rattle.sector.specs.Sectors.{sector, padded, zero_sector}
use Rattle.sector.specs.Encoding.{file_bytes, encode_table, entry_bytes, encode_record, encode_header}
use Rattle.volume.specs.Places.{sector_after}
use Rattle.volume.specs.Lawful.{record_fits, header_fits}
use Rattle.volume.specs.Volumes.{Volume}
use Rattle.volume.specs.Sound.{sound}
use Rattle.volume.specs.Assembled.{file_owners, owners, joined}
use Rattle.enumeration.specs.Lists.{In, lists_of}
use Rattle.enumeration.specs.Choices.{small_file, small_table, entry_choices, entry_lists, record_choices, map_choices, header_choices}
use Rattle.enumeration.specs.Small.{small_volume, candidates, small_volumes}
use Rattle.enumeration.specs.Statements.{Only, order_bytes, InOrder, Once, Counted}
use Rattle.enumeration.proofs.MemberLaws.{every_in, filter_has}
use Rattle.enumeration.proofs.PairLaws.{pairs_case, pairs_filter}
use Rattle.enumeration.proofs.SmallLaws.{small_length, small_table_lem, small_slot, sound_just}
use Rattle.enumeration.proofs.OrderLaws.{not_itself, rising, rising_all}

-- ------------------------------------------------------------------ the choices
records_few : every (λ r. leb (length r.entries) entry_limit) record_choices ≡ true
unfolding flat_map lists_of entry_choices entry_lists record_choices
records_few = refl

record_few : (r : Record) → In r record_choices → length r.entries ≤ entry_limit
record_few r p = leb-true _ _ (every_in (λ r. leb (length r.entries) entry_limit) records_few p)

headers_full : every (λ h. eqb (length h.map) small_file.pages) header_choices ≡ true
unfolding flat_map lists_of map_choices header_choices
headers_full = refl

header_full : (h : Header) → In h header_choices → length h.map ≡ small_file.pages
header_full h p = eqb-true _ _ (every_in (λ h. eqb (length h.map) small_file.pages) headers_full p)

pub candidate_length : (v : Volume) → In v candidates → length v ≡ 1536
unfolding candidates
candidate_length v p = pairs_case small_volume header_choices record_choices p (λ r m h n e. rw e (small_length r h (record_few r m) (header_full h n)))

-- ------------------------------------------------------------------ the volumes that fit
unfoldable pub fitted : List Volume
fitted = flat_map (λ r. map (small_volume r) (filter (header_fits (λ k. r) small_table 1) header_choices)) (filter (record_fits small_table) record_choices)

pub volumes_fitted : small_volumes ≡ fitted
unfolding small_volumes candidates fitted
volumes_fitted = pairs_filter small_volume header_choices sound (record_fits small_table) (λ r h. header_fits (λ k. r) small_table 1 h) record_choices
    (λ r p h q. sound_just r h (record_few r p) (header_full h q))

pub counted : Counted
unfolding all flat_map lists_of entry_choices entry_lists record_choices map_choices header_choices fitted
counted = ap length volumes_fitted

-- ------------------------------------------------------------------ in order, so each once
fitted_rising : rising (map order_bytes fitted) ≡ true
unfolding all flat_map lists_of entry_choices entry_lists record_choices map_choices header_choices fitted small_volume sector padded zero_sector file_bytes encode_table entry_bytes encode_record encode_header file_owners owners joined sector_after
fitted_rising = refl

pub in_order : InOrder
in_order i j lt below =
    let size : length (map order_bytes fitted) ≡ length fitted = length-map fitted order_bytes in
    let here : j < length fitted = rw volumes_fitted at below in
    rw volumes_fitted (rw (get_or-map order_bytes fitted i [], get_or-map order_bytes fitted j []) at
    (rising_all (order_bytes []) (map order_bytes fitted) fitted_rising i j lt (omega arith)))

pub once : Once
once i j lt below e = not_itself (order_bytes (get_or small_volumes j [])) (rw e at (in_order i j lt below))

-- ------------------------------------------------------------------ no other volume
pub only : Only
unfolding small_volumes candidates
only v p =
    let q = filter_has sound candidates p in
    pairs_case small_volume header_choices record_choices q.1
    (λ r m h n e.
    let few = record_few r m in
    let full = header_full h n in
    rw e (record { is_sound = rw e at q.0; table = small_table_lem r h few full; zeros = small_slot r h few full }))
