-- Every small volume is in the list: it is the volume of its own view, so it is that of its record and its header; these fit, and
-- what fits is among the choices.
use mathlib.Core.Path.{◌≡◌, refl, sym, ◌∙◌, subst}
use mathlib.Core.Bool.{true, false, not}
use mathlib.Core.List.Memᴰ
use mathlib.Core.List.{List, [], ◌∷◌}
use mathlib.Core.Logic.{◌≢◌}
use Prim.Native.Nat.{ℕ, ◌*◌, ◌≤◌, ◌<◌}
use native.Mathlib.Omega.{arith}
use borrow.Author.Tests.{leb-true, ltb-true, eqb-false, eq-eqb, not-true}
use lib.Dec.{eqb, ltb}
use lib.ListN.{length, drop, drop_of_length-le}
use Rattle.lists.specs.Lists.{every, any, filter}
use Rattle.lists.proofs.ListLaws.{and_left, and_right, or_none, all_at}
use Rattle.lists.proofs.CaseLaws.{by_equal}
use Rattle.sector.specs.Contents.{Table, Record, Header}
use Rattle.sector.specs.declared.layout.Entry.{Entry}
use Rattle.sector.specs.Entries.{for_page}
use Rattle.volume.specs.Places.{sector_after, end_sector, Place, table_place, record_place, header_place, slot_place, Exists}
use Rattle.volume.specs.Lawful.{entry_fits, pages_differ, record_fits}
use Rattle.volume.specs.Volumes.{Volume, view}
use Rattle.volume.specs.Sound.{sound}
use Rattle.volume.specs.WellFormed.{WellFormed}
use Rattle.volume.specs.Assembled.{assembled, bytes_for}
use Rattle.volume.proofs.LawfulLaws.{RecordFacts, record_facts, HeaderFacts, Lawful}
use Rattle.volume.proofs.SoundLaws.{fine}
use Rattle.volume.proofs.AssembledLaws.{assembled_same}
use Rattle.volume.proofs.VolumeOfLaws.{volume_back}
use Rattle.enumeration.specs.Lists.{In, lists_of}
use Rattle.enumeration.specs.Choices.{small_table, map_values, entry_choices, entry_lists, record_choices, slots_left, map_choices, header_choices}
use Rattle.enumeration.specs.Small.{IsSmall, small_view, small_volume, candidates, small_volumes}
use Rattle.enumeration.specs.Statements.{Complete}
use Rattle.enumeration.proofs.SmallLaws.{small_file_lem}
use Rattle.enumeration.proofs.MemberLaws.{every_in, in_filter, in_flat, in_pairs, in_from, in_lists}

-- ------------------------------------------------------------------ entries
module _ (e : Entry) (fits : entry_fits small_table e ≡ true) where
  entry_file : e.file ≡ 1
  entry_file = omega (arith, leb-true 1 e.file (all_at _ 0 fits), leb-true e.file 1 (all_at _ 1 fits))

  entry_page : e.page < 2
  entry_page = ltb-true e.page 2 (rw entry_file at (all_at _ 2 fits))

  entry_slot_lem : e.slot < 3
  entry_slot_lem = ltb-true e.slot 3 (rw entry_file at (all_at _ 3 fits))

  entry_in_lem : In e entry_choices
  unfolding entry_choices
  entry_in_lem = Memᴰ.cast (λ i. record { file = entry_file i; page = e.page; slot = e.slot })
      (in_pairs (λ p r. record { file = 1; page = p; slot = r })
      (in_from 2 0 e.page (omega arith) (omega (arith, entry_page))) (in_from 3 0 e.slot (omega arith) (omega (arith, entry_slot_lem))))

-- Entries for other pages.
pages_differ_lem : (e d : Entry) → entry_fits small_table e ≡ true → entry_fits small_table d ≡ true → for_page e.file e.page d ≡ false → d.page ≢ e.page
pages_differ_lem e d p q n =
    eqb-false d.page e.page (rw (eq-eqb d.file e.file (entry_file d q ∙ sym (entry_file e p))) at n)

-- There are no three entries for different pages.
few_entries : (es : List Entry) → every (entry_fits small_table) es ≡ true → pages_differ es ≡ true → length es ≤ 2
few_entries [] fits apart = omega arith
few_entries (a ∷ []) fits apart = omega arith
few_entries (a ∷ b ∷ []) fits apart = omega arith
few_entries (a ∷ b ∷ c ∷ es) fits apart =
    let fa = and_left (entry_fits small_table a) _ fits in
    let more = and_right (entry_fits small_table a) _ fits in
    let fb = and_left (entry_fits small_table b) _ more in
    let fc = and_left (entry_fits small_table c) _ (and_right (entry_fits small_table b) _ more) in
    let na = not-true _ (and_left (not (any (λ d. for_page a.file a.page d) (b ∷ c ∷ es))) _ apart) in
    let ab = or_none (for_page a.file a.page b) _ na in
    let ac = or_none (for_page a.file a.page c) _ ab.1 in
    let rest = and_right (not (any (λ d. for_page a.file a.page d) (b ∷ c ∷ es))) _ apart in
    let nb = not-true _ (and_left (not (any (λ d. for_page b.file b.page d) (c ∷ es))) _ rest) in
    let bc = or_none (for_page b.file b.page c) _ nb in
    absurd (no a.page b.page c.page (entry_page a fa) (entry_page b fb) (entry_page c fc)
    (pages_differ_lem a b fa fb ab.0) (pages_differ_lem a c fa fc ac.0) (pages_differ_lem b c fb fc bc.0))
  where
    no : (x y z : ℕ) → x < 2 → y < 2 → z < 2 → y ≢ x → z ≢ x → z ≢ y → ⊥
    no x y z p q r u v w = omega arith

-- ------------------------------------------------------------------ records and headers
record_in_lem : (r : Record) → record_fits small_table r ≡ true → In r record_choices
unfolding record_choices entry_lists
record_in_lem r fits =
    let h : RecordFacts small_table r = record_facts fits in
    in_pairs (λ s es. record { state = s; entries = es }) (in_from 3 0 r.state (omega arith) (omega (arith, h.state)))
    (in_flat (λ c. lists_of c entry_choices)
    (in_from 3 0 (length r.entries) (omega arith) (omega (arith, few_entries r.entries h.fit h.pages)))
    (in_lists entry_choices r.entries (λ e p. entry_in_lem e (every_in (entry_fits small_table) h.fit p))))

-- A map of two slots.
map_in_lem : (m : List ℕ) → every (λ r. ltb r 3) m ≡ true → length m ≡ 2 → In m map_choices
unfolding map_choices
map_in_lem m below size =
    in_flat (λ n. filter (λ m. eqb (slots_left m) n) (lists_of 2 map_values)) (in_from 4 0 (slots_left m) (omega arith) (omega arith))
    (in_filter (λ (l : List ℕ). eqb (slots_left l) (slots_left m)) (eq-eqb (slots_left m) (slots_left m) refl)
    (rw size at (in_lists map_values m (λ r p. in_from 3 0 r (omega arith) (omega (arith, ltb-true r 3 (every_in (λ r. ltb r 3) below p)))))))

header_in_lem : (records : ℕ → Record) (h : Header) → HeaderFacts small_table records 1 h → In h header_choices
unfolding header_choices
header_in_lem records h facts =
    let holder : h.holder ≤ 1 = by_equal h.holder 0 (λ e. omega arith) (λ n. (facts.holder n).client) in
    in_pairs (λ k m. record { holder = k; map = m }) (in_from 2 0 h.holder (omega arith) (omega (arith, holder)))
    (map_in_lem h.map facts.map.below facts.map.size)

-- ------------------------------------------------------------------ volumes
module _ (v : Volume) (small : IsSmall v) where
  formed : WellFormed v
  formed = (fine v small.is_sound).formed

  laws : Lawful small_table (view v)
  laws = subst (λ t. Lawful t (view v)) small.table (fine v small.is_sound).laws

  size : length v ≡ 1536
  size = rw small.table at formed.tabled.shaped.size

  -- What the view has for each place is what the small view has.
  same : (p : Place) → Exists small_table p
      → bytes_for (view v) p ≡ bytes_for (small_view ((view v).records 1) ((view v).headers 1)) p
  same table_place e = rw small.table
  same (record_place k) e = let q : k ≡ 1 = omega (arith, e.0, e.1) in rw q
  same (header_place f) i = let q : f ≡ 1 = omega (arith, i.low, i.high) in rw (q, small.table)
  same (slot_place f r) e = let q : f ≡ 1 = omega (arith, e.0.low, e.0.high) in rw q (small.zeros r (rw q at e.1))

  is_volume : v ≡ small_volume ((view v).records 1) ((view v).headers 1)
  unfolding small_volume sector_after
  is_volume =
      let none : drop 1536 v ≡ [] = drop_of_length-le v {i = 1536} (omega (arith, size)) in
      let back = subst (λ (t : Table). assembled t (bytes_for (view v)) (drop (256 * end_sector t) v) ≡ v) small.table (volume_back v formed) in
      sym (rw none at back)
      ∙ assembled_same small_table (bytes_for (view v)) (bytes_for (small_view ((view v).records 1) ((view v).headers 1))) same []

  volume_in : In v candidates
  unfolding candidates
  volume_in = Memᴰ.cast is_volume
      (in_pairs small_volume (record_in_lem ((view v).records 1) (laws.records 1 (omega arith) (omega arith)))
      (header_in_lem (view v).records ((view v).headers 1) (laws.headers 1 small_file_lem)))

pub complete : Complete
unfolding small_volumes
complete v small = in_filter sound small.is_sound (volume_in v small)
