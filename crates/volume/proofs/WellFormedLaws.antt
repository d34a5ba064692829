-- A sound volume is well formed, and stays so after the first n stores of updates that have their places: encodings stay encodings,
-- so each control sector is the encoding of what the view has for it; and the view is the one with the first n updates made.
use mathlib.Core.Path.{◌≡◌, refl, sym, ap, ◌∙◌, subst}
use mathlib.Core.Bool.{true}
use mathlib.Core.List.{List, [], ◌∷◌}
use Prim.Native.Nat.{ℕ, zero, suc, ◌*◌, ◌≤◌}
use borrow.Author.Tests.{eqb-true, eq-eqb}
use lib.ListN.{length, take}
use Rattle.sector.specs.Contents.{Table, Record, Header}
use Rattle.sector.specs.Encoding.{encode_table, encode_record, encode_header}
use Rattle.lists.proofs.ListLaws.{all_nil, all_cons, all_at, same_equal, same_refl}
use Rattle.lists.proofs.CaseLaws.{if_equal}
use Rattle.volume.specs.Places.{IsFile, file_at, record_place, header_place, slot_place, table_place}
use Rattle.volume.specs.Views.{View, Update, set_record, set_header, set_slot, changed, changed_by}
use Rattle.volume.specs.Lawful.{table_fits, record_fits}
use Rattle.volume.specs.Volumes.{Volume, table_of, bytes_at, view}
use Rattle.sector.specs.Encoded.{is_record_encoding, is_header_encoding}
use Rattle.volume.specs.Sound.{canonical, sound, table_sound_in}
use Rattle.volume.specs.Stores.{cut_at, all_stores}
use Rattle.volume.specs.WellFormed.{TableFormed, WellFormed}
use Rattle.volume.proofs.ViewLaws.{Placed}
use Rattle.volume.proofs.CanonicalLaws.{Encoded, encoded_facts, record_encoding, header_encoding}
use Rattle.volume.proofs.StoreLaws.{Shaped, AllPlaced, Held, held_view, cut_prefix}
use Rattle.volume.proofs.AccessLaws.{record_is, header_is}
use Rattle.volume.proofs.LawfulLaws.{Lawful, table_facts, table_fits_lem, lawful_facts}
use Rattle.volume.proofs.AlongLaws.{changed_table}

-- What the view of a well-formed volume has, as far as the table t asks.
pub record Fitting (t : Table) (a : View) : Type 0 where
  pub table : table_fits t ≡ true
  pub records : (k : ℕ) → 1 ≤ k → k ≤ t.clients → record_fits t (a.records k) ≡ true
  pub maps : (f : ℕ) → 1 ≤ f → f ≤ length t.files → length (a.headers f).map ≡ (file_at t f).pages

pub lawful_fitting : {t : Table} {a : View} → Lawful t a → Fitting t a
lawful_fitting l = record {
  table = table_fits_lem l.table;
  records = l.records;
  maps = λ f lo hi. (l.headers f (record { low = lo; high = hi })).map.size;
}

fitting_changed : {t : Table} {a : View} → Fitting t a → (x : Update) → Placed t x → Fitting t (changed a x)
fitting_changed {t} {a} h (set_record k r) p = record {
  table = h.table;
  records = λ j lo hi. if_equal (λ (q : Record). record_fits t q ≡ true) j k r (a.records j) (λ e. p.2) (λ n. h.records j lo hi);
  maps = h.maps;
}
fitting_changed {t} {a} h (set_header f x) p = record {
  table = h.table;
  records = h.records;
  maps = λ g lo hi. if_equal (λ (y : Header). length y.map ≡ (file_at t g).pages) g f x (a.headers g) (λ e. rw e p.1) (λ n. h.maps g lo hi);
}
fitting_changed h (set_slot f r d) p = record { table = h.table; records = h.records; maps = h.maps }

fitting_prefix : {t : Table} (xs : List Update) {a : View} → Fitting t a → AllPlaced t xs → (n : ℕ) → Fitting t (changed_by a (take n xs))
fitting_prefix xs h p zero = h
fitting_prefix [] h p (suc n) = h
fitting_prefix (x ∷ xs) h p (suc n) = fitting_prefix xs (fitting_changed h x p.0) p.1 n

pub formed_by : (v : Volume) → Shaped (view v).table v → Encoded (view v).table (bytes_at (view v).table v) → Fitting (view v).table (view v)
    → WellFormed v
formed_by v shaped codes fit = record {
  tabled = record { shaped = shaped; fits = fit.table; table = same_equal _ _ (codes table_place tt) };
  record_bytes = λ k lo hi. same_equal _ _ (codes (record_place k) (lo, hi)) ∙ ap encode_record (sym (record_is v k lo hi));
  record_fits = fit.records;
  header_bytes = λ f lo hi.
      let i : IsFile (view v).table f = record { low = lo; high = hi } in
      same_equal _ _ (codes (header_place f) i) ∙ ap (encode_header (file_at (view v).table f)) (sym (header_is v f i));
  map_size = fit.maps;
}

-- ------------------------------------------------------------------ a sound volume
pub sound_formed : (v : Volume) → sound v ≡ true → WellFormed v
unfolding sound canonical view
sound_formed v ok =
    let l : Lawful (table_of v) (view v) = lawful_facts (view v) (all_at _ 0 ok) in
    formed_by v (record { size = eqb-true _ _ (all_at _ 0 (all_at _ 1 ok)); ends = l.table.ends })
    (encoded_facts (table_of v) (bytes_at (table_of v) v) (all_at _ 1 (all_at _ 1 ok))) (lawful_fitting l)

-- ------------------------------------------------------------------ a sound table
module _ (v : Volume) where
  pub table_formed : table_sound_in v ≡ true → TableFormed v
  unfolding table_sound_in view
  table_formed ok =
      let size : length v ≡ 256 * (table_of v).sectors = eqb-true _ _ (all_at _ 1 ok) in
      record {
        shaped = record { size = size; ends = (table_facts (all_at _ 0 ok)).ends };
        fits = all_at _ 0 ok;
        table = same_equal _ _ (all_at _ 2 ok);
      }

  pub formed_table : TableFormed v → table_sound_in v ≡ true
  unfolding table_sound_in view
  formed_table f = all_cons _ f.fits (all_cons _ (eq-eqb _ _ f.shaped.size) (all_cons _ (rw f.table (same_refl (encode_table (table_of v)))) all_nil))

-- ------------------------------------------------------------------ after stores
module _ (v : Volume) (formed : WellFormed v) where
  pub formed_shaped : Shaped (view v).table v
  formed_shaped = formed.tabled.shaped

  pub formed_codes : Encoded (view v).table (bytes_at (view v).table v)
  formed_codes table_place e = rw formed.tabled.table (same_refl (encode_table (view v).table))
  formed_codes (record_place k) e = ap is_record_encoding (formed.record_bytes k e.0 e.1) ∙ record_encoding ((view v).records k)
  formed_codes (header_place f) i =
      ap (is_header_encoding (file_at (view v).table f)) (formed.header_bytes f i.low i.high)
      ∙ header_encoding (view v).table f ((view v).headers f) (formed.map_size f i.low i.high)
  formed_codes (slot_place f r) e = refl

  module _ (xs : List Update) (placed : AllPlaced (view v).table xs) (n : ℕ) where
    held : Held (view v).table v (cut_at v (all_stores (view v).table xs) n) (changed_by (view v) (take n xs))
    unfolding view
    held = cut_prefix (table_of v) xs v formed_shaped placed n

    pub formed_view : view (cut_at v (all_stores (view v).table xs) n) ≡ changed_by (view v) (take n xs)
    formed_view = held_view held

    pub formed_cut : WellFormed (cut_at v (all_stores (view v).table xs) n)
    formed_cut =
        let w : Volume = cut_at v (all_stores (view v).table xs) n in
        let table : (view w).table ≡ (view v).table = ap (λ (a : View). a.table) formed_view ∙ changed_table (take n xs) (view v) in
        let first : Fitting (view v).table (view v) = record { table = formed.tabled.fits; records = formed.record_fits; maps = formed.map_size } in
        formed_by w (rw table held.shaped) (rw table (held.codes formed_codes)) (subst (λ (u : Table). Fitting u (view w)) (sym table)
        (subst (Fitting (view v).table) (sym formed_view) (fitting_prefix xs first placed n)))
