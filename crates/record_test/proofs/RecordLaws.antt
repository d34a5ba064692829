-- A record as the code tests it is a record that `sound` asks for. The cases of the state are two tests of `record_fits`, and
-- that there are at most 62 entries follows from the bytes.
-- No two entries are for one page, and no two give one slot, just where no two of the sectors for their pages are the same,
-- and no two of those for their slots: the sectors of one file come after all those of the file before, so the same sector
-- means the same file, and then the same page or slot.
use mathlib.Core.Path.{◌≡◌, refl, sym, ap₂, ◌∙◌, subst}
use mathlib.Core.Bool.{Bool, true, false, not, ◌&&◌, ◌||◌, and_assoc, and-true, and-false}
use mathlib.Core.List.{List, [], ◌∷◌, map}
use mathlib.Core.Logic.{◌≢◌}
use Prim.Native.Nat.{ℕ, zero, suc, ◌+◌, ◌-◌, ◌<◌, ◌≤◌}
use native.Mathlib.Omega.{arith}
use borrow.Author.Tests.{eqb-true, eqb-false, eq-eqb, ne_eqb, leb-true, le-leb, lt-leb, ltb-true}
use lib.Dec.{eqb, leb, ltb}
use lib.ListN.{length, replicate}
use Rattle.lists.specs.Lists.{all, every, any, distinct}
use Rattle.sector.specs.Contents.{Bytes, Table, Entry}
use Rattle.sector.specs.Decoding.{file_count_in, header_sector_in, file_in, state_in, count_in, decode_table, decode_entries, decode_record}
use Rattle.sector.specs.Walks.{entries_left}
use Rattle.sector.specs.declared.layout.Entries.{Entries}
use Rattle.lists.proofs.ListLaws.{and_left, and_right, all_at, between_true}
use Rattle.lists.proofs.CaseLaws.{by_test}
use Rattle.lists.proofs.TestLaws.{all_no, all_of, none, ◌also◌}
use Rattle.sector.proofs.CodecLaws.{decoded_files, decoded_count}
use Rattle.volume.specs.Places.{file_at, header_sector}
use Rattle.volume.specs.Lawful.{entry_fits, pages_differ, slots_differ}
use Rattle.volume.proofs.PlaceLaws.{IsFile, file_ends, files_apart}
use Rattle.volume.proofs.LawfulLaws.{file_facts}
use Rattle.byteset.specs.Set.{has_byte, with_byte}
use Rattle.byteset.proofs.SetLaws.{has_zeros, length_with}
use Rattle.sector.specs.Encoded.{is_record_encoding}
use Rattle.table_test.specs.Table.{table_sound}
use Rattle.record_test.specs.Record.{state_fits, entries_fit, sector_for, page_sector, slot_sector, InRange, record_sound}
use Rattle.sector.proofs.EncodedLaws.{record_few}
use Rattle.table_test.proofs.DecodingLaws.{file_is}
use Rattle.byteset.proofs.WalkLaws.{Walk, walk_none, walk_seen, walk_more, walk_done}
use Rattle.table_test.proofs.TableLaws.{facts, is_table, header_in_lem}

-- ------------------------------------------------------------------ the whole record
state_is : (s c : ℕ) → state_fits s c ≡ (leb s 2 && (not (eqb s 0) || eqb c 0))
unfolding state_fits
state_is zero c = refl
state_is (suc zero) c = refl
state_is (suc (suc zero)) c = refl
state_is (suc (suc (suc s))) c =
    let n = suc (suc (suc s)) in
    rw (ne_eqb n 0 (omega arith), ne_eqb n 1 (omega arith), ne_eqb n 2 (omega arith), lt-leb n 2 (omega arith))

pub state_in_lem : (d : Bytes) → (decode_record d).state ≡ state_in d
unfolding decode_record
state_in_lem d = refl

-- As `record_is_sound` tests it.
module _ (t : Table) (d : Bytes) where
  pub sound_count : record_sound t d ≡ true → count_in d ≤ 62
  unfolding record_sound
  sound_count e = rw (decoded_count d) at (leb-true (length (decode_record d).entries) 62 (all_at _ 1 (and_right (is_record_encoding d) _ e)))

  pub no_record : is_record_encoding d ≡ false → record_sound t d ≡ false
  unfolding record_sound
  no_record e = rw e

  pub record_last : length d ≡ 256 → is_record_encoding d ≡ true
      → (state_fits (state_in d) (count_in d) && entries_fit t (decode_record d).entries) ≡ record_sound t d
  unfolding record_sound entries_fit all
  record_last len e =
      let es : List Entry = (decode_record d).entries in
      rw (e, state_in_lem d, decoded_count d, le-leb (count_in d) 62 (record_few d len e), state_is (state_in d) (count_in d))
      (swap (leb (state_in d) 2) (not (eqb (state_in d) 0) || eqb (count_in d) 0) (every (entry_fits t) es) (pages_differ es) (slots_differ es))
    where
      swap : (a i x p s : Bool) → ((a && i) && (x && (p && (s && true)))) ≡ (a && (x && (p && (s && (i && true)))))
      swap a true x p s = simp and-true
      swap a false x p s = simp and-false

-- ------------------------------------------------------------------ one entry, as `entry_fits` tests it
module _ (tb : Bytes) (e : Entry) (f n : ℕ) (qf : f ≡ e.file) (qn : n ≡ file_count_in tb) where
  pub file_no : (leb 1 f && leb f n) ≡ false → entry_fits (decode_table tb) e ≡ false
  unfolding all
  file_no q = rw (decoded_files tb, ← qn, ← qf) (sym (and_assoc (leb 1 f) (leb f n) _) ∙ rw q)

  pub entry_last : (leb 1 f && leb f n) ≡ true
      → (ltb e.page (file_in tb (f - 1)).pages && ltb e.slot (file_in tb (f - 1)).slots) ≡ entry_fits (decode_table tb) e
  unfolding all
  entry_last q =
      let b = between_true 1 f n q in
      rw (decoded_files tb, ← qn, ← qf, file_is tb f b.0 (omega (arith, b.1)), le-leb _ _ b.0, le-leb _ _ b.1) (simp and-true)

-- ------------------------------------------------------------------ the sectors for the entries
-- Numbers are the same just where the elements are alike, of those that pass the test.
module _ {A : Type 0} (like : A → A → Bool) (g : A → ℕ) (q : A → Bool)
    (agree : (x y : A) → q x ≡ true → q y ≡ true → eqb (g x) (g y) ≡ like x y) where
  any_same : (x : A) → q x ≡ true → (xs : List A) → every q xs ≡ true → any (eqb (g x)) (map g xs) ≡ any (like x) xs
  any_same x h [] e = refl
  any_same x h (y ∷ ys) e = rw (agree x y h (and_left (q y) _ e), any_same x h ys (and_right (q y) _ e))

  distinct_same : (xs : List A) → every q xs ≡ true → distinct eqb (map g xs) ≡ distinct like xs
  distinct_same [] e = refl
  distinct_same (x ∷ xs) e = rw (any_same x (and_left (q x) _ e) xs (and_right (q x) _ e), distinct_same xs (and_right (q x) _ e))

-- Of the entries es those before `left` are tested, and their sectors are in the sets.
pub record Left (tb : Bytes) (es left : List Entry) (pages slots : List ℕ) : Type 0 where
  pub fit : every (entry_fits (decode_table tb)) es ≡ every (entry_fits (decode_table tb)) left
  pub by_page : Walk (map (page_sector tb) es) pages (map (page_sector tb) left)
  pub by_slot : Walk (map (slot_sector tb) es) slots (map (slot_sector tb) left)
  pub page_words : length pages ≡ 16
  pub slot_words : length slots ≡ 16

pub left_all : (tb : Bytes) (es : List Entry) → Left tb es es (replicate 16 0) (replicate 16 0)
left_all tb es = record {
  fit = refl;
  by_page = walk_none _ _ (has_zeros 16);
  by_slot = walk_none _ _ (has_zeros 16);
  page_words = refl;
  slot_words = refl;
}

module _ (tb : Bytes) (ok : table_sound tb ≡ true) where
  abbrev t : Table
  t = decode_table tb

  pub few_files : file_count_in tb ≤ 16
  few_files = rw (decoded_files tb) at (facts tb ok).files.1

  module _ (e : Entry) (fit : entry_fits t e ≡ true) where
    is : IsFile t e.file
    is = record { low = leb-true _ _ (all_at _ 0 fit); high = leb-true _ _ (all_at _ 1 fit) }

    slot_low : e.slot < (file_at t e.file).slots
    slot_low = ltb-true _ _ (all_at _ 3 fit)

    page_low : e.page < (file_at t e.file).slots
    page_low = omega (arith, ltb-true e.page (file_at t e.file).pages (all_at _ 2 fit), (file_facts (facts tb ok) e.file is).room)

    header_is : header_sector_in tb (e.file - 1) ≡ header_sector t e.file
    header_is = header_in_lem tb (is_table tb ok) e.file is.low (rw (← decoded_files tb) is.high)

    inside : (n : ℕ) → n < (file_at t e.file).slots → header_sector_in tb (e.file - 1) + n < 1024
    inside n h = omega (arith, header_is, file_ends t e.file is, (facts tb ok).ends, (facts tb ok).size)

    pub placed : InRange tb e
    placed = record {
      low = is.low;
      high = omega (arith, is.high, few_files, decoded_files tb);
      page = inside e.page page_low;
      slot = inside e.slot slot_low;
    }

  module _ (part : Entry → ℕ) (low : (e : Entry) → entry_fits t e ≡ true → part e < (file_at t e.file).slots) where
    same_sector : (e d : Entry) → entry_fits t e ≡ true → entry_fits t d ≡ true
        → eqb (sector_for tb part e) (sector_for tb part d) ≡ (eqb d.file e.file && eqb (part d) (part e))
    same_sector e d h k =
        rw (header_is e h, header_is d k) (go (eqb d.file e.file) refl (eqb (part d) (part e)) refl)
      where
        two : (e.file ≡ d.file → part e ≢ part d) → eqb (header_sector t e.file + part e) (header_sector t d.file + part d) ≡ false
        two ne = ne_eqb _ _ (files_apart t e.file d.file (part e) (part d) (is e h) (is d k) (omega (arith, low e h)) (omega (arith, low d k)) ne)

        go : (x : Bool) → eqb d.file e.file ≡ x → (y : Bool) → eqb (part d) (part e) ≡ y
            → eqb (header_sector t e.file + part e) (header_sector t d.file + part d) ≡ (x && y)
        go true p true q =
            eq-eqb _ _ (ap₂ (λ (f r : ℕ). header_sector t f + r) (sym (eqb-true d.file e.file p)) (sym (eqb-true (part d) (part e) q)))
        go true p false q = two (λ _ r. eqb-false (part d) (part e) q (sym r))
        go false p y q = two (λ r. absurd (eqb-false d.file e.file p (sym r)))

    sectors_are : (es : List Entry) → every (entry_fits t) es ≡ true
        → distinct eqb (map (sector_for tb part) es) ≡ distinct (λ e d. eqb d.file e.file && eqb (part d) (part e)) es
    sectors_are es fit = distinct_same _ (sector_for tb part) (entry_fits t) same_sector es fit

  -- ------------------------------------------------------------------ as `entries_fit` tests them
  entries_are : (es : List Entry) → entries_fit t es
      ≡ all (every (entry_fits t) es ∷ distinct eqb (map (page_sector tb) es) ∷ distinct eqb (map (slot_sector tb) es) ∷ [])
  unfolding entries_fit all
  entries_are es = by_test (every (entry_fits t) es)
      (λ e. rw (e, sectors_are (λ e. e.page) page_low es e, sectors_are (λ e. e.slot) slot_low es e)) (λ e. rw e)

  module _ {es left : List Entry} {pages slots : List ℕ} (l : Left tb es left pages slots) (e : Entry) (rest : List Entry) (next : left ≡ e ∷ rest) where
    here : Left tb es (e ∷ rest) pages slots
    here = subst (λ (xs : List Entry). Left tb es xs pages slots) next l

    pub entry_no : entry_fits t e ≡ false → entries_fit t es ≡ false
    entry_no q = entries_are es ∙ all_no _ 0 (here.fit ∙ rw q)

    abbrev new : Bool
    new = not (has_byte pages (page_sector tb e)) && not (has_byte slots (slot_sector tb e))

    pub entry_twice : new ≡ false → entries_fit t es ≡ false
    entry_twice q = entries_are es ∙ by_test (not (has_byte pages (page_sector tb e)))
        (λ p. all_no _ 2 (walk_seen _ _ here.by_slot (rw p at q)))
        (λ p. all_no _ 1 (walk_seen _ _ here.by_page p))

    pub left_more : entry_fits t e ≡ true → new ≡ true → Left tb es rest (with_byte pages (page_sector tb e)) (with_byte slots (slot_sector tb e))
    left_more p q = record {
      fit = here.fit ∙ rw p;
      by_page = walk_more _ _ here.by_page (and_left (not (has_byte pages (page_sector tb e))) _ q)
          (omega (arith, (placed e p).page, l.page_words));
      by_slot = walk_more _ _ here.by_slot (and_right (not (has_byte pages (page_sector tb e))) _ q)
          (omega (arith, (placed e p).slot, l.slot_words));
      page_words = length_with pages (page_sector tb e) ∙ l.page_words;
      slot_words = length_with slots (slot_sector tb e) ∙ l.slot_words;
    }

  pub entries_done : {es : List Entry} {pages slots : List ℕ} → Left tb es [] pages slots → entries_fit t es ≡ true
  entries_done {es} l = entries_are es ∙ all_of (l.fit also (walk_done l.by_page).0 also (walk_done l.by_slot).0 also none)

-- There is nothing to test.
pub entries_none : (t : Table) (s : Entries) → eqb (length s.items.now) 0 ≡ true → entries_fit t (entries_left s) ≡ true
unfolding entries_fit all decode_entries
entries_none t s e = rw (eqb-true (length s.items.now) 0 e)
