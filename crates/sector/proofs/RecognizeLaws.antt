-- How a control sector is recognized: by the or of bytes, which is zero just where all are; and by two bytes as a number. The loop over
-- files keeps that the result is decided by those that are left.
use mathlib.Core.Path.{◌≡◌, sym, ap, ◌∙◌}
use mathlib.Core.Bool.{Bool, true, false, ◌&&◌, and_assoc, and-true}
use mathlib.Core.List.{[], ◌∷◌}
use mathlib.Core.Logic.{◌≢◌}
use Prim.Native.Nat.{ℕ, zero, suc, ◌+◌, ◌*◌, ◌-◌, ◌/◌, ◌%◌, ◌<◌, ◌≤◌}
use native.Mathlib.Nat.{le_of_suc-le-suc, not-suc-le-zero}
use native.Mathlib.Omega.{arith}
use borrow.Author.Tests.{eqb-true, eq-eqb, ne_eqb}
use lib.Bits.{bit_or}
use lib.Dec.{eqb}
use lib.ListN.{take, drop}
use lib.Seq.{drop-drop, get_or-take, get_or-drop}
use Rattle.std.specs.List.{fold}
use Rattle.std.specs.Simd.{first_chunks}
use Rattle.sector.specs.Layout.{mark_byte, item_length, item_offset, slots_offset, zero_offset}
use Rattle.sector.specs.Contents.{Bytes}
use Rattle.sector.specs.Sectors.{byte, word}
use Rattle.sector.specs.Encoded.{all_zero, has_mark, headers_follow, entries_closed}
use Rattle.lists.proofs.ListLaws.{and_left, and_right, and_both}
use Rattle.lists.proofs.TestLaws.{iff, or_zero}

-- ------------------------------------------------------------------ zero bytes: the or of all is zero just where all are
or_all : (bits : ℕ) (l : Bytes) → eqb (fold bit_or bits l) 0 ≡ (eqb bits 0 && all_zero l)
unfolding all_zero
or_all bits [] = sym (and-true (eqb bits 0))
or_all bits (x ∷ l) = or_all (bit_or bits x) l ∙ rw (or_zero bits x) (and_assoc (eqb bits 0) _ _)

pub zero_or : (l : Bytes) (n : ℕ) → n ≡ fold bit_or 0 l → eqb n 0 ≡ all_zero l
zero_or l n e = rw e (or_all 0 l)

-- ------------------------------------------------------------------ the last bytes of entries, likewise
abbrev pub or_last : ℕ → Bytes → ℕ
or_last bits e = bit_or bits (byte e zero_offset)

or_lasts : (bits n k : ℕ) (l : Bytes) → n ≤ k → eqb (fold or_last bits (take n (first_chunks item_length k l))) 0 ≡ (eqb bits 0 && entries_closed n l)
unfolding entries_closed
or_lasts bits zero k l h = sym (and-true (eqb bits 0))
or_lasts bits (suc n) zero l h = absurd (not-suc-le-zero h)
or_lasts bits (suc n) (suc k) l h =
    or_lasts (or_last bits (take 4 l)) n k (drop 4 l) (le_of_suc-le-suc h)
    ∙ rw (get_or-take 4 l 3 0 (omega arith), or_zero bits (byte l 3)) (and_assoc (eqb bits 0) _ _)

pub closed_or : (n k : ℕ) (l : Bytes) (m : ℕ) → n ≤ k → m ≡ fold or_last 0 (take n (first_chunks item_length k l)) → eqb m 0 ≡ entries_closed n l
closed_or n k l m h e = rw e (or_lasts 0 n k l h)

-- ------------------------------------------------------------------ two bytes as a number: marks, and the headers' sectors
-- Two bytes are those of h if their number is h.
word_is : (a b h : ℕ) → a < 256 → (eqb a (h % 256) && eqb b (h / 256)) ≡ eqb (a + 256 * b) h
word_is a b h small = iff _ _ to back
  where
    to : (eqb a (h % 256) && eqb b (h / 256)) ≡ true → eqb (a + 256 * b) h ≡ true
    to e =
        let low : a ≡ h % 256 = eqb-true _ _ (and_left (eqb a (h % 256)) _ e) in
        let high : b ≡ h / 256 = eqb-true _ _ (and_right (eqb a (h % 256)) _ e) in
        eq-eqb (a + 256 * b) h (omega arith)

    back : eqb (a + 256 * b) h ≡ true → (eqb a (h % 256) && eqb b (h / 256)) ≡ true
    back e =
        let q : a + 256 * b ≡ h = eqb-true _ _ e in
        and_both _ _ (eq-eqb a (h % 256) (omega arith)) (eq-eqb b (h / 256) (omega arith))

-- So a mark is one number.
pub mark_is : (d : Bytes) (second : ℕ) → byte d 0 < 256 → eqb (word d 0) (mark_byte + 256 * second) ≡ has_mark second d
unfolding has_mark
mark_is d second small =
    let low : (mark_byte + 256 * second) % 256 ≡ mark_byte = omega arith in
    let high : (mark_byte + 256 * second) / 256 ≡ second = omega arith in
    sym (rw (low, high) at (word_is (byte d 0) (byte d 1) (mark_byte + 256 * second) small))

module _ (d : Bytes) (w : Bool) (n h i : ℕ) (q : w ≡ headers_follow (n - i) h (drop (item_offset i) d)) where
  follow_step : i < n → byte d (item_offset i) < 256
      → w ≡ (eqb (word d (item_offset i)) h && headers_follow (n - (i + 1)) (h + 1 + byte d (item_offset i + slots_offset)) (drop (item_offset (i + 1)) d))
  unfolding headers_follow
  follow_step lt small =
      let m : n - i ≡ suc (n - (i + 1)) = omega arith in
      let e : item_offset i + 4 ≡ item_offset (i + 1) = omega arith in
      let z : item_offset i + 0 ≡ item_offset i = omega arith in
      let l : Bytes = drop (item_offset i) d in
      let b0 : byte l 0 ≡ byte d (item_offset i) = get_or-drop (item_offset i) d 0 0 ∙ ap (byte d) z in
      q ∙ rw (
        m,
        b0,
        get_or-drop (item_offset i) d 1 0,
        get_or-drop (item_offset i) d 3 0,
        drop-drop 4 (item_offset i) d,
        e,
        word_is (byte d (item_offset i)) (byte d (item_offset i + 1)) h small,
      )

  pub follow_more : i < n → byte d (item_offset i) < 256 → word d (item_offset i) ≡ h
      → w ≡ headers_follow (n - (i + 1)) (h + 1 + byte d (item_offset i + slots_offset)) (drop (item_offset (i + 1)) d)
  follow_more lt small e = follow_step lt small ∙ rw (eq-eqb _ _ e)

  pub follow_fails : i < n → byte d (item_offset i) < 256 → word d (item_offset i) ≢ h → w ≡ false
  follow_fails lt small e = follow_step lt small ∙ rw (ne_eqb _ _ e)

  pub follow_done : n ≤ i → w ≡ true
  unfolding headers_follow
  follow_done le = let m : n - i ≡ 0 = omega arith in q ∙ rw m
