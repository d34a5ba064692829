-- When a sector is the encoding of what is read from it, by its bytes.
-- One law for all three control sectors (`control_is`): `same` against mark, fields, zeros, items and zeros comes apart into
-- `same` against each of them. The fields are those read, so nothing is left of them; of the items a test is left, by induction
-- on their number. An encoding with more items than there is room for has more than 256 bytes, so it is no sector.
use mathlib.Core.Path.{◌≡◌, refl, sym, ap, ◌∙◌}
use mathlib.Core.Bool.{Bool, true, false, ◌&&◌, and_assoc, and-true, and-false}
use mathlib.Core.List.{[], ◌∷◌, ◌++◌, append_assoc}
use mathlib.Core.Logic.{◌≢◌}
use Prim.Native.Nat.{ℕ, zero, suc, ◌+◌, ◌*◌, ◌-◌, ◌/◌, ◌%◌, ◌≤◌, ◌<◌}
use native.Mathlib.Omega.{arith}
use lib.Dec.{eqb}
use lib.ListN.{length, take, drop, replicate, length-append, length-drop, length-replicate}
use lib.Seq.{drop-cons, drop-drop, length-take-le}
use Rattle.lists.specs.Lists.{all, same}
use Rattle.sector.specs.Layout.{mark_byte, table_mark, record_mark, header_mark, fields_offset, items_offset, items_room, item_offset, sectors_offset, count_offset, spare_offset, entry_limit}
use Rattle.sector.specs.Contents.{Bytes, File, first_header}
use Rattle.sector.specs.Sectors.{byte, word, padded}
use Rattle.sector.specs.Encoding.{control_sector, file_bytes, encode_table, entry_bytes, encode_record, encode_header}
use Rattle.sector.specs.Decoding.{clients_in, file_count_in, decode_files, decode_table, count_in, decode_entries, decode_record, spare_in, decode_header}
use Rattle.sector.specs.Encoded.{is_table_encoding, is_record_encoding, is_header_encoding, all_zero, has_mark, framed, headers_follow, table_framed, headers_in, entries_closed}
use Rattle.lists.proofs.ListLaws.{same_equal, same_refl, same_self, same_append, same_take}
use Rattle.lists.proofs.CaseLaws.{by_test}
use Rattle.sector.proofs.CodecLaws.{files_length, decode_files_length, entries_length, decode_entries_length, header_spare, decoded_map}

same_zeros : (n : ℕ) (l : Bytes) → length l ≡ n → same l (replicate n 0) ≡ all_zero l
unfolding all_zero
same_zeros n l e = rw (← e) (go l)
  where
    go : (l : Bytes) → same l (replicate (length l) 0) ≡ all_zero l
    go [] = refl
    go (x ∷ l) = ap (λ (b : Bool). eqb x 0 && b) (go l)

-- ------------------------------------------------------------------ every control sector
-- The fields `fs` are those read; of the items the test t is left, and they end at e.
control_is : (d : Bytes) (m : ℕ) (fs items : Bytes) (e : ℕ) (t : Bool) → length d ≡ 256 → fields_offset + length fs ≤ items_offset
    → same (take (length fs) (drop fields_offset d)) fs ≡ true
    → ((z : Bytes) → same (drop items_offset d) (items ++ z) ≡ (t && same (drop e d) z))
    → length items + length (drop e d) ≡ items_room
    → same d (control_sector m fs items) ≡ all (framed m (fields_offset + length fs) e d ∷ t ∷ [])
unfolding padded has_mark framed all
control_is d m fs items e t len short read test whole =
    let l : Bytes = drop 2 d in
    let zs : Bytes = replicate (6 - length fs) 0 in
    let pad : Bytes = replicate (256 - suc (suc (length ((fs ++ zs) ++ items)))) 0 in
    let two : d ≡ byte d 0 ∷ byte d 1 ∷ l = drop-cons d 0 0 (omega arith) ∙ ap (λ (x : Bytes). byte d 0 ∷ x) (drop-cons d 1 0 (omega arith)) in
    let gap : Bytes = take (6 - length fs) (drop (2 + length fs) d) in
    let six : 6 - length fs ≡ items_offset - (2 + length fs) = omega arith in
    let full : length gap ≡ 6 - length fs = length-take-le (6 - length fs) _ (rw (length-drop (2 + length fs) d) (omega arith)) in
    let eight : 2 + length fs + (6 - length fs) ≡ 8 = omega arith in
    let rest : length (drop e d) ≡ 256 - suc (suc (length ((fs ++ zs) ++ items))) =
    omega (arith, length-append (fs ++ zs) items, length-append fs zs, length-replicate {A = ℕ} (6 - length fs) 0) in
    let deep : same l (((fs ++ zs) ++ items) ++ pad) ≡ (all_zero gap && (t && all_zero (drop e d))) =
    rw (append_assoc (fs ++ zs) items pad, append_assoc fs zs (items ++ pad), same_append fs l (zs ++ (items ++ pad)), read)
    (rw (same_append zs (drop (length fs) l) (items ++ pad), length-replicate {A = ℕ} (6 - length fs) 0, drop-drop (length fs) 2 d)
    (rw (same_zeros (6 - length fs) gap full, drop-drop (6 - length fs) (2 + length fs) d, eight, test pad, same_zeros _ (drop e d) rest))) in
    ap (λ (x : Bytes). same x (control_sector m fs items)) two ∙ rw (deep, ← six) (order (eqb (byte d 0) mark_byte) (eqb (byte d 1) m) (all_zero gap) (all_zero (drop e d)) t)
  where
    order : (a b c r t : Bool) → (a && (b && (c && (t && r)))) ≡ (((a && b) && (c && (r && true))) && (t && true))
    order a b c r true = simp (and_assoc, and-true)
    order a b c r false = simp and-false

-- More items than there is room for make more than 256 bytes.
control_room : (m : ℕ) (fs items : Bytes) → fields_offset + length fs ≤ items_offset → length (control_sector m fs items) ≡ 256 → length items ≤ items_room
unfolding padded
control_room m fs items short e =
    let zs : Bytes = replicate (6 - length fs) 0 in
    let l : Bytes = (mark_byte ∷ m ∷ (fs ++ zs)) ++ items in
    omega (
      arith,
      e,
      length-append l (replicate (256 - length l) 0),
      length-replicate {A = ℕ} (256 - length l) 0,
      length-append (fs ++ zs) items,
      length-append fs zs,
      length-replicate {A = ℕ} (6 - length fs) 0,
    )

-- The four bytes from i on.
four_from : (d : Bytes) (i : ℕ) → i + 4 ≤ length d
    → drop i d ≡ byte d i ∷ byte d (suc i) ∷ byte d (suc (suc i)) ∷ byte d (suc (suc (suc i))) ∷ drop (suc (suc (suc (suc i)))) d
four_from d i h =
    rw (← drop-cons d (suc (suc (suc i))) 0 (omega arith), ← drop-cons d (suc (suc i)) 0 (omega arith), ← drop-cons d (suc i) 0 (omega arith), ← drop-cons d i 0 (omega arith))

-- ------------------------------------------------------------------ an intentions record
entries_same : (n : ℕ) (l z : Bytes) → 4 * n ≤ length l
    → same l (entry_bytes (decode_entries n l) ++ z) ≡ (entries_closed n l && same (drop (4 * n) l) z)
unfolding decode_entries entry_bytes entries_closed
entries_same zero l z h = refl
entries_same (suc n) l z h =
    let m : 4 * suc n ≡ 4 + 4 * n = omega arith in
    let rest = entries_same n (drop 4 l) z (rw (length-drop 4 l) (omega arith)) in
    ap (λ (x : Bytes). same x (entry_bytes (decode_entries (suc n) l) ++ z)) (four_from l 0 (omega arith))
    ∙ rw (same_self (byte l 0) _, same_self (byte l 1) _, same_self (byte l 2) _, rest, m, ← drop-drop (4 * n) 4 l)
    (sym (and_assoc (eqb (byte l 3) 0) _ _))

module _ (d : Bytes) (len : length d ≡ 256) where
  pub record_is : (n : ℕ) → n ≡ count_in d → n ≤ entry_limit
      → is_record_encoding d ≡ all (framed record_mark (count_offset + 1) (item_offset n) d ∷ entries_closed n (drop items_offset d) ∷ [])
  unfolding decode_record encode_record
  record_is n q few =
      let l : Bytes = drop 8 d in
      let m : length (drop (item_offset n) d) ≡ 248 - 4 * n = length-drop (item_offset n) d ∙ omega arith in
      rw (← q, decode_entries_length n l)
      (control_is d record_mark (byte d 2 ∷ n ∷ []) (entry_bytes (decode_entries n l)) (item_offset n) (entries_closed n l) len (omega arith)
      (rw (four_from d 2 (omega arith), q) (same_refl (byte d 2 ∷ byte d 3 ∷ [])))
      (λ z. entries_same n l z (rw (length-drop 8 d) (omega arith)) ∙ rw (drop-drop (4 * n) 8 d))
      (omega (arith, entries_length (decode_entries n l), decode_entries_length n l)))

  pub record_encoded : is_record_encoding d ≡ true → d ≡ encode_record (decode_record d)
  record_encoded e = same_equal d _ e

  pub record_few : is_record_encoding d ≡ true → count_in d ≤ entry_limit
  unfolding decode_record encode_record
  record_few e =
      let es = decode_entries (count_in d) (drop 8 d) in
      let room = control_room record_mark (byte d 2 ∷ length es ∷ []) (entry_bytes es) (omega arith) (ap length (sym (record_encoded e)) ∙ len) in
      omega (arith, room, entries_length es, decode_entries_length (count_in d) (drop 8 d))

  pub record_many : entry_limit < count_in d → is_record_encoding d ≡ false
  record_many h = by_test (is_record_encoding d) (λ e. absurd (omega (arith, record_few e))) (λ e. e)

-- ------------------------------------------------------------------ the table
files_same : (n h : ℕ) (l z : Bytes) → 4 * n ≤ length l
    → same l (file_bytes h (decode_files n l) ++ z) ≡ (headers_follow n h l && same (drop (4 * n) l) z)
unfolding decode_files file_bytes headers_follow
files_same zero h l z le = refl
files_same (suc n) h l z le =
    let m : 4 * suc n ≡ 4 + 4 * n = omega arith in
    let rest = files_same n (h + 1 + byte l 3) (drop 4 l) z (rw (length-drop 4 l) (omega arith)) in
    ap (λ (x : Bytes). same x (file_bytes h (decode_files (suc n) l) ++ z)) (four_from l 0 (omega arith))
    ∙ rw (same_self (byte l 2) _, same_self (byte l 3) _, rest, m, ← drop-drop (4 * n) 4 l)
    (sym (and_assoc (eqb (byte l 0) (h % 256) && eqb (byte l 1) (h / 256)) _ _ ∙ and_assoc (eqb (byte l 0) (h % 256)) _ _))

module _ (d : Bytes) (len : length d ≡ 256) where
  pub table_is : file_count_in d ≤ entry_limit → byte d sectors_offset < 256
      → is_table_encoding d ≡ all (table_framed d ∷ headers_in (first_header (clients_in d)) d ∷ [])
  unfolding decode_table encode_table
  table_is few small =
      let n : ℕ = file_count_in d in
      let k : ℕ = clients_in d in
      let l : Bytes = drop 8 d in
      let m : length (drop (item_offset n) d) ≡ 248 - 4 * n = length-drop (item_offset n) d ∙ omega arith in
      let low : word d 2 % 256 ≡ byte d 2 = omega arith in
      let high : word d 2 / 256 ≡ byte d 3 = omega arith in
      rw (decode_files_length n l, low, high)
      (control_is d table_mark (byte d 2 ∷ byte d 3 ∷ k ∷ n ∷ []) (file_bytes (k + 1) (decode_files n l)) (item_offset n) (headers_follow n (k + 1) l) len (omega arith)
      (rw (four_from d 2 (omega arith)) (same_refl (byte d 2 ∷ byte d 3 ∷ byte d 4 ∷ byte d 5 ∷ [])))
      (λ z. files_same n (k + 1) l z (rw (length-drop 8 d) (omega arith)) ∙ rw (drop-drop (4 * n) 8 d))
      (omega (arith, files_length (k + 1) (decode_files n l), decode_files_length n l)))

-- ------------------------------------------------------------------ a file header
-- The map has P bytes, so R − P slots are left: byte 3 says so, and the rest is the frame.
module _ (x : File) (d : Bytes) (len : length d ≡ 256) (few : x.pages ≤ items_room) where
  pub header_other : spare_in d ≢ x.slots - x.pages → is_header_encoding x d ≡ false
  header_other other = by_test (is_header_encoding x d) (λ e. absurd (other (left e))) (λ e. e)
    where
      left : is_header_encoding x d ≡ true → spare_in d ≡ x.slots - x.pages
      left e = ap spare_in (same_equal d _ e) ∙ header_spare x (decode_header x d) ∙ ap (λ (n : ℕ). x.slots - n) (decoded_map x d len few)

  pub header_is : spare_in d ≡ x.slots - x.pages → is_header_encoding x d ≡ framed header_mark (spare_offset + 1) (items_offset + x.pages) d
  unfolding decode_header encode_header all
  header_is left =
      let l : Bytes = drop 8 d in
      let P : ℕ = x.pages in
      let n : length (take P l) ≡ P = length-take-le P l (rw (length-drop 8 d) (omega arith)) in
      let rest : length (drop (8 + P) d) ≡ 248 - P = length-drop (8 + P) d ∙ omega arith in
      rw (n, ← left)
      (control_is d header_mark (byte d 2 ∷ byte d 3 ∷ []) (take P l) (8 + P) true len (omega arith)
      (rw (four_from d 2 (omega arith)) (same_refl (byte d 2 ∷ byte d 3 ∷ [])))
      (λ z. same_take P l z ∙ rw (drop-drop P 8 d)) (omega arith)
      ∙ and-true _)

module _ (x : File) (d : Bytes) where
  pub header_encoded : is_header_encoding x d ≡ true → d ≡ encode_header x (decode_header x d)
  header_encoded e = same_equal d _ e
