-- The table and a header, built in a sector of zeros: the fixed bytes at the front by computation, then what is put behind
-- them, an entry for each file or a slot for each page. A loop keeps that what is still to be put makes up the whole.
use mathlib.Core.Path.{◌≡◌, refl, ap}
use mathlib.Core.List.{List, [], ◌∷◌, ◌++◌}
use Prim.Native.Nat.{ℕ, suc, ◌+◌, ◌*◌, ◌-◌, ◌/◌, ◌%◌, ◌≤◌, ◌<◌}
use native.Mathlib.Numerals.{add-one}
use native.Mathlib.Omega.{arith}
use lib.ListN.{length, set}
use Rattle.lists.specs.Lists.{from}
use Rattle.sector.specs.Layout.{mark_byte, table_mark, header_mark, items_offset, items_room, item_length, spare_offset, file_limit}
use Rattle.sector.specs.Contents.{Bytes, File, new_header}
use Rattle.sector.specs.Sectors.{word_bytes, zero_sector, padded}
use Rattle.sector.specs.Encoding.{file_bytes, encode_table, encode_header}
use Rattle.lists.proofs.SearchLaws.{from_length}
use Rattle.sector.proofs.CodecLaws.{files_length}
use Rattle.sector.specs.Shapes.{files_of}
use Rattle.sector.specs.Puts.{Puts}
use Rattle.sector.proofs.PutsLaws.{puts_more, puts_byte}
use Rattle.sector.proofs.ShapeLaws.{files_count}

-- ------------------------------------------------------------------ the table
-- Four bytes.
pub entry_put : (at x y z w : ℕ) (b : Bytes)
    → Puts at (x ∷ y ∷ z ∷ w ∷ []) b (set (set (set (set b at x) (at + 1) y) (at + 2) z) (at + 3) w)
entry_put at x y z w b =
    puts_more at (at + 1) (x ∷ []) (y ∷ z ∷ w ∷ []) b _ _ refl (puts_byte at x b)
    (puts_more (at + 1) (at + 2) (y ∷ []) (z ∷ w ∷ []) _ _ _ (omega arith) (puts_byte (at + 1) y _)
    (puts_more (at + 2) (at + 3) (z ∷ []) (w ∷ []) _ _ _ (omega arith) (puts_byte (at + 2) z _) (puts_byte (at + 3) w _)))

-- A file's entry, and then those of the files behind it.
pub entries_turn : (x : File) (xs left : List File) (at h : ℕ) (b c w : Bytes) → left ≡ x ∷ xs
    → Puts at (word_bytes h (x.pages ∷ x.slots ∷ [])) b c → Puts (at + item_length) (file_bytes (h + (1 + x.slots)) xs) c w
    → Puts at (file_bytes h left) b w
unfolding file_bytes
entries_turn x xs left at h b c w q one rest =
    let next : h + (1 + x.slots) ≡ h + 1 + x.slots = omega arith in
    rw q (puts_more at (at + 4) _ _ b c w refl one (rw next at rest))

pub table_built : (N T F : ℕ) (l w : Bytes) → F ≡ length (files_of l) → length l ≤ 2 * file_limit
    → Puts items_offset (file_bytes (T + 1) (files_of l)) (set (set (set (set (set (set zero_sector 0 mark_byte) 1 table_mark) 2 (N % 256)) 3 (N / 256)) 4 T) 5 F) w
    → w ≡ encode_table (record { sectors = N; clients = T; files = files_of l })
unfolding zero_sector Puts encode_table padded
table_built N T F l w e few x =
    let d : Bytes = file_bytes (T + 1) (files_of l) in
    let head : Bytes = mark_byte ∷ table_mark ∷ N % 256 ∷ N / 256 ∷ T ∷ F ∷ 0 ∷ 0 ∷ [] in
    let n : ℕ = 256 - length (head ++ d) in
    let all : length d + n ≡ 248 = omega (arith, files_length (T + 1) (files_of l), files_count l) in
    rw (← e) (x head n refl (rw all))

-- ------------------------------------------------------------------ a header
pub map_turn : (n p : ℕ) (b : Bytes) → p < n
    → (w : Bytes) → Puts (items_offset + (p + 1)) (from (p + 1) (n - (p + 1))) (set b (items_offset + p) p) w → Puts (items_offset + p) (from p (n - p)) b w
map_turn n p b lt w rest =
    let m : n - p ≡ suc (n - (p + 1)) = omega arith in
    rw (m, ← add-one p) (puts_more (items_offset + p) (items_offset + (p + 1)) (p ∷ []) _ b _ w (omega arith) (puts_byte (items_offset + p) p b) rest)

pub header_built : (x : File) (w : Bytes) → x.pages ≤ items_room
    → Puts items_offset (from 0 x.pages) (set (set (set zero_sector 0 mark_byte) 1 header_mark) spare_offset (x.slots - x.pages)) w
    → w ≡ encode_header x (new_header x)
unfolding zero_sector Puts encode_header padded
header_built x w le put =
    let n : ℕ = x.pages in
    let head : Bytes = mark_byte ∷ header_mark ∷ 0 ∷ (x.slots - n) ∷ 0 ∷ 0 ∷ 0 ∷ 0 ∷ [] in
    let m : ℕ = 256 - length (head ++ from 0 n) in
    let all : length (from 0 n) + m ≡ 248 = omega (arith, from_length n 0) in
    let left : x.slots - length (from 0 n) ≡ x.slots - n = ap (λ (k : ℕ). x.slots - k) (from_length n 0) in
    rw left (put head m refl (rw all))
