-- The new volume, laid out sector by sector in an array of zeros: the table, the records, then each file's header, behind
-- which its slots are zeros already. A loop keeps that what is still to be laid out makes up the whole. The array's length is
-- that of the new volume, so that the zeros left at the end are its last sectors.
use mathlib.Core.Path.{◌≡◌, refl, ◌∙◌}
use mathlib.Core.Bool.{true}
use mathlib.Core.List.{List, [], ◌∷◌, ◌++◌, append_assoc}
use Prim.Native.Nat.{ℕ, suc, ◌+◌, ◌*◌, ◌-◌, ◌≤◌}
use native.Mathlib.Omega.{arith}
use borrow.Author.Tests.{leb-true}
use lib.ListN.{length, replicate, length-append, length-replicate}
use Rattle.lists.specs.Lists.{every}
use Rattle.sector.specs.Layout.{items_room, page_limit, entry_limit}
use Rattle.sector.specs.Contents.{Bytes, Table, idle_record, new_header}
use Rattle.sector.specs.declared.layout.File.{File}
use Rattle.sector.specs.Sectors.{store_at}
use Rattle.sector.specs.Encoding.{encode_table, encode_record, encode_header}
use Rattle.lists.proofs.ListLaws.{all_at}
use Rattle.sector.proofs.CodecLaws.{table_length, record_length}
use Rattle.volume.specs.Places.{sector_after, end_sector}
use Rattle.volume.specs.Lawful.{file_fits}
use Rattle.volume.specs.Format.{repeated, new_files, new_volume}
use Rattle.volume.proofs.PlaceLaws.{after_least}
use Rattle.sector.specs.Puts.{Puts}
use Rattle.sector.proofs.PutsLaws.{puts_zeros, puts_more, puts_store}
use Rattle.format.proofs.RequestLaws.{first_fits, after_turn}
use Rattle.volume.proofs.FormatLaws.{repeated_length, new_header_length, new_files_length}

-- ------------------------------------------------------------------ the records
idle_length : length (encode_record idle_record) ≡ 256
idle_length = record_length idle_record (omega arith)

-- Record k, then those above it up to n.
pub records_turn : (n k : ℕ) (b : Bytes) → 1 ≤ k → k ≤ n
    → (w : Bytes) → Puts (256 * (k + 1)) (repeated (n + 1 - (k + 1)) (encode_record idle_record)) (store_at b k (encode_record idle_record)) w
    → Puts (256 * k) (repeated (n + 1 - k) (encode_record idle_record)) b w
unfolding repeated
records_turn n k b lo hi w rest =
    let m : n + 1 - k ≡ suc (n + 1 - (k + 1)) = omega arith in
    rw m (puts_more (256 * k) (256 * (k + 1)) _ _ b _ w (omega (arith, idle_length)) (puts_store k _ b idle_length) rest)

-- ------------------------------------------------------------------ the files
-- Of the files that are left, x and then xs: the header of x is stored in sector h; its slots stay zeros.
module _ (x : File) (xs left : List File) (next : left ≡ x ∷ xs) where
  pub files_turn : (h : ℕ) (b : Bytes) → every file_fits left ≡ true
      → (w : Bytes) → Puts (256 * (h + (1 + x.slots))) (new_files xs) (store_at b h (encode_header x (new_header x))) w
      → Puts (256 * h) (new_files left) b w
  unfolding new_files
  files_turn h b fits w rest =
      let full = new_header_length x (first_fits x xs left next fits) in
      let at : ℕ = 256 * (h + (1 + x.slots)) in
      let e : at ≡ 256 * h + 256 + length (replicate {A = ℕ} (256 * x.slots) 0) = rw (length-replicate {A = ℕ} (256 * x.slots) 0) (omega arith) in
      rw next (puts_more (256 * h) (256 * h + 256) _ _ b _ w (omega (arith, full)) (puts_store h _ b full)
      (puts_more (256 * h + 256) at (replicate (256 * x.slots) 0) _ _ _ w e (puts_zeros (256 * h + 256) (256 * x.slots) _) rest))

  -- There is room for x, and its header is in range.
  pub file_room : (h n : ℕ) → 256 * sector_after h left ≤ n → 256 * (h + (1 + x.slots)) ≤ n
  file_room h n room =
      let r : 256 * sector_after (h + (1 + x.slots)) xs ≤ n = rw (after_turn x xs left next h) room in
      omega (arith, after_least (h + (1 + x.slots)) xs)

  pub file_pages : every file_fits left ≡ true → x.pages ≤ items_room
  file_pages fits =
      let h : x.pages ≤ page_limit = leb-true _ _ (all_at _ 1 (first_fits x xs left next fits)) in
      omega arith

  pub file_slots : every file_fits left ≡ true → x.pages ≤ x.slots
  file_slots fits = leb-true _ _ (all_at _ 2 (first_fits x xs left next fits))

-- ------------------------------------------------------------------ all of it
pub laid_out : (t : Table) (a c e : Bytes) → a ≡ replicate (256 * t.sectors) 0
    → length t.files ≤ entry_limit → every file_fits t.files ≡ true → end_sector t ≤ t.sectors
    → Puts 256 (repeated t.clients (encode_record idle_record)) (store_at a 0 (encode_table t)) c
    → Puts (256 * (t.clients + 1)) (new_files t.files) c e
    → e ≡ new_volume t
unfolding new_volume Puts
laid_out t a c e zeros few fits ends records files =
    let d : Bytes = encode_table t in
    let r : Bytes = repeated t.clients (encode_record idle_record) in
    let f : Bytes = new_files t.files in
    let n : ℕ = 256 * (t.sectors - end_sector t) in
    let full : length d ≡ 256 = table_length t few in
    let rl : length r ≡ 256 * t.clients = repeated_length t.clients (encode_record idle_record) idle_length in
    let behind : Puts 256 (r ++ f) (store_at a 0 d) e = puts_more 256 (256 * (t.clients + 1)) r f _ c e (omega arith) records files in
    let whole : Puts 0 (d ++ (r ++ f)) a e = puts_more 0 256 d (r ++ f) a _ e (omega arith) (puts_store 0 d a full) behind in
    let size : length (d ++ (r ++ f)) + n ≡ 256 * t.sectors =
    omega (arith, length-append d (r ++ f), length-append r f, new_files_length t.files (t.clients + 1) fits) in
    whole [] n refl (zeros ∙ rw size) ∙ rw (append_assoc d (r ++ f) (replicate n 0), append_assoc r f (replicate n 0))
