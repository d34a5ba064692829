-- A walk's start and its steps: an item's bytes are the front of what is left, and the walk goes on behind them.
use mathlib.Core.Path.{◌≡◌, refl}
use mathlib.Core.List.{[], ◌∷◌}
use Prim.Native.Nat.{ℕ, zero, suc, ◌+◌, ◌*◌, ◌-◌, ◌/◌, ◌<◌, ◌≤◌}
use native.Mathlib.Nat.{not-suc-le-zero}
use native.Mathlib.Omega.{arith}
use lib.ListN.{length, take, drop, length-drop}
use lib.Seq.{length-take-le, get_or-take}
use Rattle.std.proofs.lemmas.List.{drop-take}
use Rattle.sector.specs.Layout.{items_offset, item_length, page_offset, slot_offset, entry_limit}
use Rattle.sector.specs.Contents.{Bytes}
use Rattle.sector.specs.Sectors.{byte}
use Rattle.sector.specs.Decoding.{count_in, decode_entries, decode_record}
use Rattle.sector.specs.Shapes.{files_of}

-- ------------------------------------------------------------------ a record's entries
-- The first n are in the first 4 n bytes.
entries_front : (n : ℕ) (l : Bytes) → decode_entries n (take (item_length * n) l) ≡ decode_entries n l
unfolding decode_entries
entries_front zero l = refl
entries_front (suc n) l =
    let size : 4 * suc n ≡ 4 + 4 * n = omega arith in
    let m : ℕ = 4 + 4 * n in
    let byte_of : (i : ℕ) → i < m → byte (take m l) i ≡ byte l i = λ i h. get_or-take m l i 0 h in
    rw (size, byte_of 0 (omega arith), byte_of 1 (omega arith), byte_of 2 (omega arith), drop-take 4 (4 * n) l, entries_front n (drop 4 l))

-- So a walk over these bytes has all of them.
pub entries_of : (d : Bytes) (n : ℕ) (l : Bytes) → length d ≡ 256 → n ≤ entry_limit → n ≡ count_in d
    → l ≡ take (items_offset + item_length * n - items_offset) (drop items_offset d)
    → decode_entries (length l / item_length) l ≡ (decode_record d).entries
unfolding decode_record
entries_of d n l full few e q =
    let all : Bytes = drop 8 d in
    let size : 8 + 4 * n - 8 ≡ 4 * n = omega arith in
    let room : 4 * n ≤ length all = omega (arith, length-drop 8 d) in
    let held : length (take (4 * n) all) / 4 ≡ n = omega (arith, length-take-le (4 * n) all room) in
    rw (q, size, held, ← e) (entries_front n all)

pub no_entries : (l : Bytes) → length l < item_length → decode_entries (length l / item_length) l ≡ []
unfolding decode_entries
no_entries l short =
    let none : length l / 4 ≡ 0 = omega arith in
    rw none

pub entries_step : (l front back : Bytes) → item_length ≤ length l → front ≡ take item_length l → back ≡ drop item_length l
    → decode_entries (length l / item_length) l
    ≡ record { file = byte front 0; page = byte front page_offset; slot = byte front slot_offset } ∷ decode_entries (length back / item_length) back
unfolding decode_entries
entries_step l front back more e q =
    let one : length l / 4 ≡ suc (length (drop 4 l) / 4) = omega (arith, length-drop 4 l) in
    rw (e, q, one, get_or-take 4 l 0 0 (omega arith), get_or-take 4 l 1 0 (omega arith), get_or-take 4 l 2 0 (omega arith))

-- ------------------------------------------------------------------ the files of a list of pairs
pub no_files : (l : Bytes) → length l < 2 → files_of l ≡ []
unfolding files_of
no_files [] h = refl
no_files (p ∷ []) h = refl
no_files (p ∷ r ∷ l) h = absurd (not-suc-le-zero {n = 0} (omega arith))

pub files_step : (l pair rest : Bytes) → 2 ≤ length l → pair ≡ take 2 l → rest ≡ drop 2 l
    → files_of l ≡ record { pages = byte pair 0; slots = byte pair 1 } ∷ files_of rest
unfolding files_of
files_step [] pair rest h e q = absurd (not-suc-le-zero {n = 0} (omega arith))
files_step (p ∷ []) pair rest h e q = absurd (not-suc-le-zero {n = 0} (omega arith))
files_step (p ∷ r ∷ l) pair rest h e q = rw (e, q)
