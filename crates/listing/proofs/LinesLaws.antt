-- The length of a line of the listing, by its parts. Then the loop that writes a line for each of the numbers 1 to n: where it
-- starts, a turn and its end, by the first of the lines that are left.
use mathlib.Core.Path.{◌≡◌}
use mathlib.Core.List.{[], ◌∷◌, ◌++◌}
use Prim.Native.Nat.{ℕ, suc, ◌+◌, ◌-◌, ◌≤◌}
use native.Mathlib.Numerals.{add-one}
use native.Mathlib.Omega.{arith}
use lib.ListN.{length, length-append}
use Rattle.lists.specs.Lists.{from}
use Rattle.sector.specs.Contents.{Bytes}
use Rattle.volume.specs.Listing.{decimal, state_word, client_text, sectors_text, pages_text, client_line, file_line, lines}
use Rattle.text.specs.declared.Writer.{Writer}
use Rattle.text.specs.Writes.{HasRoom, Wrote}
use Rattle.text.proofs.WritesLaws.{wrote_more}

-- ------------------------------------------------------------------ one line
pub client_length : (k state count : ℕ)
    → length (client_line k state count) ≡ 8 + length (decimal k) + length (state_word state) + length (decimal count)
unfolding client_line
client_length k state count =
    let c : Bytes = decimal count ++ (0x0A ∷ []) in
    let s : Bytes = state_word state ++ (0x20 ∷ c) in
    omega (arith, length-append (decimal k) (0x20 ∷ s), length-append (state_word state) (0x20 ∷ c), length-append (decimal count) (0x0A ∷ []))

pub file_length : (f holder pages slots : ℕ)
    → length (file_line f holder pages slots) ≡ 28 + length (decimal f) + length (decimal holder) + length (decimal pages) + length (decimal slots)
unfolding file_line
file_length f holder pages slots =
    let s : Bytes = decimal slots ++ (0x0A ∷ []) in
    let p : Bytes = decimal pages ++ (sectors_text ++ s) in
    let o : Bytes = decimal holder ++ (pages_text ++ p) in
    omega (
      arith,
      length-append (decimal f) (0x20 ∷ (client_text ++ o)),
      length-append (decimal holder) (pages_text ++ p),
      length-append (decimal pages) (sectors_text ++ s),
      length-append (decimal slots) (0x0A ∷ []),
    )

-- ------------------------------------------------------------------ the lines of the numbers 1 to n
-- They are being written from w on, and k is next: w has become x, those from k on have room, and whoever writes them has written
-- all.
pub record Writing (line : ℕ → Bytes) (n : ℕ) (w : Writer) (k : ℕ) (x : Writer) : Type 0 where
  pub room : HasRoom x (length (lines line (from k (n + 1 - k))))
  pub rest : {y : Writer} → Wrote (lines line (from k (n + 1 - k))) x y → Wrote (lines line (from 1 n)) w y

lines_from : (line : ℕ → Bytes) (n k : ℕ) → k ≤ n → lines line (from k (n + 1 - k)) ≡ line k ++ lines line (from (k + 1) (n + 1 - (k + 1)))
lines_from line n k h =
    let m : n + 1 - k ≡ suc (n + 1 - (k + 1)) = omega arith in
    rw (m, add-one k)

pub writing_starts : (line : ℕ → Bytes) (n : ℕ) (w : Writer) → HasRoom w (length (lines line (from 1 n))) → Writing line n w 1 w
writing_starts line n w room =
    let e : n + 1 - 1 ≡ n = omega arith in
    record { room = rw e room; rest = λ a. rw e at a }

module _ {line : ℕ → Bytes} {n k : ℕ} {w x : Writer} (now : Writing line n w k x) where
  next_room : k ≤ n → x.at + (length (line k) + length (lines line (from (k + 1) (n + 1 - (k + 1))))) ≤ length x.out.now
  next_room h = rw (lines_from line n k h, length-append (line k) (lines line (from (k + 1) (n + 1 - (k + 1))))) at now.room

  pub writing_room : k ≤ n → HasRoom x (length (line k))
  writing_room h = omega (arith, next_room h)

  pub writing_turn : {y : Writer} → k ≤ n → Wrote (line k) x y → Writing line n w (k + 1) y
  writing_turn h one = record {
    room = omega (arith, one.next, one.size, next_room h);
    rest = λ a. now.rest (rw (lines_from line n k h) (wrote_more one a));
  }
