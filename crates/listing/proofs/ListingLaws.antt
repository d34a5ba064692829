-- Any listing of a sound volume fits in 664 bytes: at most 4 lines of at most 18 bytes, and 16 of at most 37, by the digits
-- that the numbers of a sound volume can have. And what is written at the front is what the definition says.
use mathlib.Core.Path.{◌≡◌}
use mathlib.Core.Bool.{Bool, true, false}
use mathlib.Core.List.{[], ◌∷◌}
use Prim.Native.Nat.{ℕ, zero, suc, ◌+◌, ◌*◌, ◌≤◌, ◌<◌}
use native.Mathlib.Omega.{arith}
use borrow.Author.Tests.{le-ltb}
use lib.Dec.{eqb}
use lib.ListN.{length, length-append}
use Rattle.lists.specs.Lists.{when◌then◌else◌, from}
use Rattle.sector.specs.Contents.{Bytes}
use Rattle.volume.specs.Places.{IsFile, file_at}
use Rattle.volume.specs.Volumes.{Volume, view}
use Rattle.volume.specs.Sound.{sound}
use Rattle.volume.specs.Listing.{state_word, lines, listing, client_line_of, client_lines, file_line_of, file_lines}
use Rattle.volume.proofs.LawfulLaws.{Lawful, record_facts, lawful_facts, holder_four}
use Rattle.volume.proofs.SoundLaws.{sound_lawful}
use Rattle.std.specs.Prelude.{Ok}
use Rattle.text.specs.declared.Writer.{Writer}
use Rattle.text.specs.Writes.{Wrote}
use Rattle.listing.specs.Listed.{Listed, listed}
use Rattle.text.proofs.WritesLaws.{one_digit, below_100, any_number, wrote_more, wrote_front}
use Rattle.listing.proofs.LinesLaws.{client_length, file_length}

-- ------------------------------------------------------------------ how long it can be
word_length : (s : ℕ) → length (state_word s) ≤ 7
word_length s = go (eqb s 0) (eqb s 1)
  where
    go : (a b : Bool) → length {A = ℕ} (when a then 0x69 ∷ 0x64 ∷ 0x6C ∷ 0x65 ∷ [] else when b then 0x6F ∷ 0x70 ∷ 0x65 ∷ 0x6E ∷ []
        else 0x64 ∷ 0x65 ∷ 0x63 ∷ 0x69 ∷ 0x64 ∷ 0x65 ∷ 0x64 ∷ []) ≤ 7
    go true b = omega arith
    go false true = omega arith
    go false false = omega arith

lines_length : (line : ℕ → Bytes) (m n a : ℕ) → ((j : ℕ) → a ≤ j → j < a + n → length (line j) ≤ m) → length (lines line (from a n)) ≤ m * n
lines_length line m zero a h = omega arith
lines_length line m (suc n) a h =
    omega (
      arith,
      length-append (line a) (lines line (from (suc a) n)),
      h a (omega arith) (omega arith),
      lines_length line m n (suc a) (λ j lo hi. h j (omega arith) (omega arith)),
    )

module _ (v : Volume) (ok : sound v ≡ true) where
  facts : Lawful (view v).table (view v)
  facts = lawful_facts (view v) (sound_lawful v ok)

  client_18 : (k : ℕ) → 1 ≤ k → k < 1 + (view v).table.clients → length (client_line_of (view v) k) ≤ 18
  client_18 k lo hi =
      let r = (view v).records k in
      let count : length r.entries < 100 = omega (arith, (record_facts {t = (view v).table} {r = r} (facts.records k lo (omega arith))).few) in
      let digit = one_digit k (omega (arith, facts.table.four)) in
      omega (arith, client_length k r.state (length r.entries), digit, word_length r.state, below_100 (length r.entries) count)

  file_37 : (f : ℕ) → 1 ≤ f → f < 1 + length (view v).table.files → length (file_line_of (view v) f) ≤ 37
  file_37 f lo hi =
      let n = ((view v).headers f).holder in
      let x = file_at (view v).table f in
      let i : IsFile (view v).table f = record { low = lo; high = omega arith } in
      let few : f < 100 = omega (arith, facts.table.files.1) in
      omega (arith, file_length f n x.pages x.slots, below_100 f few, one_digit n (omega (arith, holder_four facts f i)), any_number x.pages, any_number x.slots)

  pub lines_fit : length (client_lines (view v)) + length (file_lines (view v)) ≤ 664
  lines_fit =
      let clients = lines_length (client_line_of (view v)) 18 (view v).table.clients 1 client_18 in
      let files = lines_length (file_line_of (view v)) 37 (length (view v).table.files) 1 file_37 in
      omega (arith, facts.table.four, facts.table.files.1)

  pub listing_fits : length (listing (view v)) ≤ 664
  unfolding listing
  listing_fits = omega (arith, length-append (client_lines (view v)) (file_lines (view v)), lines_fit)

-- ------------------------------------------------------------------ what is written
-- The lines of the clients and those of the files behind them are the listing.
pub wrote_listing : (v : Volume) {w x y : Writer} → Wrote (client_lines (view v)) w x → Wrote (file_lines (view v)) x y
    → Wrote (listing (view v)) w y
unfolding listing
wrote_listing v a b = wrote_more a b

-- So it is what the definition says, where o is what the buffer ends as.
pub listed_text : (v : Volume) {o : Bytes} {w x : Writer} → o ≡ x.out.now → w.at ≡ 0 → 664 ≤ length w.out.now → sound v ≡ true
    → Wrote (listing (view v)) w x → ◌≡◌ {A = Listed} (record { outcome = Ok x.at; out = o }) (listed v w.out.now)
unfolding listed
listed_text v {w = w} is e room ok a =
    let t = wrote_front e a (omega (arith, listing_fits v ok)) in
    rw (is, le-ltb (length w.out.now) 664 room, ok, t.0, t.1)
