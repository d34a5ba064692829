-- The choices by number: how many there are, and that a number taken apart by division gives the parts of what stands there. The lists
-- of entries, and how many there are of each kind, are evaluated.
use mathlib.Core.Path.{◌≡◌, refl, sym, ap, ◌∙◌}
use mathlib.Core.Bool.{true}
use mathlib.Core.List.{List, [], ◌∷◌, ◌++◌, map, flat_map}
use mathlib.Core.Logic.{◌≢◌}
use Prim.Native.Nat.{ℕ, zero, suc, ◌+◌, ◌-◌, ◌/◌, ◌%◌, ◌≤◌, ◌<◌}
use native.Mathlib.Nat.{not-suc-le-zero}
use native.Mathlib.Omega.{arith}
use borrow.Author.Tests.{leb-true}
use lib.Dec.{leb}
use lib.ListN.{length, get_or, drop}
use Rattle.lists.specs.Lists.{every, from}
use Rattle.lists.proofs.ListLaws.{every_at}
use Rattle.lists.proofs.SearchLaws.{from_at}
use Rattle.lists.proofs.CaseLaws.{by_equal}
use Rattle.sector.specs.Layout.{entry_limit}
use Rattle.sector.specs.Contents.{Bytes, idle_record}
use Rattle.sector.specs.declared.layout.Entry.{Entry}
use Rattle.sector.specs.Encoding.{encode_record}
use Rattle.sector.specs.Decoding.{count_in}
use Rattle.sector.proofs.EditLaws.{record_count}
use Rattle.volume.specs.Views.{no_header}
use Rattle.volume.specs.WellFormed.{no_entry}
use Rattle.enumeration.specs.Lists.{lists_of}
use Rattle.enumeration.specs.Choices.{entry_choices, entry_lists, record_choices, map_choices, header_choices}
use Rattle.enumeration.specs.Small.{small_volume, candidates}
use Rattle.enumeration.proofs.PairLaws.{pairs_index}

-- ------------------------------------------------------------------ how many there are
pub entries_count : length entry_choices ≡ 6
unfolding flat_map entry_choices
entries_count = refl

pub lists_count : length entry_lists ≡ 43
unfolding flat_map lists_of entry_choices entry_lists
lists_count = refl

pub records_count : length record_choices ≡ 129
unfolding flat_map lists_of entry_choices entry_lists record_choices
records_count = refl

pub maps_count : length map_choices ≡ 9
unfolding flat_map lists_of map_choices
maps_count = refl

pub headers_count : length header_choices ≡ 18
unfolding flat_map lists_of map_choices header_choices
headers_count = refl

pub candidates_count : length candidates ≡ 2322
unfolding flat_map lists_of entry_choices entry_lists record_choices map_choices header_choices candidates
candidates_count = refl

-- ------------------------------------------------------------------ lists of entries
-- Functions that agree on the numbers from a on.
agree_at : {A : Type 0} (f g : ℕ → A) (n a : ℕ) → map f (from a n) ≡ map g (from a n) → (i : ℕ) → a ≤ i → i < a + n → f i ≡ g i
agree_at f g zero a e i lo hi = absurd (not-suc-le-zero {n = 0} (omega arith))
agree_at f g (suc n) a e i lo hi =
    by_equal i a (λ q. rw q (ap (λ l. get_or l 0 (g a)) e)) (λ q. agree_at f g n (suc a) (ap (λ l. drop 1 l) e) i (omega arith) (omega arith))

-- List 0 is empty; list k is list (k - 1) / 6 with entry (k - 1) % 6 behind it.
abbrev longer : ℕ → List Entry
longer k = get_or entry_lists ((k - 1) / 6) [] ++ (get_or entry_choices ((k - 1) % 6) no_entry ∷ [])

pub list_first : get_or entry_lists 0 [] ≡ []
unfolding flat_map lists_of entry_lists
list_first = refl

pub list_longer : (k : ℕ) → k ≢ 0 → k < 43
    → get_or entry_lists k [] ≡ get_or entry_lists ((k - 1) / 6) [] ++ (get_or entry_choices ((k - 1) % 6) no_entry ∷ [])
unfolding flat_map lists_of entry_choices entry_lists
list_longer k n lt = agree_at (λ k. get_or entry_lists k []) longer 42 1 refl k (omega arith) (omega arith)

lists_few : every (λ es. leb (length es) 2) entry_lists ≡ true
unfolding flat_map lists_of entry_choices entry_lists
lists_few = refl

pub list_few : (k : ℕ) → k < 43 → length (get_or entry_lists k []) ≤ 2
list_few k lt = leb-true _ _ (every_at (λ (es : List Entry). leb (length es) 2) entry_lists k [] lists_few (rw lists_count lt))

-- There is room for one more.
pub list_room : (s k : ℕ) (d : Bytes) → k < 43 → d ≡ encode_record (record { state = s; entries = get_or entry_lists k [] }) → count_in d < entry_limit
list_room s k d lt e = rw (e, record_count (record { state = s; entries = get_or entry_lists k [] })) (omega (arith, list_few k lt))

-- ------------------------------------------------------------------ records, headers and candidates
pub record_at : (a : ℕ) → a < 129 → get_or record_choices a idle_record ≡ record { state = a / 43; entries = get_or entry_lists (a % 43) [] }
unfolding record_choices
record_at a lt =
    let state : get_or (from 0 3) (a / 43) 0 ≡ a / 43 = from_at 3 0 (a / 43) (omega arith) ∙ omega arith in
    pairs_index (λ s (es : List Entry). record { state = s; entries = es }) entry_lists (from 0 3) a (a / 43) (a % 43) 43 0 [] idle_record
    lists_count (omega arith) (omega arith) (omega arith)
    ∙ ap (λ s. record { state = s; entries = get_or entry_lists (a % 43) [] }) state

pub header_at : (b : ℕ) → b < 18 → get_or header_choices b no_header ≡ record { holder = b / 9; map = get_or map_choices (b % 9) [] }
unfolding header_choices
header_at b lt =
    let holder : get_or (from 0 2) (b / 9) 0 ≡ b / 9 = from_at 2 0 (b / 9) (omega arith) ∙ omega arith in
    pairs_index (λ k (m : List ℕ). record { holder = k; map = m }) map_choices (from 0 2) b (b / 9) (b % 9) 9 0 [] no_header
    maps_count (omega arith) (omega arith) (omega arith)
    ∙ ap (λ k. record { holder = k; map = get_or map_choices (b % 9) [] }) holder

-- A header with the map of the number.
pub header_made : (b : ℕ) (m : List ℕ) → b < 18 → length m ≡ 2 → m ≡ get_or map_choices (b % 9) []
    → record { holder = b / 9; map = get_or m 0 0 ∷ get_or m 1 0 ∷ [] } ≡ get_or header_choices b no_header
header_made b m lt two e = ap (λ (m : List ℕ). record { holder = b / 9; map = m }) (both m two ∙ e) ∙ sym (header_at b lt)
  where
    both : (m : List ℕ) → length m ≡ 2 → get_or m 0 0 ∷ get_or m 1 0 ∷ [] ≡ m
    both [] e = absurd (omega arith)
    both (x ∷ []) e = absurd (omega arith)
    both (x ∷ y ∷ []) e = refl
    both (x ∷ y ∷ z ∷ m) e = absurd (omega arith)

pub candidate_at : (i : ℕ) → i < 2322
    → get_or candidates i [] ≡ small_volume (get_or record_choices (i / 18) idle_record) (get_or header_choices (i % 18) no_header)
unfolding candidates
candidate_at i lt =
    pairs_index small_volume header_choices record_choices i (i / 18) (i % 18) 18 idle_record no_header []
    headers_count (omega arith) (rw records_count (omega arith)) (omega arith)
