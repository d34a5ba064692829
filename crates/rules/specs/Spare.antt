-- M-104, "How many sectors are left": the question about one file, and the count that it answers.
use Rattle.std.specs.Prelude.{◌≡◌, true, not, List, [], ◌∷◌, ℕ, zero, suc, ◌+◌, length}
use Rattle.interface.specs.Answers.{CountAnswer, counted, count_refused}
use Rattle.lists.specs.Lists.{first, filter, member, from}
use Rattle.sector.specs.Contents.{Bytes}
use Rattle.sector.specs.Sectors.{sector}
use Rattle.sector.specs.Decoding.{spare_in}
use Rattle.sector.specs.Encoded.{has_header_mark}
use Rattle.volume.specs.Places.{IsFile, file_at, header_place}
use Rattle.volume.specs.Views.{View}
use Rattle.volume.specs.Volumes.{Volume, bytes_at, view}
use Rattle.volume.specs.Sound.{sound, table_sound_in}
use Rattle.rules.specs.Refusals.{Test, not_sound, file_missing}

-- ------------------------------------------------------------------ the question
-- The sector of file f's header.
abbrev pub header_of : Volume → (file : ℕ) → Bytes
header_of v f = bytes_at (view v).table v (header_place f)

-- "this question tests sector 0 and the array's length by 1, then 6, then that header's mark by 1"
abbrev pub spare_tests : Volume → (file : ℕ) → List Test
spare_tests v f = not_sound (table_sound_in v) ∷ file_missing (view v) f ∷ not_sound (has_header_mark (header_of v f)) ∷ []

-- The number is the refusal's, or 0. It "answers that byte", byte 3 of the header.
abbrev pub spare_by : ℕ → Volume → (file : ℕ) → CountAnswer
spare_by zero v f = counted (spare_in (header_of v f))
spare_by (suc n) v f = count_refused (suc n)

-- "A question about one file". It takes no session, makes no store and hands back no session.
unfoldable pub spare : Volume → (file : ℕ) → CountAnswer
spare v f = spare_by (first (spare_tests v f)) v f

-- It "reads sector 0 and its header": arrays of one length that have these two alike get the same answer, whatever their records,
-- other headers, slots and later sectors are. A file that there isn't has no header: sector 0 alone answers.
abbrev pub SpareReads : Type 0
SpareReads = (v w : Volume) (f : ℕ) → length v ≡ length w → sector v 0 ≡ sector w 0 → (IsFile (view v).table f → header_of v f ≡ header_of w f)
    → spare v f ≡ spare w f

-- ------------------------------------------------------------------ the count taken from the whole map
-- The slots of file f that its map uses, and those "that its map doesn't use", "each found from the map": every slot is looked for
-- in it.
abbrev pub mapped_slots : View → (file : ℕ) → List ℕ
mapped_slots a f = filter (λ r. member r (a.headers f).map) (from 0 (file_at a.table f).slots)

abbrev pub unmapped_slots : View → (file : ℕ) → List ℕ
unmapped_slots a f = filter (λ r. not (member r (a.headers f).map)) (from 0 (file_at a.table f).slots)

-- "on a sound volume this equals the count taken from the whole map": the question about a file that there is isn't refused, and
-- so many are left.
abbrev pub SpareIsCount : Type 0
SpareIsCount = (v : Volume) (f : ℕ) → sound v ≡ true → IsFile (view v).table f → spare v f ≡ counted (length (unmapped_slots (view v) f))

-- "For every file, mapped and unmapped reals together make R"; and in a sound volume each page has a mapped one of its own.
abbrev pub SlotsTogether : Type 0
SlotsTogether = (a : View) (f : ℕ) → length (mapped_slots a f) + length (unmapped_slots a f) ≡ (file_at a.table f).slots

abbrev pub SlotOfEachPage : Type 0
SlotOfEachPage = (v : Volume) (f : ℕ) → sound v ≡ true → IsFile (view v).table f
    → length (mapped_slots (view v) f) ≡ (file_at (view v).table f).pages
