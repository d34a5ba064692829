-- Examples of the listing: numbers and words in ASCII, the lines, and what the program prints, at the longest array and one byte
-- beyond it. The checker evaluates both sides.
use mathlib.Core.Path.{◌≡◌, refl}
use mathlib.Core.List.{[], ◌∷◌, ◌++◌, map}
use lib.ListN.{length}
use Rattle.lists.specs.Lists.{when◌then◌else◌}
use Rattle.volume.specs.Views.{set_record, set_header, changed_by}
use Rattle.volume.specs.Volumes.{Volume, view}
use Rattle.volume.specs.Sound.{sound}
use Rattle.volume.specs.Listing.{decimal, state_word, client_line, file_line, listing, not_sound_text, too_long_text, printed}
use Rattle.volume.proofs.PlaceExamples.{header, before, opened}

-- 0, 9, 10, 62, 99, 100, 120, 209 and 240
numbers : map decimal (0 ∷ 9 ∷ 10 ∷ 62 ∷ 99 ∷ 100 ∷ 120 ∷ 209 ∷ 240 ∷ [])
    ≡ (0x30 ∷ []) ∷ (0x39 ∷ []) ∷ (0x31 ∷ 0x30 ∷ []) ∷ (0x36 ∷ 0x32 ∷ []) ∷ (0x39 ∷ 0x39 ∷ []) ∷ (0x31 ∷ 0x30 ∷ 0x30 ∷ [])
    ∷ (0x31 ∷ 0x32 ∷ 0x30 ∷ [])
    ∷ (0x32 ∷ 0x30 ∷ 0x39 ∷ []) ∷ (0x32 ∷ 0x34 ∷ 0x30 ∷ []) ∷ []
unfolding decimal
numbers = refl

-- "state word (idle, open, decided)"
state_words : map state_word (0 ∷ 1 ∷ 2 ∷ []) ≡ (0x69 ∷ 0x64 ∷ 0x6C ∷ 0x65 ∷ []) ∷ (0x6F ∷ 0x70 ∷ 0x65 ∷ 0x6E ∷ [])
    ∷ (0x64 ∷ 0x65 ∷ 0x63 ∷ 0x69 ∷ 0x64 ∷ 0x65 ∷ 0x64 ∷ []) ∷ []
state_words = refl

-- `kiln 4 open 1`
client_line_lem : client_line 4 1 1 ≡ 0x6B ∷ 0x69 ∷ 0x6C ∷ 0x6E ∷ 0x20 ∷ 0x34 ∷ 0x20 ∷ 0x6F ∷ 0x70 ∷ 0x65 ∷ 0x6E ∷ 0x20 ∷ 0x31 ∷ 0x0A
    ∷ []
unfolding client_line decimal
client_line_lem = refl

-- `file 16 kiln 3 pages 120 sectors 240`
file_line_lem : file_line 16 3 120 240
    ≡ 0x66 ∷ 0x69 ∷ 0x6C ∷ 0x65 ∷ 0x20 ∷ 0x31 ∷ 0x36 ∷ 0x20 ∷ 0x6B ∷ 0x69 ∷ 0x6C ∷ 0x6E ∷ 0x20 ∷ 0x33
    ∷ 0x20 ∷ 0x70 ∷ 0x61 ∷ 0x67 ∷ 0x65 ∷ 0x73 ∷ 0x20 ∷ 0x31 ∷ 0x32 ∷ 0x30 ∷ 0x20 ∷ 0x73 ∷ 0x65 ∷ 0x63 ∷ 0x74 ∷ 0x6F ∷ 0x72 ∷ 0x73
    ∷ 0x20 ∷ 0x32 ∷ 0x34 ∷ 0x30 ∷ 0x0A ∷ []
unfolding file_line decimal
file_line_lem = refl

-- A line for each client, then one for each file, each with its own record and header.
all_lines : listing (changed_by before (set_record 2 opened ∷ set_header 3 (header 4 []) ∷ []))
    ≡ client_line 1 1 0 ++ (client_line 2 1 1 ++ (file_line 1 1 2 3 ++ (file_line 2 1 1 3 ++ file_line 3 4 1 1)))
unfolding listing client_line file_line decimal
all_lines = refl

-- `too long`, `not sound`
texts : too_long_text ∷ not_sound_text ∷ []
    ≡ (0x74 ∷ 0x6F ∷ 0x6F ∷ 0x20 ∷ 0x6C ∷ 0x6F ∷ 0x6E ∷ 0x67 ∷ 0x0A ∷ [])
    ∷ (0x6E ∷ 0x6F ∷ 0x74 ∷ 0x20 ∷ 0x73 ∷ 0x6F ∷ 0x75 ∷ 0x6E ∷ 0x64 ∷ 0x0A ∷ []) ∷ []
texts = refl

-- "Above 65,536 bytes it prints `too long`", sound or not; at 65,536 it doesn't.
longest : (v : Volume) → length v ≡ 65536 → printed v ≡ (when sound v then listing (view v) else not_sound_text)
unfolding printed
longest v e = rw e

too_long : (v : Volume) → length v ≡ 65537 → printed v ≡ too_long_text
unfolding printed
too_long v e = rw e
