-- Bytes as uppercase hexadecimal digits.
use Rattle.std.specs.Prelude.{[], ◌∷◌, ℕ, ◌+◌, ◌/◌, ◌%◌, ltb, length}
use Rattle.lists.specs.Lists.{when◌then◌else◌}
use Rattle.sector.specs.Contents.{Bytes}
use Rattle.text.specs.Writes.{ToPrint, text_first, nothing_first}

-- A digit in ASCII.
abbrev pub hex_digit : ℕ → ℕ
hex_digit n = when ltb n 10 then 48 + n else 55 + n

-- Two digits for each byte.
unfoldable pub hex_text : Bytes → Bytes
hex_text [] = []
hex_text (b ∷ l) = hex_digit (b / 16) ∷ hex_digit (b % 16) ∷ hex_text l

-- The digits stand at the front; without room for them, nothing is written.
unfoldable pub in_hex : Bytes → Bytes → ToPrint
in_hex l out = when ltb (length out / 2) (length l) then nothing_first out else text_first (hex_text l) out
