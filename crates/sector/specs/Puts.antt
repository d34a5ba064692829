-- Bytes put where there were zeros: how a control sector is written, and how an array is laid out from its front.
use Rattle.std.specs.Prelude.{◌≡◌, ◌++◌, ℕ, ◌+◌, length, replicate}
use Rattle.sector.specs.Contents.{Bytes}

-- From b to c the bytes d were put at `at`: if b is any bytes up to there and then zeros, c is these bytes, d and the zeros left.
-- Of another b it says nothing: the array has been cleared before.
unfoldable pub Puts : ℕ → Bytes → Bytes → Bytes → Type 0
Puts at d b c = (p : Bytes) (n : ℕ) → length p ≡ at → b ≡ p ++ replicate (length d + n) 0 → c ≡ p ++ (d ++ replicate n 0)
