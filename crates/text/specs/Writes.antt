-- Bytes written over those of a buffer.
use Rattle.std.specs.Prelude.{◌≡◌, ◌++◌, ℕ, ◌+◌, ◌≤◌, length, drop}
use Rattle.std.proofs.lemmas.List.Edits.{sets}
use Rattle.sector.specs.Contents.{Bytes}
use Rattle.text.specs.declared.Writer.{Writer}

-- A text of n bytes fits behind what this writer has written.
abbrev pub HasRoom : Writer → ℕ → Type 0
HasRoom w n = w.at + n ≤ length w.out.now

-- From w to x the bytes d were written, one after the other: the buffer is the same one, and as long as it was; they stand in it
-- where w was, and x is at the place behind them.
pub record Wrote (d : Bytes) (w x : Writer) : Type 0 where
  pub same : x.out.ghost_name ≡ w.out.ghost_name
  pub size : length x.out.now ≡ length w.out.now
  pub bytes : x.out.now ≡ sets w.out.now w.at d
  pub next : x.at ≡ w.at + length d

-- The text stands at the front, and what is behind it is as it was.
abbrev pub at_front : Bytes → Bytes → Bytes
at_front text out = text ++ drop (length text) out

-- How many bytes are to be printed, and the bytes that have them at the front.
pub record ToPrint : Type 0 where
  pub count : ℕ
  pub out : Bytes

-- This text is to be printed.
abbrev pub text_first : Bytes → Bytes → ToPrint
text_first text out = record { count = length text; out = at_front text out }

-- Nothing is.
abbrev pub nothing_first : Bytes → ToPrint
nothing_first out = record { count = 0; out = out }
