-- A buffer filled with values from its front on: one more value behind those that are there.
use mathlib.Core.Path.{◌≡◌, refl, sym, ◌∙◌}
use Prim.Native.Nat.{ℕ, ◌+◌, ◌<◌}
use native.Mathlib.Numerals.{add-one}
use lib.ListN.{length, take, set}
use lib.Seq.{take-suc-set, take-length}
use Rattle.sector.specs.Contents.{Bytes}
use Rattle.commands.specs.Lines.{values}

pub values_none : (f : ℕ → ℕ) (b : Bytes) → take 0 b ≡ values f 0
unfolding values
values_none f b = refl

pub values_more : (f : ℕ → ℕ) (b : Bytes) (i x : ℕ) → i < length b → x ≡ f i → take i b ≡ values f i
    → take (i + 1) (set b i x) ≡ values f (i + 1)
unfolding values
values_more f b i x h e q = rw (add-one i, take-suc-set b i x h, e, q)

-- A list of n bytes that is values from its front to its end.
pub values_all : (f : ℕ → ℕ) (b : Bytes) {i n : ℕ} → i ≡ length b → n ≡ length b → take i b ≡ values f i → b ≡ values f n
values_all f b h l e = rw (l, ← h) (sym (rw (h, take-length b)) ∙ e)
