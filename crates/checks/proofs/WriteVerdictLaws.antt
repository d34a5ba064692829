-- What the tests of write answer, by the number that they give.
use mathlib.Core.Path.{◌≡◌}
use mathlib.Core.Option.{Option}
use Prim.Native.Nat.{ℕ}
use Rattle.sector.specs.declared.layout.Entry.{Entry}
use Rattle.checks.specs.Writes.{WriteAnswer, answer_by}

-- The answer is by the number.
pub same_answer_lem : (w : WriteAnswer) (n m : ℕ) (o : Option Entry) (r : ℕ) → n ≡ m → w ≡ answer_by n o r → w ≡ answer_by m o r
same_answer_lem w n m o r e q = rw (← e) q
