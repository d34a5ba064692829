-- What the tests of write found: the number of the refusal, or where the page goes.
use Rattle.std.proofs.Math.Option.{Option, none, some}
use Rattle.std.specs.Prelude.{ℕ, zero, suc, Result, Ok, Err}
use Rattle.interface.specs.declared.Refusal.{Refusal}
use Rattle.interface.specs.Answers.{refusal_number}
use Rattle.sector.specs.declared.layout.Entry.{Entry}
use Rattle.volume.specs.Views.{View}
use Rattle.rules.specs.Plans.{entry_for, chosen}
use Rattle.checks.specs.declared.Target.{Target}
use Rattle.checks.specs.declared.Target.TheVariants.{Again, New}

-- A refusal's number, the slot that the record has for the page, or the one that a new entry takes.
pub data WriteAnswer : Type 0 where
  refused_by again new : ℕ → WriteAnswer

-- Each case of the result.
abbrev pub write_found : Result Target Refusal → WriteAnswer
write_found (Err r) = refused_by (refusal_number r)
write_found (Ok (Again r)) = again r
write_found (Ok (New r)) = new r

-- The answer by the number that the tests give, the entry that the record has for the page, and the slot that is chosen.
abbrev pub answer_by : ℕ → Option Entry → ℕ → WriteAnswer
answer_by zero (some e) r = again e.slot
answer_by zero none r = new r
answer_by (suc n) o r = refused_by (suc n)

-- The answer to a write of page p of file f by client k, by the number that its tests give.
abbrev pub write_answer : ℕ → View → ℕ → ℕ → ℕ → WriteAnswer
write_answer n a k f p = answer_by n (entry_for a k f p) (chosen a k f p)
