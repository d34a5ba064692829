-- `take_given` meets its contract: the slot of an entry for the file is put into the set.
use Rattle.std.proofs.Common.{◌<◌, ◌∙◌, arith}
use borrow.Author.Tests.{eq-eqb}
use lib.Dec.{eqb}
use Rattle.lists.proofs.CaseLaws.{eqb_sym, or_turn}
use Rattle.byteset.specs.Set.{has_byte}
use Rattle.slots.proofs.SlotLaws.{one_more}
use Rattle.slots.proofs.take_given.Goals as goal

pub loop-e-preserved-then-e-f : goal.loop-e-preserved-then-e-f
loop-e-preserved-then-e-f c =
    let byte : c.from.result < 256 = omega arith in
    record {
      taken = λ y.
          rw (one_more _ _ _ c.loop-e.taken.long byte c.insert.ensures.1 y)
          (or_turn (eqb y c.from.result) (has_byte c.loop-e.taken.words y) _
          ∙ rw (eqb_sym y c.from.result, c.from.ensures) (rw (c.in-Some.ensures.steps, eq-eqb _ _ c.if-e-f.true) at c.loop-e.invariant.taken y));
    }
