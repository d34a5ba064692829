-- `take_mapped` meets its contract: what is taken, or is left of the map, stays the same.
use Rattle.std.proofs.Common.{ℕ, ◌<◌, ◌∙◌, arith, length}
use lib.Dec.{eqb}
use Rattle.lists.proofs.TestLaws.{drop_next, taken_more}
use Rattle.volume.specs.Volumes.{view}
use Rattle.byteset.specs.Set.{has_byte}
use Rattle.slots.proofs.SlotLaws.{one_more}
use Rattle.slots.proofs.take_mapped.Goals as goal

pub loop-r-preserved : goal.loop-r-preserved
loop-r-preserved c =
    let map = ((view c.args.x.volume.bytes.now).headers c.args.x.number).map in
    let lt : c.loop-r.r-index < length map = rw c.map-r-items.ensures at c.loop-r-test.true in
    let byte : c.from.result < 256 = omega (arith, c.type_inv.r-items c.loop-r.r-index) in
    record {
      taken = λ y. taken_more _ c.loop-r.r-index _ (drop_next {A = ℕ} map c.loop-r.r-index 0 lt) _ (eqb y) (has_byte c.loop-r.taken.words y) _ (c.loop-r.invariant.taken y)
          (one_more _ _ _ c.loop-r.taken.long byte c.insert.ensures.1 y ∙ rw (c.from.ensures, c.map-r-items.ensures));
    }
