-- `slots_of_map` meets its contract. The loop keeps that the slots that are left decide, by those in `seen`.
use native.Mathlib.Omega.{arith}
use mathlib.Core.Path.{refl, sym, ◌∙◌}
use Rattle.lists.proofs.TestLaws.{drop_next, none_of}
use Rattle.sector.specs.Decoding.{decode_header}
use Rattle.header_test.proofs.HeaderLaws.{map_all, slot_high, slot_twice, map_more, map_done}
use Rattle.header_test.proofs.slots_of_map.Goals as goal

pub loop-r-init : goal.loop-r-init
loop-r-init c = rw c.new-seen.ensures (map_all _ _)

pub returns-then-x-r : goal.returns-then-x-r
unfolding decode_header
returns-then-x-r c =
    let next = drop_next c.map-r-items.result.now c.loop-r.r-index 0 (omega (arith, c.loop-r-test.true)) in
    rw c.map-r-items.ensures at (slot_high c.loop-r.invariant _ _ next c.if-x-r.true)

pub returns-then-not-insert : goal.returns-then-not-insert
unfolding decode_header
returns-then-not-insert c =
    let next = drop_next c.map-r-items.result.now c.loop-r.r-index 0 (omega (arith, c.loop-r-test.true)) in
    let twice = rw c.from.ensures at (sym c.insert.ensures.0 ∙ c.if-not-insert.true) in
    rw c.map-r-items.ensures at (slot_twice c.loop-r.invariant _ _ next twice)

pub loop-r-preserved : goal.loop-r-preserved
loop-r-preserved c =
    let next = drop_next c.map-r-items.result.now c.loop-r.r-index 0 (omega (arith, c.loop-r-test.true)) in
    let new = rw c.from.ensures at (sym c.insert.ensures.0 ∙ c.if-not-insert.false) in
    rw (c.insert.ensures.1, c.from.ensures) (map_more c.loop-r.invariant _ _ next c.if-x-r.false new (omega (arith, c.type_inv.r-items c.loop-r.r-index)))

pub returns : goal.returns
unfolding decode_header
returns c =
    let end = none_of c.map-r-items.result.now _ c.loop-r.r-index refl (omega (arith, c.loop-r-test.false)) in
    rw c.map-r-items.ensures at (map_done c.loop-r.seen (rw end at c.loop-r.invariant))
