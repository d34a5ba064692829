-- `store` meets its contract: a turn copies byte `i`, so that the part has one more of the source's bytes; the part lent is the sector,
-- and comes back as the source.
use mathlib.Core.Path.{◌≡◌, refl, ◌∙◌}
use native.Mathlib.Omega.{arith}
use lib.ListN.{length-set}
use Rattle.sector.proofs.PartLaws.{part_length, copy_turn, copy_end, lent_part}
use Rattle.sector.proofs.write.store.Goals as goal

pub loop-i-init : goal.loop-i-init
loop-i-init c = (part_length c.args.v.now c.args.s c.requires.0, refl)

pub loop-i-preserved : goal.loop-i-preserved
loop-i-preserved c =
    (simp length-set c.loop-i.invariant.0, rw c.loop-i.invariant.1 (copy_turn c.args.src.now _ c.loop-i.i (omega arith) c.loop-i-test.true))

pub returns : goal.returns
returns c =
    let n = part_length c.args.v.now c.args.s c.requires.0 in
    let k : c.loop-i.i ≡ 256 = omega (arith, n) in
    lent_part c.args.v.now c.args.s _ _ (c.loop-i.invariant.1 ∙ rw k (copy_end c.args.src.now _ c.told-src n))
