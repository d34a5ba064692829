-- `fill` meets its contract: up to here there are the values, and the next one is known.
use mathlib.Core.Path.{refl}
use Prim.Native.Nat.{◌+◌, ◌%◌}
use native.Mathlib.Omega.{arith}
use lib.ListN.{length-set}
use Rattle.commands.proofs.LineLaws.{values_none, values_more, values_all}
use Rattle.commands.proofs.lines.fill.Goals as goal

pub loop-x-init : goal.loop-x-init
loop-x-init c = (refl, omega arith, values_none _ c.args.part.now)

pub loop-x-preserved : goal.loop-x-preserved
loop-x-preserved c = (
  simp length-set c.loop-x.invariant.0,
  omega (arith, c.loop-x.invariant.1),
  values_more (λ j. (c.args.seed + j) % 256) c.loop-x.part c.loop-x.x-index c.loop-x.next (omega arith) c.loop-x.invariant.1
      c.loop-x.invariant.2,
)

pub returns : goal.returns
returns c = values_all _ c.loop-x.part (omega arith) (omega arith) c.loop-x.invariant.2
