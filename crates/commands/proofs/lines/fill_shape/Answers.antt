-- `fill_shape` meets its contract: up to i there are the values.
use mathlib.Core.Path.{refl}
use Prim.Native.Nat.{◌+◌}
use native.Mathlib.Omega.{arith}
use lib.ListN.{length-set}
use Rattle.commands.specs.Lines.{byte_argument}
use Rattle.commands.proofs.LineLaws.{values_none, values_more, values_all}
use Rattle.commands.proofs.lines.fill_shape.Goals as goal

pub loop-i-init : goal.loop-i-init
loop-i-init c = (refl, values_none _ c.args.shape.now)

pub loop-i-preserved : goal.loop-i-preserved
loop-i-preserved c = (
  simp length-set c.loop-i.invariant.0,
  values_more (λ j. byte_argument (j + 3) c.args.line.now) c.loop-i.shape c.loop-i.i c.byte_argument.result (omega arith)
      c.byte_argument.ensures c.loop-i.invariant.1,
)

pub returns : goal.returns
returns c = values_all _ c.loop-i.shape (omega arith) (omega arith) c.loop-i.invariant.1
