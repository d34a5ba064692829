-- `put_map` meets its contract: a turn puts the slot of page `p`, so that what puts those from `p` + 1 on still puts the whole map.
-- At the end none are left to put.
use mathlib.Core.Path.{◌≡◌}
use Prim.Native.Nat.{◌+◌, ◌-◌}
use native.Mathlib.Omega.{arith}
use Rattle.sector.specs.Layout.{items_offset}
use Rattle.sector.proofs.PutsLaws.{puts_zeros}
use Rattle.sector.proofs.FreshLaws.{map_turn}
use Rattle.sector.proofs.fresh.put_map.Goals as goal

pub loop-p-preserved : goal.loop-p-preserved
loop-p-preserved c =
    let turn = map_turn c.args.pages c.loop-p.p c.loop-p.buf (omega arith) in
    rw c.from.ensures (λ w x. c.loop-p.invariant w (turn w x))

pub returns : goal.returns
returns c =
    let e : c.args.pages - c.loop-p.p ≡ 0 = omega arith in
    c.loop-p.invariant c.loop-p.buf (rw e (puts_zeros (items_offset + c.loop-p.p) 0 c.loop-p.buf))
