-- `put_records` meets its contract. The invariant: what lays out the records from `k` on lays out, from the start, all of
-- them. At the end none are left.
use mathlib.Core.Path.{◌≡◌}
use Prim.Native.Nat.{◌+◌, ◌*◌, ◌-◌}
use native.Mathlib.Omega.{arith}
use Rattle.volume.specs.Format.{repeated}
use Rattle.sector.proofs.PutsLaws.{puts_zeros}
use Rattle.format.proofs.LayoutLaws.{records_turn}
use Rattle.format.proofs.layout.put_records.Goals as goal

pub loop-k-preserved : goal.loop-k-preserved
loop-k-preserved c =
    let turn = records_turn c.args.clients c.loop-k.k c.loop-k.v (omega arith) (omega arith) in
    (omega arith, rw c.put_record.ensures (λ w x. c.loop-k.invariant.1 w (turn w x)))

pub returns-clause-puts : goal.returns-clause-puts
unfolding repeated
returns-clause-puts c =
    let e : c.args.clients + 1 - c.loop-k.k ≡ 0 = omega arith in
    c.loop-k.invariant.1 c.loop-k.v (rw e (puts_zeros (256 * c.loop-k.k) 0 c.loop-k.v))

pub returns-2-clause-puts : goal.returns-2-clause-puts
unfolding repeated
returns-2-clause-puts c =
    let e : c.args.clients + 1 - (c.loop-k.k + 1) ≡ 0 = omega arith in
    let turn = records_turn c.args.clients c.loop-k.k c.loop-k.v (omega arith) (omega arith) in
    rw c.put_record.ensures (c.loop-k.invariant.1 _ (turn _ (rw e (puts_zeros (256 * (c.loop-k.k + 1)) 0 _))))
