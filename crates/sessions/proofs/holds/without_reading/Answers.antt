-- `without_reading` meets its contract: all bits but the file's are kept.
use Prim.Native.Nat.{◌-◌, ◌<◌}
use lib.ListN.{get_or}
use Rattle.std.proofs.Common.{arith}
use Rattle.sessions.proofs.HoldLaws.{all_but}
use Rattle.sessions.proofs.holds.without_reading.Goals as goal

pub returns : goal.returns
returns c =
    let word : get_or c.args.s.reading (c.args.k.number - 1) 0 < 65536 = search arith in
    let bit : c.args.f.number - 1 < 16 = omega (arith, c.args.f.low, c.args.f.high) in
    rw (c.mask.ensures, c.index.ensures.0, all_but _ _ word bit)
