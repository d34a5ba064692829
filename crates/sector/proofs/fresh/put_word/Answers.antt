-- `put_word` meets its contract: the number is below 65536, so its two bytes are all of it.
use mathlib.Core.Path.{◌≡◌}
use Prim.Native.Nat.{◌/◌, ◌%◌}
use native.Mathlib.Omega.{arith}
use Rattle.sector.proofs.fresh.put_word.Goals as goal

pub returns : goal.returns
returns c =
    let high : c.args.n / 256 % 256 ≡ c.args.n / 256 = omega arith in
    rw (c.to_le_bytes.ensures, high)
