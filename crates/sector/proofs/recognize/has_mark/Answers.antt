-- `has_mark` meets its contract: two bytes are those of a mark if their number is the mark's.
use mathlib.Core.Path.{◌≡◌}
use Prim.Native.Nat.{◌+◌, ◌*◌}
use native.Mathlib.Omega.{arith}
use Rattle.sector.specs.Layout.{mark_byte}
use Rattle.sector.proofs.RecognizeLaws.{mark_is}
use Rattle.sector.proofs.recognize.has_mark.Goals as goal

pub returns : goal.returns
returns c =
    let mark : c.from.result ≡ mark_byte + 256 * c.args.second = omega (arith, c.from.ensures, c.from_le_bytes.ensures) in
    rw (c.word_at.ensures.0, mark) (mark_is c.args.d.now c.args.second c.word_at.ensures.2)
