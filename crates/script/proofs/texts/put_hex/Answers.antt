-- `put_hex` meets its contract: what is left to write decides.
use mathlib.Core.Path.{sym, ◌∙◌}
use native.Mathlib.Omega.{arith}
use lib.ListN.{length-set}
use Rattle.script.proofs.TextLaws.{hex_more, hex_done}
use Rattle.script.proofs.texts.put_hex.Goals as goal

pub loop-i-preserved : goal.loop-i-preserved
loop-i-preserved c = (
  simp length-set c.loop-i.invariant.0,
  rw (c.hex_digit.ensures, c.hex_digit-in-loop-i.ensures)
      (hex_more c.args.bytes.now c.loop-i.out c.loop-i.i (omega arith)) ∙ c.loop-i.invariant.1,
)

pub returns : goal.returns
returns c = sym (hex_done c.args.bytes.now c.loop-i.out c.loop-i.i (omega arith)) ∙ c.loop-i.invariant.1
