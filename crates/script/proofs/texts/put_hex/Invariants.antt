-- The invariant of `put_hex`: what is left to write decides.
use mathlib.Core.Path.{◌≡◌}
use Prim.Native.Nat.{◌*◌}
use lib.ListN.{length, drop}
use lib.Seq.{sets}
use Rattle.script.specs.Texts.{hex_text}
use Rattle.script.proofs.texts.put_hex.Given as goal

abbrev pub invariant-loop-i : goal.invariant-loop-i
invariant-loop-i l =
    (length l.out ≡ length l.initial.out)
    × (sets l.out (2 * l.i) (hex_text (drop l.i l.bytes)) ≡ sets l.initial.out 0 (hex_text l.bytes))
