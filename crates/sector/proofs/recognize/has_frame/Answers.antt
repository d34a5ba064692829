-- `has_frame` meets its contract: the tests of `framed`, in order. The part from `tail` on is all that is left there.
use mathlib.Core.Path.{sym, ap, ◌∙◌}
use Prim.Native.Nat.{◌-◌}
use native.Mathlib.Omega.{arith}
use lib.ListN.{drop, length-drop}
use lib.Seq.{take_all}
use Rattle.std.proofs.lemmas.Bool.{true≢false}
use Rattle.sector.specs.Encoded.{all_zero, framed}
use Rattle.lists.proofs.TestLaws.{all_no, all_last, final, ◌then◌}
use Rattle.sector.proofs.recognize.has_frame.Goals.{then-has_mark, else-has_mark}
use Rattle.sector.proofs.recognize.has_frame.Goals as goal

pub returns-then-all_zero : goal.returns-then-all_zero
unfolding framed
returns-then-all_zero c =
    let rest = take_all (256 - c.args.tail) (drop c.args.tail c.args.d.now) (omega (arith, length-drop c.args.tail c.args.d.now, c.told-d)) in
    elim c.if-has_mark.branch [
      | then-has_mark w ↦ c.all_zero-then-all_zero.ensures ∙ ap all_zero rest ∙ sym (all_last (sym c.has_mark.ensures ∙ w.if-has_mark.true then sym w.all_zero.ensures ∙ sym w.value-is ∙ c.if-all_zero.true then final))
      | else-has_mark w ↦ absurd (true≢false (sym c.if-all_zero.true ∙ w.value-is ∙ w.if-has_mark.false))
    ]

pub returns-else-all_zero : goal.returns-else-all_zero
unfolding framed
returns-else-all_zero c = elim c.if-has_mark.branch [
  | then-has_mark w ↦ c.if-all_zero.false ∙ sym (all_no _ 1 (sym w.all_zero.ensures ∙ sym w.value-is ∙ c.if-all_zero.false))
  | else-has_mark w ↦ c.if-all_zero.false ∙ sym (all_no _ 0 (sym c.has_mark.ensures ∙ w.if-has_mark.false))
]
