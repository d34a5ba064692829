-- `write_volumes` ends, since each advance ends behind where it began: the candidates that are left become fewer.
use mathlib.Core.Path.{sym, ap, subst, ◌∙◌}
use native.Mathlib.Omega.{arith}
use Rattle.std.specs.Prelude.{Option, Ok, Some, ℕ}
use Rattle.enumeration.specs.Advances.{Advanced}
use Rattle.enumeration.proofs.AdvanceLaws.{GoesOn, advance_goes_on}
use Rattle.small_volumes.proofs.write_volumes.Goals as goal

pub loop-n-smaller : goal.loop-n-smaller
loop-n-smaller g c =
    let answered = sym (ap (λ (s : Advanced). s.answer) c.advance.ensures) ∙ (c.in-Ok-Some.is ∙ ap (λ (o : Option ℕ). Ok o) c.in-Ok-Some.field-0-is) in
    let on : GoesOn c.loop-n.at (Ok (Some c.in-Ok-Some.n)) = subst (GoesOn c.loop-n.at) answered (advance_goes_on c.loop-n.v c.loop-n.at) in
    omega (arith, on.0, on.1)
