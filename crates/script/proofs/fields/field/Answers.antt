-- `field` meets its contract: after as many turns the rest is the line from field i on.
use mathlib.Core.Path.{refl, ◌∙◌}
use native.Mathlib.Omega.{arith}
use mathlib.Core.Path.{◌≡◌}
use Rattle.script.specs.Fields.{from_field}
use Rattle.script.proofs.FieldLaws.{field_next}
use Rattle.script.proofs.fields.field.Goals as goal

pub loop-i-init : goal.loop-i-init
unfolding from_field
loop-i-init c = refl

pub loop-i-preserved : goal.loop-i-preserved
loop-i-preserved c = c.cut.ensures.1 ∙ field_next c.args.line.now c.loop-i._i c.loop-i.invariant

pub returns : goal.returns
returns c =
    let e : c.loop-i._i ≡ c.args.n = omega arith in
    rw e at c.loop-i.invariant
