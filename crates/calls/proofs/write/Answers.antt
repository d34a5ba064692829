-- `write` meets its contract: a refusal is the call's, and so are the stores of its plan.
use mathlib.Core.Path.{◌≡◌, sym, ap, ◌∙◌}
use native.Mathlib.Omega.{arith}
use Rattle.std.specs.Prelude.{Ok}
use Rattle.std.proofs.lemmas.Grind.{common_steps}
use Rattle.rules.specs.Plans.{write}
use Rattle.checks.specs.declared.Target.{Target}
use Rattle.checks.specs.Writes.{write_found}
use Rattle.calls.proofs.AnswerLaws.{refused_call, ended_call}
use Rattle.calls.proofs.FactLaws.{call_formed}
use Rattle.calls.proofs.WriteFoundLaws.{refused_by_lem, again_at, new_at, goes, writes_file, again_below, new_below}
use Rattle.calls.proofs.write.Goals as goal
use Rattle.calls.proofs.write.Goals.{in-Again, in-New}

pub unwrap-src-requires : goal.unwrap-src-requires
unwrap-src-requires c =
    let a = c.args in
    c.as_array.ensures.variant.1 (writes_file a.volume.now a.session a.client a.file a.page a.bytes.now (goes _ _ _ _ c.in-Ok.ensures)).1

pub write_again-made-requires : goal.write_again-made-requires
write_again-made-requires c =
    let a = c.args in
    let w = again_at _ _ _ _ (ap (λ (t : Target). write_found (Ok t)) (sym c.in-Again.is) ∙ c.in-Ok.ensures) in
    let e = w.accepted in
    let b = writes_file a.volume.now a.session a.client a.file a.page a.bytes.now e in
    let below = again_below a.volume.now a.session a.client a.file a.page a.bytes.now e w.entry w.found in
    (call_formed a.volume.now a.session (write a.client a.file a.page a.bytes.now) e, b.0, rw (sym w.slot) below)

pub write_new-made-requires : goal.write_new-made-requires
write_new-made-requires c =
    let a = c.args in
    let w = new_at _ _ _ _ (ap (λ (t : Target). write_found (Ok t)) (sym c.in-New.is) ∙ c.in-Ok.ensures) in
    let e = w.accepted in
    let below = new_below a.volume.now a.session a.client a.file a.page a.bytes.now e _ w.absent w.slot in
    (call_formed a.volume.now a.session (write a.client a.file a.page a.bytes.now) e, below)

pub returns-in-Err : goal.returns-in-Err
returns-in-Err c =
    let a = c.args in
    c.refuse.ensures a.volume.now
    ∙ refused_call a.volume.now a.session (write a.client a.file a.page a.bytes.now) a.budget c.in-Err.r
    (refused_by_lem _ _ _ _ c.in-Err.ensures)

pub returns-after-target : goal.returns-after-target
returns-after-target c =
    let a = c.args in
    let same : c.unwrap-src.result.now ≡ a.bytes.now = grind (arith, common_steps) in
    c.end.ensures c.match-target.volume
    ∙ elim c.match-target.branch [
      | in-Again w ↦
          let x = again_at _ _ _ _ (ap (λ (t : Target). write_found (Ok t)) (sym w.in-Again.is) ∙ c.in-Ok.ensures) in
          let y = w.write_again-made in
          rw (w.made-is, w.volume-is)
          (ended_call a.volume.now a.session (write a.client a.file a.page a.bytes.now) a.budget x.accepted y.new.v y.result
          (rw same at (y.ensures a.session a.client a.page x.entry x.found x.slot)))
      | in-New w ↦
          let x = new_at _ _ _ _ (ap (λ (t : Target). write_found (Ok t)) (sym w.in-New.is) ∙ c.in-Ok.ensures) in
          let y = w.write_new-made in
          rw (w.made-is, w.volume-is)
          (ended_call a.volume.now a.session (write a.client a.file a.page a.bytes.now) a.budget x.accepted y.new.v y.result
          (rw same at (y.ensures a.session)))
    ]
