use mathlib.Core.Path.{sym, ap, ◌≡◌, ◌∙◌}
use Rattle.std.specs.Prelude.{Some, None}
use native.Mathlib.Omega.{arith}
use Rattle.std.proofs.lemmas.Grind.{common_steps}
use Rattle.lists.specs.Lists.{first}
use Rattle.volume.specs.Volumes.{view}
use Rattle.slots.specs.Slots.{slot_of}
use Rattle.rules.proofs.ChoiceLaws.{none_chosen, some_chosen}
use Rattle.checks.proofs.write.new_slot.Goals as goal

pub returns-in_err-r : goal.returns-in_err-r
unfolding first
returns-in_err-r c =
    let none : c.free_slot.result ≡ None = grind arith in
    let no = none_chosen (view c.args.x.client.volume.bytes.now) c.args.x.client.number c.args.x.file c.args.x.page (ap slot_of (sym none) ∙ c.free_slot.ensures) in
    grind (arith, common_steps, no)

pub returns : goal.returns
unfolding first
returns c =
    let some : c.free_slot.result ≡ Some c.in_ok-r.r = grind arith in
    let slot = some_chosen (view c.args.x.client.volume.bytes.now) c.args.x.client.number c.args.x.file c.args.x.page _ (ap slot_of (sym some) ∙ c.free_slot.ensures) in
    grind (arith, common_steps, slot)

pub returns-then-from-eq-ENTRIES : goal.returns-then-from-eq-ENTRIES
unfolding first
returns-then-from-eq-ENTRIES c =
    let some : c.free_slot.result ≡ Some c.in_ok-r.r = grind arith in
    let slot = some_chosen (view c.args.x.client.volume.bytes.now) c.args.x.client.number c.args.x.file c.args.x.page _ (ap slot_of (sym some) ∙ c.free_slot.ensures) in
    grind (arith, common_steps, slot)
