-- `check_slot` meets its contract: the entry that the record has for the page decides.
use mathlib.Core.Path.{sym, ap, ◌∙◌}
use native.Mathlib.Omega.{arith}
use Rattle.std.proofs.lemmas.Grind.{common_steps}
use Rattle.lists.specs.Lists.{first}
use Rattle.slots.specs.Slots.{slot_of}
use Rattle.slots.proofs.SlotLaws.{entry_at, no_entry_lem}
use Rattle.checks.proofs.write.check_slot.Goals as goal

pub returns-in-Some : goal.returns-in-Some
unfolding first
returns-in-Some c =
    let e = entry_at _ _ (ap slot_of (sym c.in-Some.is) ∙ c.find_entry.ensures) in
    grind (arith, common_steps, e.found, e.slot)

pub returns-in-None : goal.returns-in-None
unfolding first
returns-in-None c =
    let e = no_entry_lem _ (ap slot_of (sym c.in-None.is) ∙ c.find_entry.ensures) in
    grind (arith, common_steps, e)
