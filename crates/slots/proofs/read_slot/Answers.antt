-- `read_slot` meets its contract: the entry's slot, else the map's.
use Rattle.std.proofs.Common.{◌∙◌, sym, ap}
use Rattle.volume.specs.Volumes.{view}
use Rattle.rules.specs.Plans.{slot_for}
use Rattle.slots.proofs.SlotLaws.{entry_at, no_entry_lem}
use Rattle.slots.proofs.read_slot.Goals as goal

pub returns-in-Some : goal.returns-in-Some
returns-in-Some c =
    let e = entry_at _ _ c.in-Some.ensures in
    sym (ap (slot_for (view c.args.x.client.volume.bytes.now) c.args.x.file c.args.x.page) e.found ∙ e.slot)

pub returns-in-None : goal.returns-in-None
returns-in-None c =
    let e = no_entry_lem _ c.in-None.ensures in
    let slot = rw (c.of_file.ensures.1, c.of_file.ensures.0) at c.mapped_slot.ensures in
    slot ∙ sym (ap (slot_for (view c.args.x.client.volume.bytes.now) c.args.x.file c.args.x.page) e)
