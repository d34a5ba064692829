-- `find_entry` meets its contract: the first entry for the page, and its slot.
use Rattle.std.proofs.Common.{rules, ◌≡◌, ◌∙◌}
use borrow.Author.Tests.{tests}
use Rattle.std.specs.Option.{option_map}
use Rattle.std.proofs.lemmas.Iterator.Consumers.{YieldsList-from_first}
use Rattle.std.proofs.lemmas.Iterator.Search.{find_from_yields_List}
use Rattle.sector.specs.Entries.{for_page}
use Rattle.sector.specs.Walks.{entries_left}
use Rattle.volume.specs.Volumes.{view}
use Rattle.slots.specs.Slots.{slot_of}
use Rattle.slots.proofs.SlotLaws.{slot_found}
use Rattle.slots.proofs.find_entry.Goals as goal

pub returns : goal.returns
returns c =
    let entries = ((view c.args.c.volume.bytes.now).records c.args.c.number).entries in
    let found = find_from_yields_List (for_page c.args.f c.args.p) c.find.new.self _ _ c.find.ensures.ran (YieldsList-from_first (λ x. x) entries_left entries c.entries.ensures)
    (λ x b q k. search (rules, tests)) in
    let slot : slot_of c.map.result ≡ slot_of (option_map (λ e. e.slot) (option_map (λ x. x) c.find.result)) = search rules in
    rw found at slot ∙ slot_found (for_page c.args.f c.args.p) entries
