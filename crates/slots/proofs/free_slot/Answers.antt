-- `free_slot` meets its contract: the set has the slots of the map and those given, so that the others are free; the first search
-- finds those from the start on, the second one all.
use Rattle.std.proofs.Common.{ℕ, ◌+◌, ◌∙◌, ap, rules}
use Rattle.sector.specs.Contents.{File}
use Rattle.volume.specs.Volumes.{view}
use Rattle.slots.proofs.SlotLaws.{free_found}
use Rattle.slots.proofs.free_slot.Goals as goal

pub returns : goal.returns
returns c =
    let x = c.of_file-file.ensures in
    let mapped = rw (c.new-taken.ensures, x.1, x.0) at c.take_mapped.ensures in
    let shape = rw (x.1, x.0) at c.shape-n.ensures in
    let slot = rw (x.1, x.0) at c.mapped_slot.ensures in
    free_found (view c.args.x.client.volume.bytes.now) c.args.x.client.number c.args.x.file _ _ mapped c.take_given.ensures
    c.args.x.page _ _ (ap (λ (x : File). x.slots) shape) (ap (λ (x : ℕ). x + 1) (c.from-start.ensures ∙ slot)) c.lowest_missing.result _ c.lowest_missing.ensures.lowest c.lowest_missing.ensures.below
    (λ e. search (rules, e)) (λ e. search (rules, e)) (λ r e. search (rules, e))
