-- `redo_map` meets its contract: at the end no entries are left, so the invariant says that the buffer is what all entries give of
-- the buffer at the start, and that is the encoding of the header with the map redone.
use mathlib.Core.Path.{refl, ◌∙◌}
use lib.Dec.{ltb}
use lib.ListN.{length}
use Rattle.sector.specs.Layout.{items_room}
use Rattle.sector.specs.Walks.{entries_left}
use Rattle.lists.proofs.ListLaws.{and_right}
use Rattle.sector.proofs.EditLaws.{header_redone, redo_turn, redo_end}
use Rattle.sector.proofs.build.redo_map.Goals as goal

pub loop-e-preserved : goal.loop-e-preserved
loop-e-preserved c =
    let low = rw c.in-Some.ensures.steps at c.loop-e.invariant.0 in
    (and_right (ltb c.in-Some.e.page items_room) _ low, rw c.apply_entry.ensures (redo_turn c.args.f _ _ _ c.loop-e.buf _ c.in-Some.ensures.steps c.loop-e.invariant.1))

pub returns : goal.returns
returns c =
    let done = redo_end c.args.f _ c.loop-e.buf _ c.in-None.ensures.steps.0 c.loop-e.invariant.1 in
    record { buf_after = λ x h q low. done ∙ rw q (header_redone x c.args.f (entries_left c.args.entries) h (length h.map) refl low) }
