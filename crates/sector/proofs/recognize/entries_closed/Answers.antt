-- `entries_closed` meets its contract: the fold is the or of the last bytes of the first n entries.
use mathlib.Core.Path.{ap, ◌∙◌}
use Prim.Native.Nat.{◌/◌}
use native.Mathlib.Omega.{arith}
use borrow.Author.Rules.{rules}
use borrow.Author.Tests.{tests}
use lib.ListN.{length, take, drop, length-drop}
use lib.Seq.{take_all}
use Rattle.std.specs.Simd.{first_chunks}
use Rattle.std.proofs.lemmas.Iterator.{YieldsList-from_slice}
use Rattle.std.proofs.lemmas.Iterator.Consumers.{fold_from_yields_List}
use Rattle.sector.specs.Layout.{items_offset, items_room, item_length}
use Rattle.sector.proofs.RecognizeLaws.{or_last, closed_or}
use Rattle.sector.proofs.recognize.entries_closed.Goals as goal

pub returns : goal.returns
returns c =
    let l = drop items_offset c.args.d.now in
    let size = length-drop items_offset c.args.d.now in
    let es = take c.args.n (first_chunks item_length (length l / 4) l) in
    let front = rw (take_all items_room l (omega (arith, size, c.told-d))) at c.as_chunks.ensures.front in
    closed_or c.args.n (length l / 4) l c.fold.result (omega (arith, size, c.told-d, c.requires))
    (fold_from_yields_List _ or_last 0 c.fold.result c.fold.ensures.ran (YieldsList-from_slice es (c.iter.ensures.rest ∙ ap (take c.args.n) front)) (λ a x b q k. search (rules, tests)))
