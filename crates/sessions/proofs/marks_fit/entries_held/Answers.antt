-- `entries_held` meets its contract: what is left of the entries decides. A file that an entry names exists, so it has a holder.
use mathlib.Core.Path.{◌≡◌, refl}
use mathlib.Core.Bool.{true}
use borrow.Author.Tests.{leb-true}
use Rattle.lists.proofs.ListLaws.{and_left, all_at}
use Rattle.volume.specs.Lawful.{entry_fits}
use Rattle.volume.specs.Volumes.{view}
use Rattle.sessions.proofs.marks_fit.entries_held.Goals as goal

pub loop-e-init : goal.loop-e-init
loop-e-init c =
    let x = c.args.c in
    rw (c.into_iter-e-iterator.ensures.into_iter_gives, c.entries-e-items.ensures)
    (record { fits = all_at _ 2 (x.volume.formed.record_fits x.number x.listed.low x.listed.high); decides = refl })

pub file-requires : goal.file-requires
file-requires c =
    let fits = rw c.in-Some.ensures.steps at c.loop-e.invariant.fits in
    let e : entry_fits (view c.args.c.volume.bytes.now).table c.in-Some.e ≡ true = and_left _ _ fits in
    rw c.tabled.ensures (record { low = leb-true _ _ (all_at _ 0 e); high = leb-true _ _ (all_at _ 1 e) })
