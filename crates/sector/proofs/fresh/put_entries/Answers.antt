-- `put_entries` meets its contract: a turn puts the entry of one file, so that what puts those behind it still puts all. At the end
-- none are left to put.
use mathlib.Core.Path.{ap}
use Prim.Native.Nat.{◌≤◌}
use native.Mathlib.Omega.{arith}
use lib.ListN.{length}
use Rattle.sector.specs.Layout.{file_limit}
use Rattle.sector.specs.Encoding.{file_bytes}
use Rattle.sector.specs.Walks.{files_left}
use Rattle.sector.proofs.PutsLaws.{puts_zeros}
use Rattle.sector.proofs.ShapeLaws.{files_count}
use Rattle.sector.proofs.FreshLaws.{entries_turn}
use Rattle.sector.proofs.fresh.put_entries.Goals as goal

pub loop-x-init : goal.loop-x-init
loop-x-init c =
    let few : length (files_left c.args.files) ≤ file_limit = omega (arith, files_count c.args.files.pairs.now, c.args.files.short) in
    rw c.into_iter-x-iterator.ensures.into_iter_gives (omega (arith, few), omega (arith, few), λ w x. x)

pub loop-x-preserved : goal.loop-x-preserved
loop-x-preserved c =
    let step = c.in-Some.ensures.steps in (
      omega (arith, ap length step),
      omega (arith, ap length step, c.sectors-h.ensures),
      rw c.sectors-h.ensures (λ w x. c.loop-x.invariant.2 w (entries_turn _ _ _ c.loop-x.at c.loop-x.h c.loop-x.buf _ w step c.put_entry.ensures x)),
    )

pub returns : goal.returns
unfolding file_bytes
returns c = c.loop-x.invariant.2 _ (rw c.in-None.ensures.steps.0 (puts_zeros c.loop-x.at 0 c.loop-x.buf))
