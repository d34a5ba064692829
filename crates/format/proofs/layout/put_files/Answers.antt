-- `put_files` meets its contract. The invariant: what lays out the files that are left lays out, from the start, all of them;
-- they fit and end where all end. At the end none are left.
use mathlib.Core.Path.{◌≡◌, refl, ap}
use Prim.Native.Nat.{◌*◌}
use native.Mathlib.Omega.{arith}
use Rattle.sector.specs.Walks.{files_left}
use Rattle.volume.specs.Format.{new_files}
use Rattle.sector.proofs.PutsLaws.{puts_zeros}
use Rattle.format.proofs.RequestLaws.{rest_fits, after_turn}
use Rattle.format.proofs.LayoutLaws.{files_turn, file_room, file_pages, file_slots}
use Rattle.format.proofs.layout.put_files.Goals as goal

pub loop-x-init : goal.loop-x-init
loop-x-init c =
    let all : files_left c.into_iter-x-iterator.result ≡ files_left c.args.files = ap files_left c.into_iter-x-iterator.ensures.into_iter_gives in
    rw all (refl, c.requires.0, c.requires.2, λ w x. x)

pub put_header-requires : goal.put_header-requires
put_header-requires c =
    let step = c.in-Some.ensures.steps in
    let room = file_room _ _ _ step c.loop-x.h _ c.loop-x.invariant.1 in
    (omega arith, omega arith, file_pages _ _ _ step c.loop-x.invariant.2, file_slots _ _ _ step c.loop-x.invariant.2)

pub overflow_add-h : goal.overflow_add-h
overflow_add-h c =
    let room = file_room _ _ _ c.in-Some.ensures.steps c.loop-x.h _ c.loop-x.invariant.1 in
    omega (arith, c.sectors-h.ensures)

pub loop-x-preserved : goal.loop-x-preserved
loop-x-preserved c =
    let step = c.in-Some.ensures.steps in
    let turn = files_turn _ _ _ step c.loop-x.h c.loop-x.v c.loop-x.invariant.2 in (
      omega arith,
      rw (c.sectors-h.ensures, after_turn _ _ _ step c.loop-x.h) c.loop-x.invariant.1,
      rest_fits _ _ _ step c.loop-x.invariant.2,
      rw (c.sectors-h.ensures, c.put_header.ensures) (λ w x. c.loop-x.invariant.3 w (turn w x)),
    )

pub returns : goal.returns
unfolding new_files
returns c = c.loop-x.invariant.3 c.loop-x.v (rw c.in-None.ensures.steps.0 (puts_zeros (256 * c.loop-x.h) 0 c.loop-x.v))
