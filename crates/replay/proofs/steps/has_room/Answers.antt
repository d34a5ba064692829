-- `has_room` meets its contract: the room that is left decides, for the steps that are left.
use mathlib.Core.Path.{◌≡◌, sym, ap, ◌∙◌}
use mathlib.Core.List.{map}
use native.Mathlib.Omega.{arith}
use Rattle.replay.specs.Scripts.{step_in}
use Rattle.replay.specs.Replays.{has_room}
use Rattle.replay.specs.Walks.{pieces, pieces_left}
use Rattle.replay.proofs.ScriptLaws.{first_piece, steps_are}
use Rattle.replay.proofs.TranscriptLaws.{entry_is}
use Rattle.replay.proofs.RunLaws.{room_left, room_over, room_none}
use Rattle.replay.proofs.steps.has_room.Goals as goal

pub loop-bytes-init : goal.loop-bytes-init
unfolding has_room
loop-bytes-init c =
    let all : pieces_left c.into_iter-bytes-iterator.result ≡ pieces c.args.script.now = ap pieces_left c.into_iter-bytes-iterator.ensures.into_iter_gives ∙ c.of-bytes-items.ensures in
    rw (all, steps_are c.args.script.now)

pub first_command-requires : goal.first_command-requires
first_command-requires c =
    let piece = first_piece _ c.in-Some.ensures.steps in
    piece.head

pub returns-then-left-e : goal.returns-then-left-e
returns-then-left-e c =
    let more = ap (map step_in) c.in-Some.ensures.steps in
    sym (c.loop-bytes.invariant ∙ room_over more (entry_is c.in-Some.bytes.now c.first_command.ensures c.entry_length-e.ensures) (omega arith))

pub loop-bytes-preserved : goal.loop-bytes-preserved
loop-bytes-preserved c =
    let more = ap (map step_in) c.in-Some.ensures.steps in
    c.loop-bytes.invariant ∙ room_left more (entry_is c.in-Some.bytes.now c.first_command.ensures c.entry_length-e.ensures) (omega arith)

pub returns : goal.returns
returns c =
    sym (c.loop-bytes.invariant ∙ room_none _ c.loop-bytes.left (ap (map step_in) c.in-None.ensures.steps.0))
