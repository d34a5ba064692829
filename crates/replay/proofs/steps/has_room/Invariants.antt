-- `has_room` meets its contract: the room that is left decides, for the steps that are left.
use mathlib.Core.Path.{◌≡◌}
use mathlib.Core.List.{map}
use lib.Dec.{leb}
use Rattle.replay.specs.Scripts.{step_in}
use Rattle.replay.specs.Transcripts.{transcript_length}
use Rattle.replay.specs.Replays.{has_room}
use Rattle.replay.specs.Walks.{pieces_left}
use Rattle.replay.proofs.steps.has_room.Given as goal

abbrev pub invariant-loop-bytes : goal.invariant-loop-bytes
invariant-loop-bytes l =
    has_room l.script l.room ≡ leb (transcript_length (map step_in (pieces_left l.bytes-iterator))) l.left
