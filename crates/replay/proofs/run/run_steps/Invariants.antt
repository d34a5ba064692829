-- `run_steps` meets its contract: the steps that are left decide, from the volume, session and transcript that there are.
use mathlib.Core.Path.{◌≡◌}
use mathlib.Core.List.{map}
use lib.ListN.{length}
use Rattle.text.specs.Writes.{HasRoom}
use Rattle.atomicity.specs.Model.{Model}
use Rattle.commands.specs.Commands.{run_of}
use Rattle.replay.specs.Scripts.{step_in}
use Rattle.replay.specs.Transcripts.{transcript_length}
use Rattle.replay.specs.Walks.{pieces_left}
use Rattle.replay.proofs.RunLaws.{Going}
use Rattle.replay.proofs.run.run_steps.Given as goal

abbrev pub invariant-loop-bytes : goal.invariant-loop-bytes
invariant-loop-bytes l =
    let left = map step_in (pieces_left l.bytes-iterator) in
    record {
      going : (m : Model) → Going (run_of l.initial.v l.initial.last m) l.script l.initial.w l.v l.last left l.w;
      room : HasRoom l.w (transcript_length left);
      same : l.w.out.ghost_name ≡ l.initial.w.out.ghost_name;
      volume : length l.v ≡ length l.initial.v;
    }
