-- Scripts: a list of steps as bytes. A step has 8 bytes, and then its data: which call, crash, client, file, page, budget, and the
-- number of bytes of data, low byte first.
use Rattle.std.specs.Prelude.{Bool, not, ◌&&◌, List, [], ◌∷◌, ℕ, zero, suc, ◌+◌, eqb, leb, length, take, drop}
use Rattle.lists.specs.Lists.{when◌then◌else◌}
use Rattle.sector.specs.Contents.{Bytes}
use Rattle.sector.specs.Sectors.{byte, word}
use Rattle.atomicity.specs.Runs.{Step}
use Rattle.script.specs.declared.Action.{Action}
use Rattle.commands.specs.declared.Command.{Command}
use Rattle.commands.specs.Commands.{step_of}

-- 0 begin, 1 open, 2 write, 3 commit, 4 abort, 6 open for reading, 7 look; any other is a read.
abbrev pub action_of : ℕ → Action
action_of n =
    when eqb n 0 then Action.Begin
    else when eqb n 1 then Action.Open
    else when eqb n 2 then Action.Write
    else when eqb n 3 then Action.Commit
    else when eqb n 4 then Action.Abort
    else when eqb n 6 then Action.OpenRead
    else when eqb n 7 then Action.Look
    else Action.Read

-- The command of the step at the front. `crash` other than 0: it is given a new session. A question hands back none, so a crash
-- before it is told again before the call after it.
unfoldable pub command_in : Bytes → Command
command_in l = record {
  action = action_of (byte l 0);
  crash = not (eqb (byte l 1) 0);
  client = byte l 2;
  file = byte l 3;
  page = byte l 4;
  budget = byte l 5;
}

-- The bytes of the step at the front, with its data.
abbrev pub step_size : Bytes → ℕ
step_size l = 8 + word l 6

-- A whole step stands at the front.
unfoldable pub is_whole : Bytes → Bool
is_whole l = leb 8 (length l) && leb (step_size l) (length l)

-- That step.
unfoldable pub step_in : Bytes → Step
step_in l = step_of (command_in l) (take (word l 6) (drop 8 l))

-- The steps at the front, n at most.
unfoldable pub steps_from : ℕ → Bytes → List Step
steps_from zero l = []
steps_from (suc n) l = when is_whole l then step_in l ∷ steps_from n (drop (step_size l) l) else []

-- All steps of a script. Bytes at its end that are no whole step say nothing.
abbrev pub steps : Bytes → List Step
steps l = steps_from (length l) l
