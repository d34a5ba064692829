-- `format_and_replay` meets its contract, by the room that there is and by what the format answered; all or none follows.
use Rattle.atomicity.specs.Model.{new_model}
use Rattle.replay.proofs.Corollary.{run_claimed}
use Rattle.replay.proofs.format_and_replay.Goals as goal

pub returns-in-Ok-clause-where_run : goal.returns-in-Ok-clause-where_run
returns-in-Ok-clause-where_run c =
    run_claimed c.args.v.now c.args.clients c.args.shape.now c.args.script.now c.args.out.now c.in-Ok.ensures (rw c.new-in-Ok.ensures at (c.run_steps.ensures new_model))
