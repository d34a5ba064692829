-- `step` meets its contract: the command is performed as its step says, and what is noted of it is what the step says.
use Rattle.std.proofs.lemmas.List.{take_rest}
use Rattle.replay.proofs.RunLaws.{entry_answer, entry_room, is_stepped}
use Rattle.replay.proofs.run.step.Goals as goal

pub put_entry-requires : goal.put_entry-requires
put_entry-requires c =
    (entry_room c.requires.0 c.first_command-c.ensures (take_rest c.args.bytes.now 8) c.perform-p.ensures c.args.w.now c.requires.1, entry_answer c.requires.0 c.first_command-c.ensures (take_rest c.args.bytes.now 8) c.perform-p.ensures)

pub returns : goal.returns
returns c = is_stepped c.requires.0 c.first_command-c.ensures (take_rest c.args.bytes.now 8) c.perform-p.ensures c.put_entry.ensures
