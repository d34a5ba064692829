-- `hex` meets its contract: with room, the digits stand at the front.
use Rattle.script.proofs.TextLaws.{no_hex, in_hex_lem}
use Rattle.script.proofs.texts.hex.Goals as goal

pub returns-then-out-bytes-clause-out_after : goal.returns-then-out-bytes-clause-out_after
returns-then-out-bytes-clause-out_after c = no_hex c.args.bytes.now c.args.out.now c.if-out-bytes.true

pub returns-clause-out_after : goal.returns-clause-out_after
returns-clause-out_after c = in_hex_lem c.args.bytes.now c.args.out.now _ c.if-out-bytes.false c.put_hex.ensures
