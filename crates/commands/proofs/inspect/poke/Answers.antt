-- `poke` meets its contract: one test, and one byte.
use Rattle.commands.proofs.InspectLaws.{poked_outside, poked_inside}
use Rattle.commands.proofs.inspect.poke.Goals as goal

pub returns-then-v-at : goal.returns-then-v-at
returns-then-v-at c = poked_outside c.args.v.now c.args.line.now c.argument-at.result c.argument-at.ensures c.if-v-at.true

pub returns : goal.returns
returns c =
    poked_inside c.args.v.now c.args.line.now c.argument-at.result c.byte_argument.result c.argument-at.ensures c.byte_argument.ensures
    c.if-v-at.false
