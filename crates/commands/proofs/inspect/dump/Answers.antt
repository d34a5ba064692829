-- `dump` meets its contract: one test, and the sector's part.
use Rattle.sector.proofs.PartLaws.{part_is}
use Rattle.commands.proofs.InspectLaws.{dumped_nothing, dumped_sector}
use Rattle.commands.proofs.inspect.dump.Goals as goal

pub returns-then-v-s : goal.returns-then-v-s
returns-then-v-s c = dumped_nothing c.args.v.now c.args.line.now c.argument-s.result c.argument-s.ensures c.if-v-s.true

pub returns : goal.returns
returns c =
    rw (part_is c.args.v.now c.argument-s.result)
    (dumped_sector c.args.v.now c.args.line.now c.argument-s.result c.argument-s.ensures c.if-v-s.false)
