-- `holder_fits` meets its contract: the tests of `holder_test`, in order. Client k's record was tested, so it has at
-- most 62 entries.
use mathlib.Core.Path.{ap, ◌∙◌}
use Rattle.sector.specs.Sectors.{sector}
use Rattle.header_test.proofs.HeaderLaws.{holder_last}
use Rattle.header_test.proofs.TestedVolume.holder_fits.Goals as goal

pub returns : goal.returns
returns c =
    let at = c.part-d.ensures ∙ ap (sector c.args.self.now.v.now) c.from.ensures in
    let law = holder_last c.args.self.now.v.now c.args.self.now.table.now c.args.k c.args.f c.args.seen.now.words _ c.table_clients.ensures c.if-k-eq0.false in
    rw (c.record_state.ensures, c.slots_apart.ensures, c.of.ensures) (law c.if-table_clients-k.false _ at)
