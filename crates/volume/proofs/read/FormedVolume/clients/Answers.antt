-- `clients` meets its contract: the byte read is the view's field.
use mathlib.Core.Path.{ap, ◌∙◌}
use Rattle.sector.specs.Decoding.{clients_in}
use Rattle.volume.proofs.ReadLaws.{clients_in_lem}
use Rattle.volume.proofs.read.FormedVolume.clients.Goals as goal

pub returns : goal.returns
returns c =
    c.table_clients.ensures ∙ ap clients_in c.table.ensures
    ∙ rw c.tabled.ensures (clients_in_lem c.args.self.bytes.now c.args.self.formed.tabled)
