-- `table` meets its contract: sector 0 is inside a volume whose table is well formed.
use mathlib.Core.Path.{refl}
use Rattle.volume.specs.Places.{table_place}
use Rattle.volume.proofs.ReadLaws.{placed}
use Rattle.volume.proofs.read.TabledVolume.table.Goals as goal

pub part-requires : goal.part-requires
part-requires c = placed c.args.self.bytes.now c.args.self.formed table_place 0 tt refl
