-- `files` meets its contract: the byte read is the view's field.
use mathlib.Core.Path.{ap, ◌∙◌}
use Rattle.sector.specs.Decoding.{file_count_in}
use Rattle.volume.proofs.ReadLaws.{files_in}
use Rattle.volume.proofs.read.TabledVolume.files.Goals as goal

pub returns : goal.returns
returns c =
    c.table_files.ensures ∙ ap file_count_in c.table.ensures ∙ files_in c.args.self.bytes.now c.args.self.formed
