-- `page` meets its contract: the sector that the read names lies inside the volume.
use Rattle.rules.specs.Plans.{read_page}
use Rattle.calls.proofs.PageLaws.{answer_inside}
use Rattle.calls.proofs.page.Goals as goal

pub part_of-requires : goal.part_of-requires
part_of-requires c = let a = c.args in answer_inside a.volume.now a.session (read_page a.client a.file a.page) _ c.read.ensures
