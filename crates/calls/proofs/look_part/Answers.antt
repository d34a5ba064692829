-- `look_part` meets its contract: the sector that the look names lies inside the volume.
use Rattle.interface.specs.Answers.{new_session}
use Rattle.rules.specs.Plans.{look_page}
use Rattle.calls.proofs.PageLaws.{answer_inside}
use Rattle.calls.proofs.look_part.Goals as goal

pub part_of-requires : goal.part_of-requires
part_of-requires c = let a = c.args in answer_inside a.volume.now new_session (look_page a.file a.page) _ c.look.ensures
