-- `read` meets its contract: the sector is the read's.
use mathlib.Core.Path.{sym, ap, ◌∙◌}
use Rattle.interface.specs.Answers.{found}
use Rattle.rules.specs.Plans.{read_page}
use Rattle.rules.proofs.CallLaws.{query_answered}
use Rattle.calls.proofs.read.Goals as goal

pub returns : goal.returns
returns c =
    let same = c.in_ok-x.ensures.same in
    ap found (rw (c.of_file.ensures.0, c.of_file.ensures.1, c.read_slot-slot.ensures, same.0, same.1, same.2, same.3) at c.slot_sector.ensures)
    ∙ sym (query_answered c.args.volume.now c.args.session (read_page c.args.client c.args.file c.args.page) (sym c.in_ok-x.ensures.tested))
