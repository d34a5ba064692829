-- `make_candidate` meets its contract: the layout of the small shape isn't refused.
use Rattle.enumeration.proofs.MadeLaws.{laid_ok}
use Rattle.enumeration.proofs.candidate.make_candidate.Goals as goal

pub unwrap-requires : goal.unwrap-requires
unwrap-requires c = laid_ok c.args.v.now _ _ c.told-v c.format.ensures
