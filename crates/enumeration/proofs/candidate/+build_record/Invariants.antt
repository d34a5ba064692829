-- `build_record` calls itself for a list of a smaller number.
use Rattle.enumeration.proofs.candidate.+build_record.Given as goal

abbrev pub decreases-build_record : goal.decreases-build_record
decreases-build_record l = l.list
