-- `commit_stores` meets its contract: the record is decided, then recovered.
use Rattle.transaction.proofs.CommitLaws.{commit_cut, decided_formed, commit_more}
use Rattle.transaction.proofs.commit.commit_stores.Goals as goal

pub returns-in_err-run : goal.returns-in_err-run
returns-in_err-run c = commit_cut c.from_residual.ensures.1 (rw c.new-start.ensures at c.in_err-run.ensures)

pub recover-requires : goal.recover-requires
recover-requires c = decided_formed c.requires.0 c.requires.1 c.in_ok-run.ensures

pub returns : goal.returns
returns c =
    commit_more c.requires.0 c.requires.1 (rw c.new-start.ensures at c.in_ok-run.ensures) c.recover.ensures.updates_made
