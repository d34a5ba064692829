-- `write_new` meets its contract: the page, then the record, on a volume that is still well-formed.
use Rattle.transaction.proofs.WriteStoreLaws.{write_cut, written_formed, write_more}
use Rattle.transaction.proofs.write.write_new.Goals as goal

pub returns-in_err-run : goal.returns-in_err-run
returns-in_err-run c =
    write_cut c.requires.0 c.requires.1 c.from_residual.ensures.1 (rw c.new-start.ensures at c.in_err-run.ensures)

pub put_entry-requires : goal.put_entry-requires
put_entry-requires c = written_formed c.requires.0 c.requires.1 c.told-src c.in_ok-run.ensures

pub returns : goal.returns
returns c =
    write_more c.requires.0 c.requires.1 c.told-src (rw c.new-start.ensures at c.in_ok-run.ensures) c.put_entry.ensures
