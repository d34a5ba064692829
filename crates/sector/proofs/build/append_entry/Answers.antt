-- `append_entry` meets its contract: the four stores are those of the law of an appended entry, since the count read is the
-- number of entries.
use Rattle.sector.proofs.EditLaws.{record_count, record_appended}
use Rattle.sector.proofs.build.append_entry.Goals as goal

pub returns : goal.returns
returns c = record { buf_after = λ r q. rw (c.from.ensures, q) (record_appended r c.args.entry _ (record_count r) (rw q at c.requires)) }
