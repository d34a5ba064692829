-- `put_entry` meets its contract: the record as read has room for one entry more.
use Rattle.volume.proofs.ReadLaws.{count_in_lem}
use Rattle.transaction.proofs.write.put_entry.Goals as goal

pub append_entry-requires : goal.append_entry-requires
append_entry-requires c =
    rw (rw (c.client.ensures.0, c.client.ensures.1) at c.record.ensures, count_in_lem c.args.v.now c.requires.0 c.args.k c.requires.1) c.requires.2
