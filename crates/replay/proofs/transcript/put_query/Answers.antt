-- `put_query` meets its contract: a refused question shows nothing; else the sector answered lies inside the volume, and its bytes and
-- the part handed back follow the answer.
use Rattle.text.proofs.WritesLaws.{wrote_more}
use Rattle.replay.proofs.TranscriptLaws.{refused_entry, inside_found, found_entry, zero_pages}
use Rattle.replay.proofs.transcript.put_query.Goals as goal

pub part-requires : goal.part-requires
part-requires c =
    rw c.from-in-Ok.ensures (inside_found c.args.v.now c.args.s c.args.c c.args.o c.args.q c.requires.1 c.in-Ok.n c.in-Ok.is)

pub returns-in-Err : goal.returns-in-Err
returns-in-Err c =
    let w = wrote_more (rw (c.from-in-Err.ensures, c.from.ensures.0) at c.put_head.ensures) (rw zero_pages at c.put.ensures) in
    rw (refused_entry c.args.v.now c.args.s c.args.c c.args.o c.args.q c.requires.1 c.in-Err.r c.in-Err.is) at w

pub returns-in-Ok : goal.returns-in-Ok
returns-in-Ok c =
    let w = wrote_more c.put_head-in-Ok.ensures
    (wrote_more (rw (c.part.ensures, c.from-in-Ok.ensures) at c.put-in-Ok.ensures) (rw c.page.ensures at c.put-in-Ok-2.ensures)) in
    rw (found_entry c.args.v.now c.args.s c.args.c c.args.o c.args.q c.requires.1 c.in-Ok.n c.in-Ok.is) at w
