-- `header_is_sound` meets its contract: it is a header, then its map, and then its holder by the set that the map left.
use mathlib.Core.Path.{sym, ◌∙◌}
use Rattle.header_test.proofs.HeaderLaws.{no_header, map_no, header_last}
use Rattle.header_test.proofs.TestedVolume.header_is_sound.Goals as goal

pub returns-then-not-is_header : goal.returns-then-not-is_header
returns-then-not-is_header c =
    let law = no_header c.args.self.now.tested c.args.f c.requires.0 c.requires.1 c.from-i.ensures c.file_header.ensures.0 c.part-d.ensures in
    sym (law (sym (rw c.file-x.ensures at c.if-not-is_header.ensures)))

pub returns-in_default : goal.returns-in_default
returns-in_default c =
    let law = map_no c.args.self.now.tested c.args.f c.requires.0 c.requires.1 c.from-i.ensures c.file_header.ensures.0 c.part-d.ensures in
    sym (law (sym (rw c.file-x.ensures at c.if-not-is_header.ensures)) (sym (rw c.file-x.ensures at c.in_default.ensures.tells)))

pub returns : goal.returns
returns c =
    let law = header_last c.args.self.now.tested c.args.f c.requires.0 c.requires.1 c.from-i.ensures c.file_header.ensures.0 c.part-d.ensures in
    let scan = rw c.file-x.ensures at c.in-Some.ensures in
    c.holder_fits.ensures ∙ rw c.header_holder.ensures (law (sym (rw c.file-x.ensures at c.if-not-is_header.ensures)) (sym scan.tells) _ scan.holds)
