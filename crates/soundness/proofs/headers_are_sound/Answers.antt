-- `headers_are_sound` meets its contract: each of the files is looked at.
use borrow.Author.Tests.{tests}
use native.Mathlib.Omega.{arith}
use Rattle.std.proofs.Common.{rules}
use Rattle.std.proofs.lemmas.Iterator.Search.{all_from_yields_List}
use Rattle.lists.proofs.RangeLaws.{yields_inclusive}
use Rattle.sector.specs.Decoding.{file_count_in, decode_table}
use Rattle.header_test.specs.Header.{header_sound}
use Rattle.soundness.proofs.headers_are_sound.Goals as goal

pub returns : goal.returns
returns c =
    all_from_yields_List (header_sound (decode_table c.args.w.now.table.now) c.args.w.now.v.now) _ _ _ c.all.ensures.ran
    (yields_inclusive 1 (file_count_in c.args.w.now.table.now) c.new.ensures.start c.new.ensures.exhausted (omega (arith, c.new.ensures.end, c.table_files.ensures)))
    (λ x b q k. search (rules, tests))
