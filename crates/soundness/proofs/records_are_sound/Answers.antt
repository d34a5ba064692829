-- `records_are_sound` meets its contract: each of the clients is looked at.
use borrow.Author.Tests.{tests}
use native.Mathlib.Omega.{arith}
use Rattle.std.proofs.Common.{rules}
use Rattle.std.proofs.lemmas.Iterator.Search.{all_from_yields_List}
use Rattle.lists.proofs.RangeLaws.{yields_inclusive}
use Rattle.sector.specs.Decoding.{clients_in, decode_table}
use Rattle.record_test.specs.Record.{record_sound_in}
use Rattle.soundness.proofs.records_are_sound.Goals as goal

pub returns : goal.returns
returns c =
    all_from_yields_List (record_sound_in (decode_table c.args.table.bytes.now) c.args.v.now) _ _ _ c.all.ensures.ran
    (yields_inclusive 1 (clients_in c.args.table.bytes.now) c.new.ensures.start c.new.ensures.exhausted (omega (arith, c.new.ensures.end, c.from.ensures, c.table_clients.ensures))) (λ x b q k. search (rules, tests))
