-- `table_is_sound` meets its contract: its counts, then the frame, then its files. The counts bound the frame and
-- the walk over the files.
use native.Mathlib.Omega.{arith}
use mathlib.Core.Path.{◌≡◌, sym, ◌∙◌}
use Rattle.sector.specs.Decoding.{clients_in}
use Rattle.table_test.proofs.TableLaws.{file_count, table_last}
use Rattle.table_test.proofs.table_is_sound.Goals as goal

pub files_are_sound-requires : goal.files_are_sound-requires
files_are_sound-requires c =
    (omega (arith, (file_count _ (sym c.if-not-counts_fit.ensures)).1), omega (arith, c.from.ensures, c.table_clients.type_inv))

pub returns : goal.returns
returns c =
    let clients : c.from.result ≡ clients_in c.args.d.now = c.from.ensures ∙ c.table_clients.ensures in
    rw clients at c.files_are_sound.ensures
    ∙ table_last _ c.told-d (c.fits-d _) (sym c.if-not-counts_fit.ensures) (sym c.if-not-has_table_frame.ensures)
