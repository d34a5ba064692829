-- `lay_out` meets its contract: the table, the records and the files were put one behind the other into an array of zeros.
use mathlib.Core.Path.{◌≡◌, ap, ◌∙◌}
use Prim.Native.Nat.{ℕ, ◌≤◌}
use native.Mathlib.Omega.{arith}
use lib.ListN.{length, replicate}
use Rattle.sector.specs.Layout.{entry_limit}
use Rattle.sector.specs.Shapes.{files_of}
use Rattle.volume.specs.Format.{table_for}
use Rattle.sector.proofs.ShapeLaws.{files_count}
use Rattle.format.proofs.LayoutLaws.{laid_out}
use Rattle.format.proofs.layout.lay_out.Goals as goal

pub returns : goal.returns
returns c =
    let n : ℕ = length c.args.v.now in
    let l = c.args.files.pairs.now in
    let zeros = c.fill.ensures.after (λ y e. e) ∙ ap (λ (m : ℕ). replicate {A = ℕ} m 0) c.requires.size in
    let kept : length c.fill.new.self ≡ n = omega arith in
    let few : length (files_of l) ≤ entry_limit = omega (arith, files_count l, c.args.files.short) in
    laid_out (table_for n c.args.clients l) c.fill.new.self c.put_records.new.v c.put_files.new.v
    zeros few c.requires.files c.requires.ends
    (rw (c.from-clients.ensures, c.put_table.ensures, kept) at c.put_records.ensures.puts) (rw c.from-clients.ensures at c.put_files.ensures)
