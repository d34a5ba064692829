-- `put_records` meets its contract. The invariant: what lays out the records from `k` on lays out, from the start, all of
-- them. At the end none are left.
use mathlib.Core.Path.{◌≡◌}
use mathlib.Core.List.{List}
use Prim.Native.Nat.{ℕ, ◌+◌, ◌*◌, ◌-◌}
use lib.ListN.{length}
use Rattle.sector.specs.Contents.{idle_record}
use Rattle.sector.specs.Encoding.{encode_record}
use Rattle.volume.specs.Format.{repeated}
use Rattle.sector.specs.Puts.{Puts}
use Rattle.format.proofs.layout.put_records.Given as goal

abbrev pub invariant-loop-k : goal.invariant-loop-k
invariant-loop-k l =
    (length l.v ≡ length l.initial.v)
    × ((w : List ℕ) → Puts (256 * l.k) (repeated (l.clients + 1 - l.k) (encode_record idle_record)) l.v w
    → Puts 256 (repeated l.clients (encode_record idle_record)) l.initial.v w)
