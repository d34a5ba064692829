-- M-104 in the lists of all or none: "Layout and recovery keep it so". The question itself is no step of a list: it takes no session
-- and changes nothing, and the model has no slots.
use Rattle.std.specs.Prelude.{◌≡◌, List, ℕ, ◌-◌, length}
use Rattle.interface.specs.Answers.{counted, format_done}
use Rattle.sector.specs.Contents.{Bytes}
use Rattle.volume.specs.Places.{IsFile, file_at}
use Rattle.volume.specs.Volumes.{Volume, view}
use Rattle.volume.specs.Format.{table_for, format}
use Rattle.rules.specs.Spare.{unmapped_slots, spare}
use Rattle.atomicity.specs.Runs.{Step, started, ran_over}

-- After any list of calls, refused and cut ones included, the question about a file that there is isn't refused: it answers the count
-- taken from the whole map, which is R − P.
abbrev pub SparesKept : Type 0
SparesKept =
    (v : Volume) (T : ℕ) (l : Bytes) → (format v T l).answer ≡ format_done
    → (steps : List Step) (f : ℕ)
    → let t = table_for (length v) T l in
    let r = ran_over (started (format v T l).volume) steps in
    IsFile t f
    → (spare r.volume f ≡ counted (length (unmapped_slots (view r.volume) f)))
    × (spare r.volume f ≡ counted ((file_at t f).slots - (file_at t f).pages))
