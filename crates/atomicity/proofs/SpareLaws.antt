-- After any list the question about slots answers the count taken from the map, R − P: the volume is still sound, with the table of
-- the format, and what holds of every sound volume (rules `SpareLaws`) holds of it.
use mathlib.Core.Path.{◌≡◌, ap, subst, sym, ◌∙◌}
use mathlib.Core.Bool.{true}
use Prim.Native.Nat.{ℕ, ◌-◌}
use native.Mathlib.Omega.{arith}
use lib.ListN.{length}
use Rattle.interface.specs.Answers.{counted}
use Rattle.sector.specs.Contents.{Table}
use Rattle.volume.specs.Places.{IsFile, file_at}
use Rattle.volume.specs.Volumes.{Volume, view}
use Rattle.volume.specs.Sound.{sound}
use Rattle.volume.specs.Format.{table_for, format}
use Rattle.volume.proofs.SoundLaws.{fine_sound}
use Rattle.rules.specs.Spare.{unmapped_slots, spare}
use Rattle.rules.proofs.SpareLaws.{spare_count, slots_together, slot_of_each_page}
use Rattle.atomicity.specs.Runs.{started, ran_over}
use Rattle.atomicity.specs.Spares.{SparesKept}
use Rattle.atomicity.proofs.Theorem.{ran_related, format_related}
use Rattle.atomicity.proofs.NonVacuity.{ran_steady, format_steady}

-- On a sound volume.
module _ (v : Volume) (f : ℕ) (ok : sound v ≡ true) (i : IsFile (view v).table f) where
  rest : length (unmapped_slots (view v) f) ≡ (file_at (view v).table f).slots - (file_at (view v).table f).pages
  rest = omega (arith, slots_together (view v) f, slot_of_each_page v f ok i)

  pub spare_rest : spare v f ≡ counted ((file_at (view v).table f).slots - (file_at (view v).table f).pages)
  spare_rest = spare_count v f ok i ∙ ap counted rest

pub spares_kept : SparesKept
spares_kept v T l d steps f i =
    let w : Volume = (ran_over (started (format v T l).volume) steps).volume in
    let table : (view w).table ≡ table_for (length v) T l = (ran_related (format_related v T l d) steps).table in
    let ok : sound w ≡ true = fine_sound w (ran_steady (started (format v T l).volume) (format_steady v T l d) steps).volume in
    let j : IsFile (view w).table f = subst (λ (t : Table). IsFile t f) (sym table) i in
    (spare_count w f ok j, rw table at (spare_rest w f ok j))
