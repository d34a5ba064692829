-- What `entries_held`'s loop keeps: what is left of the entries fits the table, and decides.
use Rattle.std.proofs.Common.{◌≡◌, true}
use Rattle.lists.specs.Lists.{every}
use Rattle.sector.specs.Walks.{entries_left}
use Rattle.volume.specs.Volumes.{view}
use Rattle.volume.specs.Lawful.{entry_fits}
use Rattle.rules.specs.Sessions.{holds}
use Rattle.sessions.proofs.marks_fit.entries_held.Given as goal

abbrev pub invariant-loop-e : goal.invariant-loop-e
invariant-loop-e l = record {
  fits : every (entry_fits (view l.c.volume.bytes.now).table) (entries_left l.e-iterator) ≡ true;
  decides : every (λ e. holds (view l.c.volume.bytes.now) l.c.number e.file) ((view l.c.volume.bytes.now).records l.c.number).entries
      ≡ every (λ e. holds (view l.c.volume.bytes.now) l.c.number e.file) (entries_left l.e-iterator);
}
