-- What the stores of a call rely on, from its tests, none of which held.
use mathlib.Core.Path.{◌≡◌, refl, sym}
use mathlib.Core.Bool.{true, false}
use Prim.Native.Nat.{ℕ, ◌≤◌}
use native.Mathlib.Omega.{arith}
use Rattle.interface.specs.declared.Session.{Session}
use Rattle.interface.specs.Answers.{new_session}
use Rattle.lists.specs.Lists.{first}
use Rattle.volume.specs.Places.{IsClient, IsFile, IsPage}
use Rattle.volume.specs.Lawful.{header_fits}
use Rattle.volume.specs.Volumes.{Volume, view}
use Rattle.volume.specs.Sound.{sound}
use Rattle.volume.specs.WellFormed.{WellFormed}
use Rattle.volume.proofs.ReadLaws.{few_files}
use Rattle.volume.proofs.SoundLaws.{Fine, sound_lawful}
use Rattle.volume.proofs.WellFormedLaws.{sound_formed}
use Rattle.rules.specs.Sessions.{is_active, is_reading}
use Rattle.rules.specs.Plans.{Call, begin, open_file, open_read, commit, abort, look_page}
use Rattle.rules.specs.Refusals.{held_by_other, look_tests, tests, query_tests}
use Rattle.rules.proofs.AllowedLaws.{MayOpenRead, passed_first, query_ordered, answerable}
use Rattle.rules.proofs.CallLaws.{passed}
use Rattle.transaction.proofs.TestedLaws.{begin_client, act_client, open_header}

-- The volume is well formed, whatever the call.
pub call_formed : (v : Volume) (s : Session) (c : Call) → 0 ≡ first (tests (sound v) (view v) s c) → WellFormed v
call_formed v s c e = (passed v s c (sym e)).fine.formed

-- The tests of commit and of abort are the same.
pub same_tests : (v : Volume) (s : Session) (k : ℕ) → first (tests (sound v) (view v) s (commit k)) ≡ first (tests (sound v) (view v) s (abort k))
unfolding tests
same_tests v s k = refl

-- A client that may begin.
pub record Begins (v : Volume) (s : Session) (k : ℕ) : Type 0 where
  pub client : IsClient (view v).table k
  pub off : is_active s k ≡ false

pub begins : (v : Volume) (s : Session) (k : ℕ) → 0 ≡ first (tests (sound v) (view v) s (begin k)) → Begins v s k
begins v s k e = let w = (passed v s (begin k) (sym e)).allowed in record { client = begin_client w; off = w.off }

-- A client that is active.
pub record Acts (v : Volume) (k : ℕ) : Type 0 where
  pub client : IsClient (view v).table k
  pub running : ((view v).records k).state ≡ 1

pub acts : (v : Volume) (s : Session) (k : ℕ) → 0 ≡ first (tests (sound v) (view v) s (commit k)) → Acts v k
acts v s k e = let w = (passed v s (commit k) (sym e)).allowed in record { client = act_client w; running = w.running.state }

-- A file that may be opened, for writing or for reading.
pub record Opens (v : Volume) (s : Session) (k f : ℕ) : Type 0 where
  pub formed : WellFormed v
  pub file : IsFile (view v).table f
  pub header : header_fits (view v).records (view v).table f ((view v).headers f) ≡ true
  pub free : held_by_other (view v) s k f ≡ false

may_open : (v : Volume) (s : Session) (k f : ℕ) → Fine v → MayOpenRead (view v) s k f → Opens v s k f
may_open v s k f fine w = record { formed = fine.formed; file = w.file; header = open_header w; free = w.free }

pub opens : (v : Volume) (s : Session) (k f : ℕ) → 0 ≡ first (tests (sound v) (view v) s (open_file k f)) → Opens v s k f
opens v s k f e = let p = passed v s (open_file k f) (sym e) in may_open v s k f p.fine p.allowed.either

pub opens_read : (v : Volume) (s : Session) (k f : ℕ) → 0 ≡ first (tests (sound v) (view v) s (open_read k f)) → Opens v s k f
opens_read v s k f e = let p = passed v s (open_read k f) (sym e) in may_open v s k f p.fine p.allowed

-- A file that the client reads already has no holder.
pub unread : (v : Volume) (s : Session) (k f : ℕ) → 0 ≡ first (tests (sound v) (view v) s (open_read k f))
    → is_reading s k f ≡ true → ((view v).headers f).holder ≡ 0
unread v s k f e on =
    let p = passed v s (open_read k f) (sym e) in
    let w = p.allowed in
    let last : f ≤ 16 = omega (arith, w.file.high, few_files v p.fine.formed.tabled) in
    (w.act.ready.reads k f (record { low = w.act.active.low; high = w.act.active.high; first = w.file.low; last = last; on = on })).free

-- A page that a look finds.
pub record Looks (v : Volume) (f p : ℕ) : Type 0 where
  pub sound : sound v ≡ true
  pub formed : WellFormed v
  pub page : IsPage (view v).table f p

pub looks : (v : Volume) (f p : ℕ) → 0 ≡ first (look_tests (sound v) (view v) f p) → Looks v f p
unfolding query_tests
looks v f p e =
    let w = answerable (sound v) (view v) new_session (sound_lawful v) (look_page f p) (sym e) in
    let ok : sound v ≡ true = passed_first (query_ordered (sound v) (view v) new_session (look_page f p)) (sym e) in
    record { sound = ok; formed = sound_formed v ok; page = record { file = w.file; below = w.page } }
