-- The updates of both opens by the file's holder, and that the header stored after a recovery has the map which the plan says.
use mathlib.Core.Path.{◌≡◌, sym, ap, ◌∙◌}
use mathlib.Core.Bool.{Bool, true, false}
use mathlib.Core.List.{List, [], ◌∷◌, ◌++◌}
use mathlib.Core.Logic.{◌≢◌}
use Prim.Native.Nat.{ℕ}
use native.Mathlib.Omega.{arith}
use borrow.Author.Tests.{eq-eqb, ne_eqb}
use Rattle.std.specs.Prelude.{Result, Ok, Err}
use Rattle.std.specs.Result.{IsErrAnd}
use Rattle.interface.specs.declared.Session.{Session}
use Rattle.lists.proofs.CaseLaws.{by_test}
use Rattle.sector.specs.Contents.{Header}
use Rattle.volume.specs.Places.{IsClient, IsFile}
use Rattle.volume.specs.Views.{View, Update, set_header, changed_by}
use Rattle.volume.specs.Lawful.{header_fits}
use Rattle.volume.specs.Volumes.{Volume, view}
use Rattle.volume.specs.WellFormed.{WellFormed}
use Rattle.volume.proofs.LawfulLaws.{HeaderFacts, header_facts}
use Rattle.rules.specs.Sessions.{is_reading}
use Rattle.rules.specs.Recovery.{is_decided, map_after, recovery}
use Rattle.rules.specs.Plans.{open_file, open_read, open_plan, open_read_plan, plan}
use Rattle.rules.specs.Refusals.{held_by_other}
use Rattle.rules.proofs.AllowedLaws.{holder_orphaned}
use Rattle.stores.specs.declared.Run.{Run}
use Rattle.stores.specs.declared.Crashed.{Crashed}
use Rattle.stores.specs.Runs.{UpdatesMade, AllMade}
use Rattle.stores.proofs.MadeLaws.{all_table, made_more, made_cut}
use Rattle.recovery.specs.Work.{recovery_now}
use Rattle.recovery.proofs.WorkLaws.{now_live}
use Rattle.recovery.proofs.ReleaseLaws.{recovered_header}

module _ (a : View) (s : Session) (k f : ℕ) where
  pub own_plan : (a.headers f).holder ≡ k → plan a s (open_file k f) ≡ []
  unfolding plan open_plan
  own_plan e = rw (eq-eqb _ k e)

  pub free_plan : (a.headers f).holder ≢ k → (a.headers f).holder ≡ 0
      → plan a s (open_file k f) ≡ set_header f (record { holder = k; map = (a.headers f).map }) ∷ []
  unfolding plan open_plan
  free_plan n e = rw (ne_eqb _ k n, eq-eqb _ 0 e)

  held_plan : HeaderFacts a.table a.records f (a.headers f) → held_by_other a s k f ≡ false
      → (a.headers f).holder ≢ k → (a.headers f).holder ≢ 0
      → plan a s (open_file k f) ≡ recovery (is_decided a (a.headers f).holder) a (a.headers f).holder
      ++ (set_header f (record { holder = k; map = map_after (is_decided a (a.headers f).holder) a (a.headers f).holder f }) ∷ [])
  unfolding plan open_plan
  held_plan facts free n z = rw (ne_eqb _ k n, holder_orphaned a s k f facts free n, ne_eqb _ 0 z)

  -- Open for reading makes none where k or nobody holds the file. A file that k reads has no holder.
  pub own_read_plan : (a.headers f).holder ≡ k → plan a s (open_read k f) ≡ []
  unfolding plan open_read_plan
  own_read_plan e = rw (eq-eqb _ k e)

  pub free_read_plan : (a.headers f).holder ≢ k → (a.headers f).holder ≡ 0 → plan a s (open_read k f) ≡ []
  unfolding plan open_read_plan
  free_read_plan n e = by_test (is_reading s k f) (λ on. rw (ne_eqb _ k n, on)) (λ off. rw (ne_eqb _ k n, off, eq-eqb _ 0 e))

  held_read_plan : HeaderFacts a.table a.records f (a.headers f) → held_by_other a s k f ≡ false
      → (is_reading s k f ≡ true → (a.headers f).holder ≡ 0) → (a.headers f).holder ≢ k → (a.headers f).holder ≢ 0
      → plan a s (open_read k f) ≡ recovery (is_decided a (a.headers f).holder) a (a.headers f).holder
  unfolding plan open_read_plan
  held_read_plan facts free unread n z =
      let off : is_reading s k f ≡ false = by_test (is_reading s k f) (λ on. absurd (z (unread on))) (λ e. e) in
      rw (ne_eqb _ k n, off, holder_orphaned a s k f facts free n, ne_eqb _ 0 z)

-- Another client, h, holds the file.
module _ {v : Volume} (formed : WellFormed v) {k f h : ℕ} (file : IsFile (view v).table f)
    (fits : header_fits (view v).records (view v).table f ((view v).headers f) ≡ true) (e : ((view v).headers f).holder ≡ h)
    (n : h ≢ k) (z : h ≢ 0) where
  facts : HeaderFacts (view v).table (view v).records f ((view v).headers f)
  facts = header_facts (view v).table (view v).records f ((view v).headers f) fits

  some : ((view v).headers f).holder ≢ 0
  some = rw e z

  pub holder_client : IsClient (view v).table h
  holder_client = rw (sym e) (record { low = omega (arith, some); high = (facts.holder some).client })

  abbrev redo : Bool
  redo = is_decided (view v) h

  now : recovery_now (view v) h ≡ recovery redo (view v) h
  now = now_live (view v) h (rw e at (facts.holder some).live)

  whole : (s : Session) → held_by_other (view v) s k f ≡ false → plan (view v) s (open_file k f)
      ≡ recovery redo (view v) h ++ (set_header f (record { holder = k; map = map_after redo (view v) h f }) ∷ [])
  whole s free = rw e at (held_plan (view v) s k f facts free (rw e n) some)

  pub open_read_made : {w : Volume} {r : Run} {q : Result Run Crashed} → UpdatesMade v (Ok r) (recovery_now (view v) h) w q → (s : Session)
      → held_by_other (view v) s k f ≡ false → (is_reading s k f ≡ true → ((view v).headers f).holder ≡ 0)
      → UpdatesMade v (Ok r) (plan (view v) s (open_read k f)) w q
  open_read_made m s free unread =
      let is : plan (view v) s (open_read k f) ≡ recovery redo (view v) h = rw e at (held_read_plan (view v) s k f facts free unread (rw e n) some) in
      rw is (rw now at m)

  module _ {w : Volume} {r : Run} where
    -- The supply fails while h is recovered.
    pub open_cut : {q : Result Run Crashed} {c : Crashed} → IsErrAnd q (λ x. x ≡ c) → UpdatesMade v (Ok r) (recovery_now (view v) h) w (Err c)
        → (s : Session) → held_by_other (view v) s k f ≡ false → UpdatesMade v (Ok r) (plan (view v) s (open_file k f)) w q
    open_cut i m s free = rw (whole s free) (made_cut _ i (rw now at m))

    module _ {q : Run} (m : UpdatesMade v (Ok r) (recovery_now (view v) h) w (Ok q)) (done : AllMade v (recovery_now (view v) h) w) where
      pub recovered_formed : WellFormed w × IsFile (view w).table f
      recovered_formed = (done.formed, rw (all_table _ done) file)

      map_now : ((view w).headers f).map ≡ map_after redo (view v) h f
      map_now = ap (λ (a : View). (a.headers f).map) done.seen ∙ ap (λ (xs : List Update). ((changed_by (view v) xs).headers f).map) now
          ∙ ap (λ (x : Header). x.map) (recovered_header redo (view v) h f file e)

      pub open_more : {u : Volume} {z : Result Run Crashed}
          → UpdatesMade w (Ok q) (set_header f (record { holder = k; map = ((view w).headers f).map }) ∷ []) u z
          → (s : Session) → held_by_other (view v) s k f ≡ false → UpdatesMade v (Ok r) (plan (view v) s (open_file k f)) u z
      open_more n s free = rw (whole s free) (made_more (rw now at m) (all_table _ done) (rw map_now at n))
