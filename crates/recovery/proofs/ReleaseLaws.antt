-- The loop of recovery over the files: what is left to do after each file is recovery's updates for the files to come, and then
-- the idle record. A file freed leaves the table, the records and the headers to come as they were, so each further file is
-- freed as the first view has it.
use mathlib.Core.Path.{◌≡◌, refl, sym, ap, ◌∙◌}
use mathlib.Core.Bool.{Bool, true, false}
use mathlib.Core.List.{List, [], ◌∷◌, ◌++◌, map}
use mathlib.Core.Logic.{◌≢◌}
use Prim.Native.Nat.{ℕ, suc, ◌+◌, ◌-◌, ◌≤◌, ◌<◌}
use native.Mathlib.Omega.{arith}
use borrow.Author.Tests.{eq-eqb, ne_eqb}
use lib.ListN.{length}
use Rattle.std.specs.Prelude.{Result, Ok, Err, OnOk}
use Rattle.std.specs.Result.{IsErrAnd}
use Rattle.std.proofs.lemmas.Result.{on_ok_weaker}
use Rattle.lists.specs.Lists.{when◌then◌else◌, filter, member, from}
use Rattle.sector.specs.Contents.{Record, Header, idle_record}
use Rattle.sector.proofs.EditLaws.{redone_length}
use Rattle.lists.proofs.ListLaws.{no_both}
use Rattle.lists.proofs.CaseLaws.{if_test, if_equal}
use Rattle.volume.specs.Places.{IsClient, IsFile}
use Rattle.volume.specs.Views.{View, Update, set_record, set_header, changed, changed_by}
use Rattle.volume.specs.Volumes.{Volume, view}
use Rattle.volume.specs.WellFormed.{WellFormed}
use Rattle.volume.proofs.AlongLaws.{changed_append}
use Rattle.volume.proofs.LawfulLaws.{idle_fits}
use Rattle.volume.proofs.ReadLaws.{few_pages}
use Rattle.rules.specs.Sessions.{holds}
use Rattle.rules.specs.Recovery.{map_after, held_files, recovery}
use Rattle.rules.proofs.RecoveryLaws.{held_member}
use Rattle.stores.specs.declared.Run.{Run}
use Rattle.stores.specs.declared.Crashed.{Crashed}
use Rattle.stores.specs.Runs.{UpdatesMade, AllMade}
use Rattle.stores.proofs.MadeLaws.{all_table, all_none, all_one, made_none, made_more, made_cut}
use Rattle.recovery.specs.Work.{freed, release_of}

-- ------------------------------------------------------------------ one file
module _ (redo : Bool) (a : View) (k : ℕ) where
  pub release_none : (f : ℕ) → (a.headers f).holder ≢ k → release_of redo a k f ≡ []
  unfolding release_of
  release_none f n = rw (ne_eqb _ k n)

  pub release_held : (f : ℕ) → (a.headers f).holder ≡ k → release_of redo a k f ≡ set_header f (freed redo a k f) ∷ []
  unfolding release_of
  release_held f e = rw (eq-eqb _ k e)

  -- It is freed the same where its header and the client's record are the same.
  release_same : (b : View) (f : ℕ) → b.records k ≡ a.records k → b.headers f ≡ a.headers f → release_of redo b k f ≡ release_of redo a k f
  unfolding release_of
  release_same b f r h = rw (r, h)

  release_records : (f : ℕ) (b : View) → (changed_by b (release_of redo a k f)).records ≡ b.records
  unfolding release_of
  release_records f b = if_test (λ (xs : List Update). (changed_by b xs).records ≡ b.records) (holds a k f) _ [] (λ e. refl) (λ e. refl)

  pub release_other : (f g : ℕ) (b : View) → g ≢ f → (changed_by b (release_of redo a k f)).headers g ≡ b.headers g
  unfolding release_of
  release_other f g b n = if_test (λ (xs : List Update). (changed_by b xs).headers g ≡ b.headers g) (holds a k f) _ []
      (λ e. rw (ne_eqb g f n)) (λ e. refl)

  -- The updates of recovery for these files, and the idle record.
  abbrev pub rest : List ℕ → List Update
  rest fs = map (λ f. set_header f (freed redo a k f)) (filter (holds a k) fs) ++ (set_record k idle_record ∷ [])

  pub rest_all : recovery redo a k ≡ rest (from 1 (length a.table.files))
  unfolding recovery held_files
  rest_all = refl

  pub rest_more : (f : ℕ) (fs : List ℕ) → rest (f ∷ fs) ≡ release_of redo a k f ++ rest fs
  unfolding release_of
  rest_more f fs = go (holds a k f)
    where
      go : (b : Bool) → map (λ f. set_header f (freed redo a k f)) (when b then f ∷ filter (holds a k) fs else filter (holds a k) fs) ++ (set_record k idle_record ∷ [])
          ≡ (when b then set_header f (freed redo a k f) ∷ [] else []) ++ rest fs
      go true = refl
      go false = refl

after_length : (redo : Bool) (a : View) (k f : ℕ) → length (map_after redo a k f) ≡ length (a.headers f).map
after_length true a k f = redone_length f (a.records k).entries (a.headers f).map
after_length false a k f = refl

-- A file that was freed, or that k doesn't hold.
release_all : {v w : Volume} {r q : Run} (redo : Bool) (k f : ℕ) → WellFormed v → IsFile (view v).table f
    → UpdatesMade v (Ok r) (release_of redo (view v) k f) w (Ok q) → AllMade v (release_of redo (view v) k f) w
unfolding release_of
release_all {v} {w} {r} {q} redo k f formed i m = if_test (λ (xs : List Update). UpdatesMade v (Ok r) xs w (Ok q) → AllMade v xs w) (holds (view v) k f) _ []
    (λ e m. all_one _ formed (i, after_length redo (view v) k f ∙ formed.map_size f i.low i.high, omega (arith, few_pages v formed.tabled f i)) m)
    (λ e m. all_none formed m) m

-- ------------------------------------------------------------------ the loop
-- The files from f on.
abbrev files_from : View → ℕ → List ℕ
files_from a f = from f (length a.table.files + 1 - f)

-- File f is next, for a run that goes on: what is left of recovery is its updates from there on.
pub record Turn (v₀ : Volume) (r₀ : Run) (redo : Bool) (k : ℕ) (v : Volume) (r : Run) (f : ℕ) : Type 0 where
  pub low : 1 ≤ f
  pub high : f ≤ length (view v₀).table.files + 1
  formed : WellFormed v
  table : (view v).table ≡ (view v₀).table
  own : (view v).records k ≡ (view v₀).records k
  headers : (g : ℕ) → f ≤ g → (view v).headers g ≡ (view v₀).headers g
  seen : changed_by (view v) (rest redo (view v₀) k (files_from (view v₀) f)) ≡ changed_by (view v₀) (recovery redo (view v₀) k)
  left : {u : Volume} {q : Result Run Crashed} → UpdatesMade v (Ok r) (rest redo (view v₀) k (files_from (view v₀) f)) u q
      → UpdatesMade v₀ (Ok r₀) (recovery redo (view v₀) k) u q

pub turn_start : {v : Volume} {r : Run} {redo : Bool} {k : ℕ} → WellFormed v → Turn v r redo k v r 1
turn_start {v} {r} {redo} {k} formed =
    let e : length (view v).table.files + 1 - 1 ≡ length (view v).table.files = omega arith in
    record {
      low = omega arith;
      high = omega arith;
      formed = formed;
      table = refl;
      own = refl;
      headers = λ g h. refl;
      seen = rw (rest_all redo (view v) k, e);
      left = λ m. rw (rest_all redo (view v) k) (rw e at m);
    }

module _ {v₀ : Volume} {r₀ : Run} {redo : Bool} {k : ℕ} {v : Volume} {r : Run} {f : ℕ} (client : IsClient (view v₀).table k)
    (t : Turn v₀ r₀ redo k v r f) where
  pub turn_formed : WellFormed v × IsClient (view v).table k
  turn_formed = (t.formed, rw t.table client)

  pub turn_file : f ≤ length (view v₀).table.files → IsFile (view v).table f
  turn_file h = rw t.table (record { low = t.low; high = h })

  -- One file.
  module _ (h : f ≤ length (view v₀).table.files) where
    same : release_of redo (view v) k f ≡ release_of redo (view v₀) k f
    same = release_same redo (view v₀) k (view v) f t.own (t.headers f (omega arith))

    abbrev later : List Update
    later = rest redo (view v₀) k (files_from (view v₀) (f + 1))

    split : rest redo (view v₀) k (files_from (view v₀) f) ≡ release_of redo (view v) k f ++ later
    split =
        let n = length (view v₀).table.files in
        let e : n + 1 - f ≡ suc (n + 1 - (f + 1)) = omega arith in
        let s : suc f ≡ f + 1 = omega arith in
        rw same (ap (λ (i : ℕ). rest redo (view v₀) k (from f i)) e ∙ rest_more redo (view v₀) k f (from (suc f) (n + 1 - (f + 1))) ∙ rw s)

    -- The supply fails at its header.
    pub turn_cut : {w : Volume} {q : Result Run Crashed} {c : Crashed} → IsErrAnd q (λ d. d ≡ c)
        → UpdatesMade v (Ok r) (release_of redo (view v) k f) w (Err c) → UpdatesMade v₀ (Ok r₀) (recovery redo (view v₀) k) w q
    turn_cut i m = t.left (rw split (made_cut later i m))

    pub turn_more : {w : Volume} {q : Run} → UpdatesMade v (Ok r) (release_of redo (view v) k f) w (Ok q) → Turn v₀ r₀ redo k w q (f + 1)
    turn_more {w} {q} m =
        let d : AllMade v (release_of redo (view v) k f) w = release_all redo k f t.formed (turn_file h) m in
        let table = all_table _ d in
        record {
          low = omega arith;
          high = omega arith;
          formed = d.formed;
          table = table ∙ t.table;
          own = ap (λ (b : View). b.records k) d.seen ∙ ap (λ (rs : ℕ → Record). rs k) (release_records redo (view v) k f (view v)) ∙ t.own;
          headers = λ g l. ap (λ (b : View). b.headers g) d.seen ∙ release_other redo (view v) k f g (view v) (omega arith) ∙ t.headers g (omega arith);
          seen = ap (λ (b : View). changed_by b later) d.seen ∙ sym (changed_append (release_of redo (view v) k f) later (view v))
              ∙ ap (changed_by (view v)) (sym split) ∙ t.seen;
          left = λ n. t.left (rw split (made_more m table n));
        }

    -- A file that k doesn't hold.
    pub turn_skip : ((view v).headers f).holder ≢ k → Turn v₀ r₀ redo k v r (f + 1)
    turn_skip n = turn_more (rw (release_none redo (view v) k f n) made_none)

  -- The record, after the last file.
  pub turn_end : length (view v₀).table.files < f → {u : Volume} {q : Result Run Crashed} → UpdatesMade v (Ok r) (set_record k idle_record ∷ []) u q
      → UpdatesMade v₀ (Ok r₀) (recovery redo (view v₀) k) u q × OnOk q (AllMade v₀ (recovery redo (view v₀) k) u)
  turn_end h {u} {q} m =
      let e : length (view v₀).table.files + 1 - f ≡ 0 = omega (arith, t.high) in (
        t.left (rw e m),
        on_ok_weaker q (λ (d : AllMade v (set_record k idle_record ∷ []) u). record { formed = d.formed; seen = d.seen ∙ rw e at t.seen })
            (all_one _ t.formed (rw t.table (client.low, client.high, idle_fits (view v).table)) m),
      )

-- ------------------------------------------------------------------ what recovery leaves
-- A header is what was set for it, if it isn't so before.
headers_set : (h : ℕ → Header) (k : ℕ) (r : Record) (f : ℕ) (fs : List ℕ) (b : View) → (member f fs ≡ false → b.headers f ≡ h f)
    → (changed_by b (map (λ g. set_header g (h g)) fs ++ (set_record k r ∷ []))).headers f ≡ h f
headers_set h k r f [] b start = start refl
headers_set h k r f (g ∷ gs) b start = headers_set h k r f gs (changed b (set_header g (h g)))
    (λ e. if_equal (λ (x : Header). x ≡ h f) f g (h g) (b.headers f) (λ q. ap h (sym q)) (λ n. start (rw (ne_eqb f g n) e)))

pub recovered_header : (redo : Bool) (a : View) (k f : ℕ) → IsFile a.table f → (a.headers f).holder ≡ k
    → (changed_by a (recovery redo a k)).headers f ≡ freed redo a k f
unfolding recovery
recovered_header redo a k f i e = headers_set (freed redo a k) k idle_record f (held_files a k) a (λ out. no_both _ (held_member a k f i e) out)
