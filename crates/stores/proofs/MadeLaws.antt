-- Updates made by a run. What a function makes adds up with what was made before it, up to a crash; after updates that were all
-- made a well-formed volume is well formed, and its view is the view with them made.
use mathlib.Core.Path.{◌≡◌, refl, sym, ap, ◌∙◌}
use mathlib.Core.List.{List, [], ◌∷◌, ◌++◌}
use Rattle.std.specs.Prelude.{Result, Ok, Err, OnOk}
use Rattle.std.specs.Result.{IsErrAnd}
use Rattle.std.proofs.lemmas.Result.{err_from_is_err_and}
use Rattle.volume.specs.Views.{View, Update}
use Rattle.volume.specs.Volumes.{Volume, view}
use Rattle.volume.specs.Stores.{cut_at, updated, all_stores}
use Rattle.volume.specs.WellFormed.{WellFormed}
use Rattle.volume.proofs.ViewLaws.{Placed}
use Rattle.volume.proofs.StoreLaws.{stores_append}
use Rattle.volume.proofs.AlongLaws.{changed_table}
use Rattle.volume.proofs.WellFormedLaws.{formed_view, formed_cut}
use Rattle.stores.specs.declared.Run.{Run}
use Rattle.stores.specs.declared.Crashed.{Crashed}
use Rattle.stores.specs.Runs.{counted, stores_made, UpdatesMade, AllMade}
use Rattle.stores.proofs.RunLaws.{run_one, run_append, run_all}

-- ------------------------------------------------------------------ all made
pub all_table : {v w : Volume} (xs : List Update) → AllMade v xs w → (view w).table ≡ (view v).table
all_table {v} xs m = ap (λ (a : View). a.table) m.seen ∙ changed_table xs (view v)

pub all_none : {v w : Volume} {r : Run} {q : Result Run Crashed} → WellFormed v → UpdatesMade v (Ok r) [] w q → AllMade v [] w
unfolding all_stores stores_made
all_none formed m =
    let e = ap (λ (p : Volume × Result Run Crashed). p.0) m.stores in
    record { formed = rw e formed; seen = ap view e }

-- One update that has its place.
pub all_one : {v w : Volume} {r : Run} {q : Result Run Crashed} (x : Update) → WellFormed v → Placed (view v).table x
    → UpdatesMade v (Ok r) (x ∷ []) w q → OnOk q (AllMade v (x ∷ []) w)
unfolding all_stores cut_at
all_one {q = Err c} x formed placed m = tt
all_one {v} {w} {r} {q = Ok q} x formed placed m =
    let e : w ≡ updated (view v).table v x = run_all _ v (Ok r) m.stores in
    record {
      formed = rw e (formed_cut v formed (x ∷ []) (placed, tt) 1);
      seen = ap view e ∙ formed_view v formed (x ∷ []) (placed, tt) 1;
    }

-- ------------------------------------------------------------------ none and one
pub made_none : {v : Volume} {r : Run} → UpdatesMade v (Ok r) [] v (Ok r)
unfolding all_stores stores_made
made_none = record { stores = refl }

-- One update, by the run that was to make it.
module _ {v : Volume} (r : Run) {x : Update} where
  pub put_made : {w : Volume} {q : Run} → Ok q ≡ counted r → w ≡ updated (view v).table v x → UpdatesMade v (Ok r) (x ∷ []) w (Ok q)
  unfolding all_stores stores_made
  put_made e s = record { stores = rw s (sym (run_one r v _ [] (sym e))) }

  pub put_short : {q : Result Run Crashed} {c : Crashed} → IsErrAnd q (λ d. d ≡ c) → Err c ≡ counted r → UpdatesMade v (Ok r) (x ∷ []) v q
  unfolding all_stores stores_made
  put_short {q} i e = let p = err_from_is_err_and q i in rw (p.1, p.2) (record { stores = sym (run_one r v _ [] (sym e)) })

-- ------------------------------------------------------------------ one after the other
-- A run that goes on finds the same table; after a crash nothing is made, whatever table there is.
same_made : (v w : Volume) (q : Result Run Crashed) → OnOk q ((view w).table ≡ (view v).table) → (ys : List Update)
    → stores_made w q (all_stores (view w).table ys) ≡ stores_made w q (all_stores (view v).table ys)
unfolding stores_made
same_made v w (Ok r) same ys = rw same
same_made v w (Err c) same ys = refl

module _ {v w : Volume} {r q : Result Run Crashed} {xs : List Update} (m : UpdatesMade v r xs w q) where
  first : (ys : List Update) → stores_made v r (all_stores (view v).table (xs ++ ys)) ≡ stores_made w q (all_stores (view v).table ys)
  first ys =
      let t = (view v).table in
      ap (stores_made v r) (stores_append t xs ys) ∙ run_append (all_stores t xs) (all_stores t ys) v r
      ∙ ap (λ (p : Volume × Result Run Crashed). stores_made p.0 p.1 (all_stores t ys)) (sym m.stores)

  pub made_more : {u : Volume} {z : Result Run Crashed} {ys : List Update} → OnOk q ((view w).table ≡ (view v).table)
      → UpdatesMade w q ys u z → UpdatesMade v r (xs ++ ys) u z
  made_more {ys = ys} same n = record { stores = n.stores ∙ same_made v w q same ys ∙ sym (first ys) }

-- A crash that goes up by `?`: what was to come isn't made.
pub made_cut : {v w : Volume} {r q : Result Run Crashed} {c : Crashed} {xs : List Update} (ys : List Update)
    → IsErrAnd q (λ d. d ≡ c) → UpdatesMade v r xs w (Err c) → UpdatesMade v r (xs ++ ys) w q
unfolding stores_made
made_cut {q = q} ys i m = let p = err_from_is_err_and q i in rw (p.1, p.2) (record { stores = sym (first m ys) })
