-- Runs of stores, whatever the stores are: one run after the other, one that goes on after them, and what a new run comes to. By
-- induction on the stores.
use mathlib.Core.Path.{◌≡◌, refl, ap, ◌∙◌}
use mathlib.Core.Bool.{true, false}
use mathlib.Core.List.{List, [], ◌∷◌, ◌++◌}
use Prim.Native.Nat.{ℕ, zero, suc, ◌+◌}
use native.Mathlib.Nat.{zero-add}
use native.Mathlib.Omega.{arith}
use borrow.Author.Tests.{lt-ltb, le-ltb}
use lib.Dec.{ltb, leb-suc-suc}
use lib.ListN.{length, take}
use lib.Seq.{take-nil}
use Rattle.std.specs.Prelude.{Result, Ok, Err, is_ok}
use Rattle.lists.specs.Lists.{when◌then◌else◌}
use Rattle.lists.proofs.ListLaws.{no_both}
use Rattle.lists.proofs.CaseLaws.{by_test}
use Rattle.sector.specs.Sectors.{store_at}
use Rattle.volume.specs.Volumes.{Volume}
use Rattle.volume.specs.Stores.{Store, cut_at}
use Rattle.stores.specs.declared.Run.{Run}
use Rattle.stores.specs.declared.Crashed.{Crashed}
use Rattle.stores.specs.Runs.{new_run, counted, stored_by, stores_made}

-- One store, by the run that was to make it.
pub run_one : (r : Run) {q : Result Run Crashed} (v : Volume) (x : Store) (xs : List Store) → counted r ≡ q
    → stores_made v (Ok r) (x ∷ xs) ≡ stores_made (stored_by q v x) q xs
unfolding stores_made
run_one r v x xs e = ap (λ (q : Result Run Crashed). stores_made (stored_by q v x) q xs) e

-- It is made while the budget isn't used up.
module _ (r : Run) where
  abbrev next : Run
  next = record { budget = r.budget; made = r.made + 1 }

  abbrev cut : Crashed
  cut = record { made = r.made }

  counts : ltb r.made r.budget ≡ true → counted r ≡ Ok next
  counts e = rw e

  crashes : ltb r.made r.budget ≡ false → counted r ≡ Err cut
  crashes e = rw e

pub run_append : (xs ys : List Store) (v : Volume) (r : Result Run Crashed)
    → stores_made v r (xs ++ ys) ≡ stores_made (stores_made v r xs).0 (stores_made v r xs).1 ys
unfolding stores_made
run_append xs ys v (Err c) = refl
run_append [] ys v (Ok r) = refl
run_append (x ∷ xs) ys v (Ok r) = run_append xs ys (stored_by (counted r) v x) (counted r)

-- A run that goes on after these stores has made them all.
pub run_all : (xs : List Store) (v : Volume) (r : Result Run Crashed) {w : Volume} {q : Run} → (w, Ok q) ≡ stores_made v r xs → w ≡ cut_at v xs (length xs)
unfolding stores_made cut_at
run_all xs v (Err c) e = no_both true refl (ap (λ (p : Volume × Result Run Crashed). is_ok p.1) e)
run_all [] v (Ok r) e = ap (λ (p : Volume × Result Run Crashed). p.0) e
run_all (x ∷ xs) v (Ok r) e = by_test (ltb r.made r.budget)
    (λ g. run_all xs (store_at v x.target x.bytes) (Ok (next r)) (e ∙ run_one r v x xs (counts r g)))
    (λ g. no_both true refl (ap (λ (p : Volume × Result Run Crashed). is_ok p.1) (e ∙ run_one r v x xs (crashes r g))))

-- ------------------------------------------------------------------ a new run
-- What becomes of a run that had made `made` stores, n short of its budget, when it is to make these.
abbrev run_left : (budget made n : ℕ) → List Store → Result Run Crashed
run_left budget made n xs =
    let all = made + length (take n xs) in
    when ltb n (length xs) then Err (record { made = all }) else Ok (record { budget = budget; made = all })

from_here : (n m : ℕ) (xs : List Store) (v : Volume)
    → stores_made v (Ok (record { budget = m + n; made = m })) xs ≡ (cut_at v xs n, run_left (m + n) m n xs)
unfolding stores_made cut_at
from_here n m [] v = let z : m + 0 ≡ m = omega arith in rw (take-nil {A = Store} n, le-ltb n 0 (omega arith), z)
from_here zero m (x ∷ xs) v =
    let z : m + 0 ≡ m = omega arith in
    rw (z, lt-ltb 0 (suc (length xs)) (omega arith)) (run_one _ v x xs (crashes (record { budget = m; made = m }) (le-ltb m m (omega arith))))
from_here (suc n) m (x ∷ xs) v =
    let l = length (take n xs) in
    let b : m + suc n ≡ m + 1 + n = omega arith in
    let c : m + suc l ≡ m + 1 + l = omega arith in
    run_one _ v x xs (counts (record { budget = m + suc n; made = m }) (lt-ltb m (m + suc n) (omega arith)))
    ∙ rw (b, c, leb-suc-suc (suc n) (length xs)) (from_here n (m + 1) xs _)

-- Of the stores of a new run the first `budget` are made; it crashed if they aren't all.
pub run_new : (budget : ℕ) (xs : List Store) (v : Volume) → stores_made v (Ok (new_run budget)) xs
    ≡ (
      cut_at v xs budget,
      when ltb budget (length xs) then Err (record { made = length (take budget xs) })
          else Ok (record { budget = budget; made = length (take budget xs) }),
    )
run_new budget xs v = simp zero-add at (from_here budget 0 xs v)
