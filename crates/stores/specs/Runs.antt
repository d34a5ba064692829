-- Runs of stores under a budget. A run is continued by further stores: each is made while the budget isn't used up; at the
-- first one beyond it the supply fails, and then no further one is made.
use Rattle.std.specs.Prelude.{◌≡◌, List, [], ◌∷◌, ℕ, ◌+◌, ltb, Result, Ok, Err}
use Rattle.lists.specs.Lists.{when◌then◌else◌}
use Rattle.sector.specs.Sectors.{store_at}
use Rattle.volume.specs.Views.{Update, changed_by}
use Rattle.volume.specs.Volumes.{Volume, view}
use Rattle.volume.specs.WellFormed.{WellFormed}
use Rattle.volume.specs.Stores.{Store, all_stores}
use Rattle.stores.specs.declared.Run.{Run}
use Rattle.stores.specs.declared.Crashed.{Crashed}

-- A run that has made no store yet.
abbrev pub new_run : (budget : ℕ) → Run
new_run budget = record { budget = budget; made = 0 }

-- A run that was to make another store: one store more, or a crash.
abbrev pub counted : Run → Result Run Crashed
counted r =
    when ltb r.made r.budget then Ok (record { budget = r.budget; made = r.made + 1 })
    else Err (record { made = r.made })

-- The volume with this store made, if the run goes on.
abbrev pub stored_by : Result Run Crashed → Volume → Store → Volume
stored_by (Ok r) v x = store_at v x.target x.bytes
stored_by (Err c) v x = v

-- The volume and the run after these stores, in order, by a run that goes on or has crashed.
unfoldable pub stores_made : Volume → Result Run Crashed → List Store → Volume × Result Run Crashed
stores_made v (Err c) xs = (v, Err c)
stores_made v (Ok r) [] = (v, Ok r)
stores_made v (Ok r) (x ∷ xs) = stores_made (stored_by (counted r) v x) (counted r) xs

-- The run r on the volume v, continued by the stores of these updates, left the volume w and came to q.
pub record UpdatesMade (v : Volume) (r : Result Run Crashed) (xs : List Update) (w : Volume) (q : Result Run Crashed) : Type 0 where
  pub stores : (w, q) ≡ stores_made v r (all_stores (view v).table xs)

-- What all of these updates leave of the volume v.
pub record AllMade (v : Volume) (xs : List Update) (w : Volume) : Type 0 where
  pub formed : WellFormed w
  pub seen : view w ≡ changed_by (view v) xs
