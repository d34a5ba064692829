-- Examples of runs of stores: which run makes another store, what is counted, and what a run leaves. The checker evaluates both
-- sides.
use mathlib.Core.Path.{◌≡◌, refl}
use mathlib.Core.List.{List, [], ◌∷◌, ◌++◌, map}
use Prim.Native.Nat.{ℕ}
use lib.ListN.{replicate}
use Rattle.std.specs.Prelude.{Result, Ok, Err, is_ok, true, false}
use Rattle.sector.specs.Sectors.{store_at}
use Rattle.volume.specs.Volumes.{Volume}
use Rattle.volume.specs.Stores.{Store}
use Rattle.stores.specs.declared.Run.{Run}
use Rattle.stores.specs.declared.Crashed.{Crashed}
use Rattle.stores.specs.Runs.{new_run, counted, stores_made}

abbrev run : ℕ → ℕ → Run
run budget made = record { budget = budget; made = made }

abbrev going : ℕ → ℕ → Result Run Crashed
going budget made = Ok (run budget made)

abbrev crash : ℕ → Result Run Crashed
crash made = Err (record { made = made })

-- With stores left, with the last one, with none, and with none from the start. A crash counts no store.
counts : map counted (new_run 2 ∷ run 2 1 ∷ run 2 2 ∷ new_run 0 ∷ []) ≡ going 2 1 ∷ going 2 2 ∷ crash 2 ∷ crash 0 ∷ []
counts = refl

-- Two stores: sector 0 gets ones, sector 1 twos.
abbrev page : ℕ → Volume
page n = replicate 256 n

abbrev both : List Store
both = record { target = 0; bytes = page 1 } ∷ record { target = 1; bytes = page 2 } ∷ []

abbrev after : Result Run Crashed → Volume × Result Run Crashed
after r = stores_made (page 0 ++ page 0) r both

-- A run goes on with stores left, and with the last one, but not with none, and not after a crash.
goes_on_lem : map (λ r. is_ok (stores_made (page 0) r (record { target = 0; bytes = page 1 } ∷ [])).1)
    (Ok (new_run 2) ∷ going 2 1 ∷ going 2 2 ∷ Ok (new_run 0) ∷ crash 1 ∷ []) ≡ true ∷ true ∷ false ∷ false ∷ false ∷ []
unfolding stores_made store_at
goes_on_lem = refl

-- By a budget for both, for the first alone, for none, and by a run that has crashed.
made : map after (Ok (new_run 2) ∷ Ok (new_run 1) ∷ Ok (new_run 0) ∷ crash 1 ∷ [])
    ≡ (page 1 ++ page 2, going 2 2) ∷ (page 1 ++ page 0, crash 1) ∷ (page 0 ++ page 0, crash 0) ∷ (page 0 ++ page 0, crash 1) ∷ []
unfolding stores_made store_at
made = refl
