-- The loops over the files of a list of pairs: a loop keeps that the result is decided by the files that are left, and a turn
-- takes the first of these.
use mathlib.Core.Path.{◌≡◌}
use mathlib.Core.Bool.{true}
use mathlib.Core.List.{List, [], ◌∷◌}
use Prim.Native.Nat.{ℕ, ◌+◌}
use native.Mathlib.Omega.{arith}
use Rattle.lists.specs.Lists.{every}
use Rattle.sector.specs.declared.layout.File.{File}
use Rattle.lists.proofs.ListLaws.{and_left, and_right}
use Rattle.volume.specs.Places.{sector_after}
use Rattle.volume.specs.Lawful.{file_fits}

-- Of the files that are left, x and then xs.
module _ (x : File) (xs left : List File) (next : left ≡ x ∷ xs) where
  -- Where all that are left fit, x fits, and those behind it.
  pub first_fits : every file_fits left ≡ true → file_fits x ≡ true
  first_fits e = and_left (file_fits x) _ (rw next at e)

  pub rest_fits : every file_fits left ≡ true → every file_fits xs ≡ true
  rest_fits e = and_right (file_fits x) _ (rw next at e)

  -- ------------------------------------------------------------------ where the files end
  pub after_turn : (s : ℕ) → sector_after (s + (1 + x.slots)) xs ≡ sector_after s left
  unfolding sector_after
  after_turn s = let e : s + (1 + x.slots) ≡ s + 1 + x.slots = omega arith in rw (e, next)

pub after_end : (s : ℕ) (left : List File) → left ≡ [] → sector_after s left ≡ s
unfolding sector_after
after_end s left e = rw e
