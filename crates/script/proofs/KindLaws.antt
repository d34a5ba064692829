-- What a line asks for: the first row that it fits.
use mathlib.Core.Path.{◌≡◌, refl}
use mathlib.Core.Bool.{Bool}
use mathlib.Core.List.{List, [], ◌∷◌}
use Prim.Native.Nat.{ℕ, zero, suc}
use native.Mathlib.Numerals.{add-one}
use Rattle.std.specs.Option.{option_map}
use Rattle.std.specs.List.{find, list_all, range_with_len}
use Rattle.lists.specs.Lists.{every, from}
use Rattle.lists.proofs.CaseLaws.{by_test}
use Rattle.sector.specs.Contents.{Bytes}
use Rattle.script.specs.declared.Row.{Row}
use Rattle.script.specs.Kinds.{fits, kind_in}

pub kind_found : (xs : List Row) (l : Bytes) → option_map (λ x. x.kind) (find (λ x. fits x l) xs) ≡ kind_in xs l
unfolding kind_in
kind_found [] l = refl
kind_found (x ∷ xs) l = by_test (fits x l) (λ e. rw e) (λ e. rw (e, kind_found xs l))

-- The library's words for the numbers from a on, and for a test of each.
pub all_from : (t : ℕ → Bool) (a n : ℕ) → list_all t (range_with_len a n) ≡ every t (from a n)
all_from t a zero = refl
all_from t a (suc n) = rw (add-one a, all_from t (suc a) n)
