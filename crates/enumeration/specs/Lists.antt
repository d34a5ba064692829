-- All lists of so many elements of a list. The kit's `flat_map f xs` has the lists that f makes of the xs, one after the other.
use mathlib.Core.List.{List, [], ◌∷◌, map, flat_map, Memᴰ}
use Rattle.std.specs.Prelude.{ℕ, zero, suc}

-- The element is in the list.
abbrev pub In : {A : Type 0} → A → List A → Type 0
In x xs = Memᴰ x xs

-- All lists of n of these; the first element varies slowest.
unfoldable pub lists_of : {A : Type 0} → ℕ → List A → List (List A)
lists_of zero xs = [] ∷ []
lists_of (suc n) xs = flat_map (λ x. map (λ l. x ∷ l) (lists_of n xs)) xs
