-- `entry_at` meets its contract: the program's rows are the list of choices.
use mathlib.Core.Path.{sym}
use mathlib.Core.List.{List, [], ◌∷◌, map, flat_map}
use Prim.Native.Nat.{ℕ}
use borrow.Author.Rules.{rules}
use lib.ListN.{get_or}
use Rattle.volume.specs.WellFormed.{no_entry}
use Rattle.enumeration.proofs.PairLaws.{map_at}
use Rattle.enumeration.specs.Choices.{entry_choices}
use Rattle.enumeration.proofs.choices.entry_at.Goals as goal

rows : List (List ℕ)
rows = map (λ e. e.page ∷ e.slot ∷ []) entry_choices

pub returns : goal.returns
unfolding flat_map entry_choices rows
returns c = sym (map_at (λ (p : List ℕ). record { file = 1; page = get_or p 0 0; slot = get_or p 1 0 }) rows c.args.e [] no_entry (search rules))
