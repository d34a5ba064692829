-- `map_at` meets its contract: the program's rows are the list of choices.
use mathlib.Core.List.{flat_map}
use Rattle.std.proofs.lemmas.List.{get_or_default}
use Rattle.enumeration.specs.Lists.{lists_of}
use Rattle.enumeration.specs.Choices.{map_choices}
use Rattle.enumeration.proofs.choices.map_at.Goals as goal

pub returns : goal.returns
unfolding flat_map lists_of map_choices
returns c = get_or_default map_choices c.args.m _ _ c.requires
