-- Examples of `Content`, and of the two definitions of `Recovery` that it rests on: which map a file has once its client's
-- decided entries count, and which bytes a page has by it. The checker evaluates both sides.
use mathlib.Core.Path.{◌≡◌, refl}
use mathlib.Core.Bool.{true, false}
use mathlib.Core.List.{[], ◌∷◌, ◌++◌, map}
use Rattle.sector.specs.Entries.{redone}
use Rattle.volume.specs.Views.{no_header}
use Rattle.rules.specs.Recovery.{is_decided, map_after}
use Rattle.rules.specs.Content.{decided_map, decided_content}
use Rattle.rules.proofs.ExampleViews.{entry, rec, header, seen, records, at}

-- ------------------------------------------------------------------ Recovery
-- "State: .. 2 decided."
decided_or_not : map (λ s. is_decided (at s) 1) (0 ∷ 1 ∷ 2 ∷ []) ++ map (is_decided (at 1)) (2 ∷ 3 ∷ [])
    ≡ false ∷ false ∷ true ∷ true ∷ false ∷ []
decided_or_not = refl

-- Redone by the entries of that client for that file, or as it is.
maps_after : map_after true (at 1) 1 1 ∷ map_after true (at 1) 2 1 ∷ map_after true (at 1) 1 2 ∷ map_after false (at 2) 1 1 ∷ []
    ≡ (1 ∷ 4 ∷ 2 ∷ []) ∷ (0 ∷ 3 ∷ 2 ∷ []) ∷ (2 ∷ []) ∷ (1 ∷ 5 ∷ 2 ∷ []) ∷ []
unfolding redone
maps_after = refl

-- ------------------------------------------------------------------ Content
-- "its pages by the map, changed by its entries in record k if the header names k and k is decided": client 1 open;
-- decided. Client 2's entries are decided all the while, and count where the header names client 2, as client 1's for file 2.
decided_maps : decided_map (at 1) 1 ∷ decided_map (at 2) 1
    ∷ decided_map (seen (records 1) (header 2 (1 ∷ 5 ∷ 2 ∷ [])) no_header) 1
    ∷ decided_map (seen (records 2) (header 2 (1 ∷ 5 ∷ 2 ∷ [])) (header 1 (0 ∷ []))) 2 ∷ []
    ≡ (1 ∷ 5 ∷ 2 ∷ []) ∷ (1 ∷ 4 ∷ 2 ∷ []) ∷ (0 ∷ 3 ∷ 2 ∷ []) ∷ (2 ∷ []) ∷ []
unfolding redone
decided_maps = refl

-- Holder 0 is nobody, whatever stands for its record.
nobody_decides : decided_map (seen (λ k. rec 2 (entry 1 0 5 ∷ [])) (header 0 (0 ∷ 1 ∷ 2 ∷ [])) no_header) 1 ≡ 0 ∷ 1 ∷ 2 ∷ []
nobody_decides = refl

-- A page's decided content is its slot's bytes by that map; a page past the map has slot 0's. The last row is file 2's page.
contents : map (decided_content (at 1) 1) (0 ∷ 1 ∷ 2 ∷ 3 ∷ [])
    ++ (decided_content (at 2) 1 0 ∷ decided_content (at 2) 1 1 ∷ decided_content (at 2) 1 2 ∷ decided_content (at 2) 2 0 ∷ [])
    ≡ (1 ∷ 1 ∷ []) ∷ (1 ∷ 5 ∷ []) ∷ (1 ∷ 2 ∷ []) ∷ (1 ∷ 0 ∷ [])
    ∷ (1 ∷ 1 ∷ []) ∷ (1 ∷ 4 ∷ []) ∷ (1 ∷ 2 ∷ []) ∷ (2 ∷ 2 ∷ []) ∷ []
unfolding redone
contents = refl
