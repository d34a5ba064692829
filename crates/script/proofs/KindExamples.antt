-- Examples of lines: each row with the fewest and the most arguments, each limit and one beyond it, and words that are no row's.
-- The checker evaluates both sides.
use mathlib.Core.Path.{◌≡◌, refl}
use mathlib.Core.List.{List, [], ◌∷◌, map}
use Prim.Native.String.{String}
use lib.ListN.{replicate}
use Rattle.lists.specs.Lists.{all}
use Rattle.std.specs.Prelude.{Option, Some, None}
use Rattle.script.specs.declared.Action.{Action}
use Rattle.script.specs.declared.Kind.{Kind}
use Rattle.script.specs.Fields.{from_field}
use Rattle.script.specs.Kinds.{bytes_of, rows, kind_in, kind_of}

abbrev kinds : List String → List (Option Kind)
kinds ls = map (λ l. kind_of (bytes_of l)) ls

-- The kinds of lines that are understood.
abbrev understood : List Kind → List (Option Kind)
understood ks = map (λ k. Some k) ks

-- A BUDGET may be left out.
calls : kinds ("begin 255" ∷ "begin 1 255" ∷ "open 1 2 3" ∷ "open_read 1 2" ∷ "open_read 1 2 3" ∷ "commit 1" ∷ "abort 1 0" ∷ "read 1 2 3" ∷ "look 0 255" ∷ "look 255 0" ∷ "spare 0" ∷ "spare 255" ∷ "write 1 2 3 4 512 6" ∷ [])
    ≡ understood (Kind.Call Action.Begin ∷ Kind.Call Action.Begin ∷ Kind.Call Action.Open ∷ Kind.Call Action.OpenRead ∷ Kind.Call Action.OpenRead ∷ Kind.Call Action.Commit ∷ Kind.Call Action.Abort ∷ Kind.Call Action.Read ∷ Kind.Call Action.Look ∷ Kind.Call Action.Look ∷ Kind.Spare ∷ Kind.Spare ∷ Kind.Call Action.Write ∷ [])
unfolding rows kind_in from_field all
calls = refl

-- A client 0 or a file 0 is found out later.
others : kinds ("format 262400 255 1 2" ∷ "session 15" ∷ "session" ∷ "reading 4 16" ∷ "reading 0 0" ∷ "poke 262399 255" ∷ "dump 1024" ∷ "list" ∷ [])
    ≡ understood (Kind.Format ∷ Kind.Session ∷ Kind.ShowSession ∷ Kind.Reading ∷ Kind.Reading ∷ Kind.Poke ∷ Kind.Dump ∷ Kind.List ∷ [])
unfolding rows kind_in from_field all
others = refl

-- Too few, too many, too large.
not_understood : kinds ("begin" ∷ "begin 1 2 3" ∷ "begin 256" ∷ "open 1" ∷ "read 1 2 3 4" ∷ "look" ∷ "look 1" ∷ "look 1 2 3" ∷ "look 256 1" ∷ "look 1 256" ∷ "spare" ∷ "spare 1 2" ∷ "spare 256" ∷ "spares 1" ∷ "write 1 2 3 4 513" ∷ "format 262401 1"
    ∷ "session 16" ∷ "session 1 2" ∷ "reading 5 1" ∷ "reading 1 17" ∷ "reading 1" ∷ "reading 1 1 1" ∷ "open_read 1" ∷ "open_read 1 2 3 4" ∷ "open_read 256 2" ∷ "open_read 1 256" ∷ "open_read 1 2 256"
    ∷ "poke 262400 0" ∷ "poke 0 256" ∷ "dump 1025" ∷ "list 1" ∷ "beginning 1" ∷ "beg 1" ∷ [])
    ≡ replicate 33 None
unfolding rows kind_in from_field all
not_understood = refl
