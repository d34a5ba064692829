-- The lines of a script: the table of their forms, each with its word, how many arguments it takes, and what they may be. What a
-- line asks for is found in the table.
use Rattle.std.specs.Prelude.{Bool, List, [], ◌∷◌, ◌++◌, ℕ, ◌+◌, ◌-◌, leb, length, get_or, replicate, Option, Some, None}
use Prim.Native.Char.{code}
use Prim.Native.String.{String, [] as []ˢ, ◌∷◌ as ◌∷ˢ◌}
use Rattle.lists.specs.Lists.{when◌then◌else◌, all, every, from}
use Rattle.sector.specs.Contents.{Bytes}
use Rattle.script.specs.declared.Action.{Action}
use Rattle.script.specs.declared.Kind.{Kind}
use Rattle.script.specs.declared.Row.{Row}
use Rattle.script.specs.Fields.{arguments, argument, has_word}

-- The bytes of a text in ASCII.
abbrev pub bytes_of : String → Bytes
bytes_of []ˢ = []
bytes_of (c ∷ˢ s) = code c ∷ bytes_of s

-- The list with as many of these behind it as make n elements.
abbrev pub filled : {A : Type 0} → (n : ℕ) → A → List A → List A
filled n x l = l ++ replicate (n - length l) x

-- The row with an argument for each limit, and up to n bytes more: a BUDGET, or the list of a format.
abbrev pub line : Kind → String → (limits : List ℕ) → (n : ℕ) → Row
line k w ms n = record {
  kind = k;
  word = filled 10 0x20 (bytes_of w);
  least = length ms;
  most = length ms + n;
  limits = filled 5 255 ms;
}

-- An address and a sector are at most those of the longest volume; whether they are in this one, and whether client and file of a
-- reading hold are at least 1, is tested where they are used.
unfoldable pub rows : List Row
rows =
    line Kind.Format "format" (262400 ∷ 255 ∷ []) 64
    ∷ line (Kind.Call Action.Begin) "begin" (255 ∷ []) 1
    ∷ line (Kind.Call Action.Open) "open" (255 ∷ 255 ∷ []) 1
    ∷ line (Kind.Call Action.OpenRead) "open_read" (255 ∷ 255 ∷ []) 1
    ∷ line (Kind.Call Action.Write) "write" (255 ∷ 255 ∷ 255 ∷ 255 ∷ 512 ∷ []) 1
    ∷ line (Kind.Call Action.Commit) "commit" (255 ∷ []) 1
    ∷ line (Kind.Call Action.Abort) "abort" (255 ∷ []) 1
    ∷ line (Kind.Call Action.Read) "read" (255 ∷ 255 ∷ 255 ∷ []) 0
    ∷ line (Kind.Call Action.Look) "look" (255 ∷ 255 ∷ []) 0
    ∷ line Kind.Spare "spare" (255 ∷ []) 0
    ∷ line Kind.Session "session" (15 ∷ []) 0
    ∷ line Kind.ShowSession "session" [] 0
    ∷ line Kind.Reading "reading" (4 ∷ 16 ∷ []) 0
    ∷ line Kind.Poke "poke" (262399 ∷ 255 ∷ []) 0
    ∷ line Kind.Dump "dump" (1024 ∷ []) 0
    ∷ line Kind.List "list" [] 0
    ∷ []

-- The most that the argument behind i others may be: a byte, where the row says nothing.
abbrev pub limit : Row → (i : ℕ) → ℕ
limit x i = get_or x.limits i 255

-- The first n arguments are at most what they may be.
abbrev pub arguments_fit : Row → Bytes → (n : ℕ) → Bool
arguments_fit x l n = every (λ i. leb (argument (i + 1) l) (limit x i)) (from 0 n)

-- The line is one of the row's: its word, its number of arguments and each of them.
abbrev pub fits : Row → Bytes → Bool
fits x l = all (has_word x.word l ∷ leb x.least (arguments l) ∷ leb (arguments l) x.most ∷ arguments_fit x l (arguments l) ∷ [])

-- What a line asks for, by the first of these rows that it fits; nothing that is understood, if it fits none.
unfoldable pub kind_in : List Row → Bytes → Option Kind
kind_in [] l = None
kind_in (x ∷ xs) l = when fits x l then Some x.kind else kind_in xs l

-- What a line asks for.
abbrev pub kind_of : Bytes → Option Kind
kind_of l = kind_in rows l
