-- The model: "the plain book". It is fed each call's arguments and its answer, and looks at no sector.
use Rattle.std.specs.Prelude.{Bool, true, false, ◌&&◌, ℕ, eqb, leb, replicate}
use Rattle.std.proofs.Math.Option.{Option, none, some, get_or}
use Rattle.interface.specs.declared.Session.{Session}
use Rattle.interface.specs.Answers.{Answer, done, crashed, refused}
use Rattle.lists.specs.Lists.{when◌then◌else◌}
use Rattle.sector.specs.Contents.{Bytes}
use Rattle.rules.specs.Sessions.{none_active}
use Rattle.rules.specs.Plans.{Call, begin, open_file, open_read, write, commit, abort, Query, read_page, look_page}

-- A client's pending pages, the paper's "slip": "pages with their bytes, each (file, page) at most once".
abbrev pub Pending : Type 0
Pending = ℕ → ℕ → Option Bytes

-- An empty slip.
abbrev pub no_pending : Pending
no_pending f p = none

-- "It has the bytes of every page of every file, and for each kiln a slip".
pub record Model : Type 0 where
  pub pages : ℕ → ℕ → Bytes
  pub pending : ℕ → Pending

-- "After layout all pages are zero and all slips empty."
abbrev pub new_model : Model
new_model = record { pages = λ f p. replicate 256 0; pending = λ k. no_pending }

-- The pages with those that are pending in their place.
abbrev pub overlaid : Pending → (ℕ → ℕ → Bytes) → ℕ → ℕ → Bytes
overlaid l pages f p = get_or (l f p) (pages f p)

-- A read "shows kiln k the page on k's slip, else the book's page". M-103: a look shows the book's page.
abbrev pub shown : Model → Query → Bytes
shown m (read_page k f p) = overlaid (m.pending k) m.pages f p
shown m (look_page f p) = m.pages f p

-- "empties every slip"
abbrev pub emptied : Model → Model
emptied m = record { pages = m.pages; pending = λ j. no_pending }

-- Client k's pending pages become these.
abbrev pub with_pending : Model → ℕ → Pending → Model
with_pending m k l = record { pages = m.pages; pending = λ j. when eqb j k then l else m.pending j }

-- "the page goes on k's slip, in place of an earlier one for the same (file, page)"
abbrev pub with_page : ℕ → ℕ → Bytes → Pending → Pending
with_page f p d l = λ g q. when eqb g f && eqb q p then some d else l g q

-- "the pages on k's slip replace the book's. Then k's slip is emptied."
abbrev pub committed : Model → ℕ → Model
committed m k = with_pending (record { pages = overlaid (m.pending k) m.pages; pending = m.pending }) k no_pending

-- The call answered done.
abbrev pub is_done : Answer → Bool
is_done (done n) = true
is_done (crashed n) = false
is_done (refused n) = false

-- "Commit done, or cut with a count of at least 1: its deciding store, the first, was made".
abbrev pub is_deciding : Answer → Bool
is_deciding (done n) = true
is_deciding (crashed n) = leb 1 n
is_deciding (refused n) = false

-- "Write done", "Commit done, or cut ..", "Abort done"; "Anything else changes nothing."
abbrev pub effect : Model → Call → Answer → Model
effect m (begin k) x = m
effect m (open_file k f) x = m
effect m (open_read k f) x = m
effect m (write k f p d) x = when is_done x then with_pending m k (with_page f p d (m.pending k)) else m
effect m (commit k) x = when is_deciding x then committed m k else m
effect m (abort k) x = when is_done x then with_pending m k no_pending else m

-- "Any call cut: after the above, every slip is emptied."
abbrev pub settled : Answer → Model → Model
settled (done n) m = m
settled (crashed n) m = emptied m
settled (refused n) m = m

-- "Any other call, refused or not, whose given session has no mark first empties every slip." A reading hold is no mark.
unfoldable pub model_call : Model → Session → Call → Answer → Model
model_call m s c x = settled x (effect (when none_active s then emptied m else m) c x)
