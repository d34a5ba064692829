-- The calls and their stores, in order, each store by its meaning.
use Rattle.std.specs.Prelude.{Bool, true, false, not, ◌&&◌, List, [], ◌∷◌, ◌++◌, ℕ, ◌+◌, eqb, leb, ltb, get_or}
use Rattle.std.proofs.Math.Option.{Option, none, some}
use Rattle.interface.specs.declared.Session.{Session}
use Rattle.lists.specs.Lists.{when◌then◌else◌, any, filter, find, member, from}
use Rattle.sector.specs.Contents.{Bytes, Entry, open_record, decided_record, appended}
use Rattle.sector.specs.Entries.{for_page, gives_slot}
use Rattle.volume.specs.Places.{file_at}
use Rattle.volume.specs.Views.{View, Update, set_record, set_header, set_slot}
use Rattle.rules.specs.Sessions.{set_active, with_reading, without_reading, without_reader, is_orphaned, holds, holds_either}
use Rattle.rules.specs.Recovery.{is_decided, map_after, recovery}

-- The calls that may store, with their arguments. To open a file is to open it for writing; M-102 adds opening it for reading.
pub data Call : Type 0 where
  begin : (client : ℕ) → Call
  open_file : (client : ℕ) → (file : ℕ) → Call
  open_read : (client : ℕ) → (file : ℕ) → Call
  write : (client : ℕ) → (file : ℕ) → (page : ℕ) → Bytes → Call
  commit : (client : ℕ) → Call
  abort : (client : ℕ) → Call

-- The questions, which store nothing and hand back no session: a client's read, and M-103's look, which "takes only the volume, a
-- file and a page".
pub data Query : Type 0 where
  read_page : (client : ℕ) → (file : ℕ) → (page : ℕ) → Query
  look_page : (file : ℕ) → (page : ℕ) → Query

-- ------------------------------------------------------------------ pages and slots
-- The entry that record k has for (f, p).
abbrev pub entry_for : View → ℕ → ℕ → ℕ → Option Entry
entry_for a k f p = find (for_page f p) (a.records k).entries

-- The slot that the map of f gives for page p.
abbrev pub mapped_slot : View → ℕ → ℕ → ℕ
mapped_slot a f p = get_or (a.headers f).map p 0

-- Slot r is "neither in its map nor given for f in record k".
abbrev pub is_free : View → ℕ → ℕ → ℕ → Bool
is_free a k f r = not (member r (a.headers f).map) && not (any (gives_slot f r) (a.records k).entries)

-- The slots of f that are free for client k, rising.
unfoldable pub free_slots : View → ℕ → ℕ → List ℕ
free_slots a k f = filter (is_free a k f) (from 0 (file_at a.table f).slots)

-- "above the one the map gives for the page": where the search for a slot of a new page starts.
abbrev pub start_for : View → ℕ → ℕ → ℕ
start_for a f p = mapped_slot a f p + 1

-- These slots in the order in which they are tried: from `start` on, "and from 0 again after R − 1".
abbrev pub tried_from : (start : ℕ) → List ℕ → List ℕ
tried_from start l = filter (leb start) l ++ filter (λ r. ltb r start) l

-- "the first suitable real": the slot that a new entry for page p takes.
unfoldable pub chosen : View → ℕ → ℕ → ℕ → ℕ
chosen a k f p = get_or (tried_from (start_for a f p) (free_slots a k f)) 0 0

-- Where a read finds the page: the slot "that (f, p) has in record k, else by the map".
abbrev pub slot_for : View → ℕ → ℕ → Option Entry → ℕ
slot_for a f p (some e) = e.slot
slot_for a f p none = mapped_slot a f p

-- ------------------------------------------------------------------ the stores of each call
-- "recover k if interrupted; store record k open, C = 0"
unfoldable pub begin_plan : View → Session → ℕ → List Update
begin_plan a s k = (when is_orphaned a s k then recovery (is_decided a k) a k else []) ++ (set_record k open_record ∷ [])

-- "an interrupted kiln holds f". Holder 0 is nobody.
abbrev pub held_by_orphan : View → Session → ℕ → Bool
held_by_orphan a s f =
    let holder = (a.headers f).holder in
    not (eqb holder 0) && is_orphaned a s holder

-- "if k holds f, nothing. Else if an interrupted kiln holds f, recover that kiln; then store f's header with holder k." The
-- map stored is the one after that recovery.
unfoldable pub open_plan : View → Session → ℕ → ℕ → List Update
open_plan a s k f =
    let holder = (a.headers f).holder in
    let redo = is_decided a holder in
    when holds a k f then []
    else when held_by_orphan a s f
    then recovery redo a holder ++ (set_header f (record { holder = k; map = map_after redo a holder f }) ∷ [])
    else set_header f (record { holder = k; map = (a.headers f).map }) ∷ []

-- M-102: "Opening for reading a file that the kiln already holds does nothing." Else no store, "apart from recovering an interrupted
-- holder first".
unfoldable pub open_read_plan : View → Session → ℕ → ℕ → List Update
open_read_plan a s k f =
    let holder = (a.headers f).holder in
    when holds_either a s k f then []
    else when held_by_orphan a s f then recovery (is_decided a holder) a holder
    else []

-- "if record k has (f, p), store the page in that real sector. Else take" the slot chosen for it; "store the page there; store
-- record k with the entry appended."
abbrev pub write_plan : View → ℕ → ℕ → ℕ → Bytes → Option Entry → List Update
write_plan a k f p d (some e) = set_slot f e.slot d ∷ []
write_plan a k f p d none =
    let r = chosen a k f p in
    set_slot f r d ∷ set_record k (appended (a.records k) (record { file = f; page = p; slot = r })) ∷ []

-- Commit: "store record k decided; then the stores of recover k". Abort: "the stores of recover k while open".
unfoldable pub plan : View → Session → Call → List Update
plan a s (begin k) = begin_plan a s k
plan a s (open_file k f) = open_plan a s k f
plan a s (open_read k f) = open_read_plan a s k f
plan a s (write k f p d) = write_plan a k f p d (entry_for a k f p)
plan a s (commit k) = set_record k (decided_record (a.records k)) ∷ recovery true a k
plan a s (abort k) = recovery false a k

-- The session that a call hands back when it is done: begin marks k, commit and abort unmark k. M-102: "Commit and abort end" k's
-- reading holds. When k opens a file for writing, "its reading hold ends then". Opening for reading notes the hold, unless k "already
-- holds" the file.
abbrev pub session_after : View → Session → Call → Session
session_after a s (begin k) = set_active s k true
session_after a s (open_file k f) = without_reading s k f
session_after a s (open_read k f) = when holds_either a s k f then s else with_reading s k f
session_after a s (write k f p d) = s
session_after a s (commit k) = without_reader (set_active s k false) k
session_after a s (abort k) = without_reader (set_active s k false) k
