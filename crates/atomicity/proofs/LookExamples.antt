-- What `Looks` asks, on a small volume: a look that shows another page, a read that finds something else, and a store between two looks
-- each contradict it; steps without a store are those that it names; and each claim has its instance. The checker evaluates both sides.
use mathlib.Core.Path.{◌≡◌, refl, sym, ap}
use mathlib.Core.Bool.{Bool, true, false, ◌&&◌, false≢true}
use mathlib.Core.List.{List, [], ◌∷◌, ◌++◌, map}
use Prim.Native.Nat.{ℕ}
use lib.Dec.{eqb}
use lib.ListN.{length, get_or, replicate}
use Rattle.interface.specs.declared.Session.{Session}
use Rattle.interface.specs.Answers.{done, crashed, refused, QueryAnswer, found, query_refused}
use Rattle.lists.specs.Lists.{when◌then◌else◌, all, first}
use Rattle.byteset.specs.Bits.{with_bit, without_bit}
use Rattle.sector.specs.Contents.{Bytes, open_record}
use Rattle.sector.specs.Entries.{redone}
use Rattle.sector.specs.Sectors.{sector, store_at, padded}
use Rattle.sector.specs.Shapes.{files_of}
use Rattle.sector.specs.Encoding.{file_bytes, encode_table, entry_bytes, encode_record, encode_header}
use Rattle.sector.specs.Decoding.{decode_files, decode_table, decode_entries, decode_record, decode_header}
use Rattle.volume.specs.Places.{sector_after, file_at, IsPage}
use Rattle.volume.specs.Volumes.{Volume, table_of, record_in, header_in, slot_in, view}
use Rattle.volume.specs.Stores.{cut_at, all_stores}
use Rattle.volume.specs.Lawful.{lawful}
use Rattle.volume.specs.Sound.{encoded, canonical, sound}
use Rattle.volume.specs.Format.{length_fits, shape_fits, end_fits, format_tests, repeated, new_files, new_volume, format}
use Rattle.rules.specs.Sessions.{is_reading, is_read_by_other, holds_either, mark_fits, hold_fits, client_holds_fit, session_fits}
use Rattle.rules.specs.Recovery.{held_files, recovery}
use Rattle.rules.specs.Plans.{Call, begin, open_file, open_read, commit, read_page, look_page, begin_plan, open_plan, open_read_plan, plan}
use Rattle.rules.specs.Content.{decided_content}
use Rattle.rules.specs.Refusals.{tests, query_tests}
use Rattle.rules.specs.Calls.{After, call, query, query_part, look, look_part}
use Rattle.rules.proofs.ExampleViews.{entry, rec, header, active1, active12}
use Rattle.atomicity.specs.Model.{new_model, shown, model_call}
use Rattle.atomicity.specs.Runs.{Step, calls, asks, Configuration, started, stepped, ran_over}
use Rattle.atomicity.specs.Readers.{Finds}
use Rattle.atomicity.specs.Looks.{FindsTheSame, WhereDone, AsOpenedBy, LooksAsOpened, LooksDecided, LooksFind, stores_counted, stores_in, WithoutStore, LookShows, StepShows, AllShow, LooksTogether}
use Rattle.atomicity.proofs.StatementExamples.{shape, table, fresh, page, pending7, run}

-- Both clients have begun. Client 2 holds file 1 and has written sevens for its page 0, in slot 2, which is sector 6. Its record is in
-- this state: open, or decided by a commit that hasn't got further.
abbrev half : (state : ℕ) → Volume
half state =
    let records = store_at (store_at fresh 1 (encode_record open_record)) 2 (encode_record (rec state (entry 1 0 2 ∷ []))) in
    store_at (store_at records 3 (encode_header (file_at table 1) (header 2 (0 ∷ 1 ∷ [])))) 6 (page 7)

-- Bytes that begin with 0, and others.
abbrev starts_with0 : Bytes → Bool
starts_with0 d = eqb (get_or d 0 1) 0

-- The answer is this sector.
abbrev answers : ℕ → QueryAnswer → Bool
answers n (found i) = eqb i n
answers n (query_refused i) = false

-- ------------------------------------------------------------------ what a look finds
-- While the record is open, page 0 is where the map says; once it is decided, where the entry says. Page 1 has no entry. No session
-- is asked for.
looked : map (λ state. look (half state) 1 0 ∷ look (half state) 1 1 ∷ []) (1 ∷ 2 ∷ [])
    ≡ (found 4 ∷ found 5 ∷ []) ∷ (found 6 ∷ found 5 ∷ []) ∷ []
unfolding query query_tests first redone session_fits mark_fits client_holds_fit hold_fits is_reading sound lawful canonical encoded all view table_of record_in header_in slot_in decode_table decode_files decode_record decode_entries decode_header sector store_at new_volume new_files repeated sector_after encode_table file_bytes encode_record entry_bytes encode_header padded
looked = refl

looked_part : map (λ state. look_part (half state) 1 0) (1 ∷ 2 ∷ []) ≡ page 0 ∷ page 7 ∷ []
unfolding query query_tests first redone session_fits mark_fits client_holds_fit hold_fits is_reading sound lawful canonical encoded all view table_of record_in header_in slot_in decode_table decode_files decode_record decode_entries decode_header sector store_at new_volume new_files repeated sector_after encode_table file_bytes encode_record entry_bytes encode_header padded
looked_part = refl

-- The model shows a look the page, whatever is pending; a client sees its own.
model_shows : map (shown pending7) (look_page 1 0 ∷ read_page 1 1 0 ∷ read_page 2 1 0 ∷ []) ≡ page 0 ∷ page 7 ∷ page 0 ∷ []
model_shows = refl

-- ------------------------------------------------------------------ as opened
-- Client 1 opens file 1 over the decided commit of client 2, for writing and for reading: both recover client 2, and then client 1
-- reads what the look found, a page that there isn't included.
opens : map (λ c. (call (half 2) active1 c 9).answer) (open_file 1 1 ∷ open_read 1 1 ∷ []) ≡ done 3 ∷ done 2 ∷ []
unfolding call tests plan open_plan open_read_plan is_read_by_other with_bit without_bit recovery held_files redone cut_at all_stores first session_fits mark_fits client_holds_fit hold_fits is_reading sound lawful canonical encoded all view table_of record_in header_in slot_in decode_table decode_files decode_record decode_entries decode_header sector store_at new_volume new_files repeated sector_after encode_table file_bytes encode_record entry_bytes encode_header padded
opens = refl

opened : let x = call (half 2) active1 (open_file 1 1) 9 in FindsTheSame (half 2) x 1 1 0 × FindsTheSame (half 2) x 1 1 2
unfolding call tests query query_tests plan open_plan open_read_plan is_read_by_other with_bit without_bit recovery held_files redone cut_at all_stores first session_fits mark_fits client_holds_fit hold_fits is_reading sound lawful canonical encoded all view table_of record_in header_in slot_in decode_table decode_files decode_record decode_entries decode_header sector store_at new_volume new_files repeated sector_after encode_table file_bytes encode_record entry_bytes encode_header padded
opened = ((refl, refl), (refl, refl))

opened_read : let x = call (half 2) active1 (open_read 1 1) 9 in FindsTheSame (half 2) x 1 1 0 × FindsTheSame (half 2) x 1 1 2
unfolding call tests query query_tests plan open_plan open_read_plan is_read_by_other with_bit without_bit recovery held_files redone cut_at all_stores first session_fits mark_fits client_holds_fit hold_fits is_reading sound lawful canonical encoded all view table_of record_in header_in slot_in decode_table decode_files decode_record decode_entries decode_header sector store_at new_volume new_files repeated sector_after encode_table file_bytes encode_record entry_bytes encode_header padded
opened_read = ((refl, refl), (refl, refl))

-- A call that left this volume to both clients.
abbrev left : Volume → After
left v = record { answer = done 0; session = active12; volume = v }

-- The same sector with other bytes; another sector with the same bytes, as client 2 has an entry for the page.
other_part : FindsTheSame (half 1) (left (store_at (half 1) 5 (page 9))) 2 1 1 → ⊥
unfolding query query_tests first redone session_fits mark_fits client_holds_fit hold_fits is_reading sound lawful canonical encoded all view table_of record_in header_in slot_in decode_table decode_files decode_record decode_entries decode_header sector store_at new_volume new_files repeated sector_after encode_table file_bytes encode_record entry_bytes encode_header padded
other_part h = false≢true (ap starts_with0 h.1)

other_answer : FindsTheSame (half 1) (left (store_at (half 1) 6 (page 0))) 2 1 0 → ⊥
unfolding query query_tests first redone session_fits mark_fits client_holds_fit hold_fits is_reading sound lawful canonical encoded all view table_of record_in header_in slot_in decode_table decode_files decode_record decode_entries decode_header sector store_at new_volume new_files repeated sector_after encode_table file_bytes encode_record entry_bytes encode_header padded
other_answer h = false≢true (ap (answers 4) h.0)

-- It is the look before the call that is compared, and client k's read: client 2 reads its own page where the look found it decided.
look_before : FindsTheSame (half 2) (left (half 1)) 2 1 0
unfolding query query_tests first redone session_fits mark_fits client_holds_fit hold_fits is_reading sound lawful canonical encoded all view table_of record_in header_in slot_in decode_table decode_files decode_record decode_entries decode_header sector store_at new_volume new_files repeated sector_after encode_table file_bytes encode_record entry_bytes encode_header padded
look_before = (refl, refl)

finds_both : (v : Volume) (x : After) (k f p : ℕ) → FindsTheSame v x k f p
    → (query x.volume x.session (read_page k f p) ≡ look v f p) × (query_part x.volume x.session (read_page k f p) ≡ look_part v f p)
finds_both v x k f p h = h

-- Of an open that is done all this is asked, of one that is refused or cut nothing.
where_done : (P : Type 0) (n : ℕ) → (WhereDone (done n) P → P) × WhereDone (crashed n) P × WhereDone (refused n) P
where_done P n = (λ h. h, tt, tt)

as_opened_by : (c : Call) (v : Volume) (s : Session) (k f p budget : ℕ) → AsOpenedBy c v s k f p budget
    → WhereDone (call v s c budget).answer (FindsTheSame v (call v s c budget) k f p)
as_opened_by c v s k f p budget h = h

-- Cut in the midst of the recovery, the same open leaves a client that reads nothing.
cut_open : AsOpenedBy (open_file 1 1) (half 2) active1 1 1 0 2 × (FindsTheSame (half 2) (call (half 2) active1 (open_file 1 1) 2) 1 1 0 → ⊥)
unfolding call tests query query_tests plan open_plan open_read_plan is_read_by_other with_bit without_bit recovery held_files redone cut_at all_stores first session_fits mark_fits client_holds_fit hold_fits is_reading sound lawful canonical encoded all view table_of record_in header_in slot_in decode_table decode_files decode_record decode_entries decode_header sector store_at new_volume new_files repeated sector_after encode_table file_bytes encode_record entry_bytes encode_header padded
cut_open = (tt, λ h. false≢true (ap (answers 6) h.0))

-- ------------------------------------------------------------------ stores
stores_counted_lem : map stores_counted (done 7 ∷ crashed 8 ∷ refused 9 ∷ []) ≡ 7 ∷ 8 ∷ 0 ∷ []
stores_counted_lem = refl

-- While client 2's record is open.
abbrev busy : Configuration
busy = run (half 1) active12 new_model

-- Its commit: done, after a crash, cut after one store and before the first; its begin, refused and after a crash; a file that it holds
-- already; questions.
stores_in_lem : map (stores_in busy)
    (calls false (commit 2) 9 ∷ calls true (commit 2) 9 ∷ calls false (commit 2) 1 ∷ calls false (commit 2) 0 ∷ calls false (begin 2) 9
    ∷ calls true (begin 2) 9 ∷ calls false (open_file 2 1) 9 ∷ asks false (look_page 1 0) ∷ asks true (read_page 2 1 0) ∷ [])
    ≡ 3 ∷ 0 ∷ 1 ∷ 0 ∷ 0 ∷ 3 ∷ 0 ∷ 0 ∷ 0 ∷ []
unfolding call tests plan begin_plan open_plan open_read_plan is_read_by_other with_bit without_bit recovery held_files redone cut_at all_stores first session_fits mark_fits client_holds_fit hold_fits is_reading sound lawful canonical encoded all view table_of record_in header_in slot_in decode_table decode_files decode_record decode_entries decode_header sector store_at new_volume new_files repeated sector_after encode_table file_bytes encode_record entry_bytes encode_header padded
stores_in_lem = refl

-- "Looks with no store between them": a look, a read, a refused call, a call done with 0 stores, one cut with 0, and a look.
no_store : WithoutStore busy (asks false (look_page 1 0) ∷ asks false (read_page 2 1 0) ∷ calls false (begin 2) 9 ∷ calls false (open_file 2 1) 9
    ∷ calls false (commit 2) 0 ∷ asks false (look_page 1 0) ∷ [])
unfolding stepped model_call call tests plan begin_plan open_plan open_read_plan is_read_by_other with_bit without_bit recovery held_files redone cut_at all_stores first session_fits mark_fits client_holds_fit hold_fits is_reading sound lawful canonical encoded all view table_of record_in header_in slot_in decode_table decode_files decode_record decode_entries decode_header sector store_at new_volume new_files repeated sector_after encode_table file_bytes encode_record entry_bytes encode_header padded
no_store = (refl, (refl, (refl, (refl, (refl, (refl, tt))))))

-- Nothing else is asked of a step, and the later ones are judged by what the earlier left.
without_is : (r : Configuration) (x : Step) (xs : List Step) → stores_in r x ≡ 0 → WithoutStore (stepped r x) xs → WithoutStore r (x ∷ xs)
without_is r x xs e h = (e, h)

-- Not a call that makes a store, done or cut, be it the first step or a later one; and after a cut the session is a new one, so that
-- client 2's begin isn't refused any more.
a_store : WithoutStore (started fresh) (calls false (begin 1) 1 ∷ []) → ⊥
unfolding call tests plan begin_plan open_plan open_read_plan is_read_by_other with_bit without_bit recovery held_files redone cut_at all_stores first session_fits mark_fits client_holds_fit hold_fits is_reading sound lawful canonical encoded all view table_of record_in header_in slot_in decode_table decode_files decode_record decode_entries decode_header sector store_at new_volume new_files repeated sector_after encode_table file_bytes encode_record entry_bytes encode_header padded
a_store h = false≢true (ap (eqb 1) (sym h.0))

a_store_cut : WithoutStore busy (asks false (look_page 1 0) ∷ calls false (commit 2) 1 ∷ []) → ⊥
unfolding stepped model_call call tests plan begin_plan open_plan open_read_plan is_read_by_other with_bit without_bit recovery held_files redone cut_at all_stores first session_fits mark_fits client_holds_fit hold_fits is_reading sound lawful canonical encoded all view table_of record_in header_in slot_in decode_table decode_files decode_record decode_entries decode_header sector store_at new_volume new_files repeated sector_after encode_table file_bytes encode_record entry_bytes encode_header padded
a_store_cut h = false≢true (ap (eqb 1) (sym h.1.0))

a_store_later : WithoutStore busy (calls false (commit 2) 0 ∷ calls false (begin 2) 9 ∷ []) → ⊥
unfolding stepped model_call call tests plan begin_plan open_plan open_read_plan is_read_by_other with_bit without_bit recovery held_files redone cut_at all_stores first session_fits mark_fits client_holds_fit hold_fits is_reading sound lawful canonical encoded all view table_of record_in header_in slot_in decode_table decode_files decode_record decode_entries decode_header sector store_at new_volume new_files repeated sector_after encode_table file_bytes encode_record entry_bytes encode_header padded
a_store_later h = false≢true (ap (eqb 3) (sym h.1.0))

-- ------------------------------------------------------------------ what looks show
-- Another sector, another part; both as they are to be; a refused look shows nothing.
look_shows : (LookShows (page 2) (page 1 ++ page 2) (page 2) (found 0) → ⊥) × (LookShows (page 2) (page 1 ++ page 2) (page 1) (found 1) → ⊥)
    × LookShows (page 2) (page 1 ++ page 2) (page 2) (found 1) × LookShows (page 2) (page 1 ++ page 2) [] (query_refused 9)
unfolding sector
look_shows = (λ h. false≢true (ap (λ (d : Bytes). eqb (get_or d 0 1) 2) h.0), λ h. false≢true (ap (λ (d : Bytes). eqb (get_or d 0 1) 2) h.1), (refl, refl), tt)

-- Sevens for page 0 of file 1, and zeros.
abbrev sevens : ℕ → ℕ → Bytes
sevens f p = page (when eqb f 1 && eqb p 0 then 7 else 0)

-- Over the decided commit looks show that, after a crash too, and not zeros.
shows_sevens : (crash : Bool) → let r = run (half 2) active12 new_model in
    StepShows sevens r (asks crash (look_page 1 0)) × StepShows sevens r (asks crash (look_page 1 1)) × (StepShows new_model.pages r (asks crash (look_page 1 0)) → ⊥)
unfolding query query_tests first redone session_fits mark_fits client_holds_fit hold_fits is_reading sound lawful canonical encoded all view table_of record_in header_in slot_in decode_table decode_files decode_record decode_entries decode_header sector store_at new_volume new_files repeated sector_after encode_table file_bytes encode_record entry_bytes encode_header padded
shows_sevens crash = ((refl, refl), (refl, refl), λ h. false≢true (ap starts_with0 h.0))

step_shows : (content : ℕ → ℕ → Bytes) (r : Configuration) (crash : Bool) (f p : ℕ) → StepShows content r (asks crash (look_page f p))
    → LookShows (content f p) r.volume (look_part r.volume f p) (look r.volume f p)
step_shows content r crash f p h = h

-- Of calls and reads nothing is asked.
none_asked : (content : ℕ → ℕ → Bytes) (r : Configuration) (crash : Bool) (c : Call) (budget k f p : ℕ)
    → StepShows content r (calls crash c budget) × StepShows content r (asks crash (read_page k f p))
none_asked content r crash c budget k f p = (tt, tt)

-- Every step is asked about, the later ones from what the earlier left: over client 2's commit the looks show two contents.
asked_of_all : (content : ℕ → ℕ → Bytes) (r : Configuration) (x y : Step) → AllShow content r (x ∷ y ∷ [])
    → StepShows content r x × StepShows content (stepped r x) y
asked_of_all content r x y h = (h.0, h.1.0)

over_a_commit : AllShow new_model.pages busy (asks false (look_page 1 0) ∷ calls false (commit 2) 9 ∷ asks false (look_page 1 0) ∷ []) → ⊥
unfolding stepped model_call call tests query query_tests plan open_plan open_read_plan is_read_by_other with_bit without_bit recovery held_files redone cut_at all_stores first session_fits mark_fits client_holds_fit hold_fits is_reading sound lawful canonical encoded all view table_of record_in header_in slot_in decode_table decode_files decode_record decode_entries decode_header sector store_at new_volume new_files repeated sector_after encode_table file_bytes encode_record entry_bytes encode_header padded
over_a_commit h = false≢true (ap starts_with0 h.1.1.0.0)

-- ------------------------------------------------------------------ the claims hold of this volume
as_opened_here : LooksAsOpened → (s : Session) (k f p budget : ℕ) → length s.active ≡ 4 → length s.reading ≡ 4
    → holds_either (view (half 2)) s k f ≡ false
    → AsOpenedBy (open_file k f) (half 2) s k f p budget × AsOpenedBy (open_read k f) (half 2) s k f p budget
as_opened_here h = h (half 2)

decided_here : LooksDecided → (f p : ℕ) → sound (half 2) ≡ true → IsPage (view (half 2)).table f p
    → Finds (half 2) (decided_content (view (half 2)) f p) (look (half 2) f p) × (look_part (half 2) f p ≡ decided_content (view (half 2)) f p)
decided_here h = h (half 2)

find_here : LooksFind → (steps : List Step) (f p : ℕ) → let r = ran_over (started fresh) steps in
    IsPage table f p → Finds r.volume (r.model.pages f p) (look r.volume f p) × (look_part r.volume f p ≡ r.model.pages f p)
unfolding format format_tests length_fits shape_fits end_fits first all files_of sector_after
find_here h = h (replicate 2304 0xEE) 2 shape refl

together_here : LooksTogether → (before steps : List Step) → let r = ran_over (started fresh) before in
    WithoutStore r steps → AllShow r.model.pages r steps
unfolding format format_tests length_fits shape_fits end_fits first all files_of sector_after
together_here h = h (replicate 2304 0xEE) 2 shape refl
