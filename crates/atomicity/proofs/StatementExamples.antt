-- What the claims ask: a wrong content, a wrong read, a wrong transcript each contradict them, and each claim has its instance on a
-- small volume. So no claim is empty, and none is about something else.
use mathlib.Core.Path.{◌≡◌, refl, ap}
use mathlib.Core.Bool.{Bool, true, false, false≢true}
use mathlib.Core.List.{List, [], ◌∷◌, ◌++◌, map}
use mathlib.Core.Option.{some}
use Prim.Native.Nat.{ℕ}
use native.Mathlib.Omega.{arith}
use lib.Dec.{eqb}
use lib.ListN.{get_or, replicate, set}
use Rattle.interface.specs.declared.Session.{Session}
use Rattle.interface.specs.Answers.{new_session, Answer, done, crashed, refused, QueryAnswer, found, query_refused}
use Rattle.lists.specs.Lists.{all, first}
use Rattle.byteset.specs.Bits.{without_bit}
use Rattle.sector.specs.Contents.{Bytes, Table, open_record}
use Rattle.sector.specs.Entries.{redone}
use Rattle.sector.specs.Sectors.{sector, store_at, padded}
use Rattle.sector.specs.Encoding.{file_bytes, encode_table, entry_bytes, encode_record, encode_header}
use Rattle.sector.specs.Decoding.{decode_files, decode_table, decode_entries, decode_record, decode_header}
use Rattle.volume.specs.Places.{sector_after}
use Rattle.volume.specs.Volumes.{Volume, table_of, record_in, header_in, slot_in, view}
use Rattle.volume.specs.Stores.{cut_at, all_stores}
use Rattle.volume.specs.Lawful.{lawful}
use Rattle.volume.specs.Sound.{encoded, canonical, sound}
use Rattle.sector.specs.Shapes.{files_of}
use Rattle.volume.specs.Format.{length_fits, shape_fits, end_fits, format_tests, repeated, new_files, new_volume, format}
use Rattle.rules.specs.Sessions.{is_reading, is_read_by_other, mark_fits, client_holds_fit, session_fits}
use Rattle.rules.specs.Recovery.{held_files, recovery}
use Rattle.rules.specs.Plans.{Call, begin, open_file, write, commit, abort, Query, read_page, free_slots, chosen, begin_plan, open_plan, plan}
use Rattle.rules.specs.Content.{decided_content}
use Rattle.rules.specs.Refusals.{tests, query_tests}
use Rattle.rules.specs.Calls.{call, query}
use Rattle.rules.proofs.ExampleViews.{active1, active2}
use Rattle.atomicity.specs.Model.{Model, no_pending, new_model, shown, with_pending, with_page, model_call}
use Rattle.atomicity.specs.Runs.{Step, calls, asks, Configuration, started, stepped, ran_over}
use Rattle.atomicity.specs.AllOrNone.{PagesAgree, ContentAgrees, QueryAgrees, StepAgrees, Agrees, AllOrNone}
use Rattle.atomicity.specs.NonVacuity.{StaysSound, refusal_of, query_refusal_of, step_refusal, Accepted, AlwaysAccepted, called_all, answers_to, writing, WritesTakeEffect}
use Rattle.atomicity.specs.Transcripts.{StepAnswer, of_call, of_query, Event, event_of, events_of, fed, ShowsPage, EventAgrees, SaidAgrees, TranscriptsAgree}

-- ------------------------------------------------------------------ a small volume, and what may be wrong with it
-- Two clients; file 1 of two pages in three slots, sectors 4 to 6, and file 2 of one page in one slot, sector 8.
abbrev pub shape : Bytes
shape = 2 ∷ 3 ∷ 1 ∷ 1 ∷ []

abbrev pub table : Table
table = record { sectors = 9; clients = 2; files = record { pages = 2; slots = 3 } ∷ record { pages = 1; slots = 1 } ∷ [] }

abbrev pub fresh : Volume
fresh = new_volume table

abbrev pub page : ℕ → Bytes
page x = replicate 256 x

-- With a page of sevens in this sector.
abbrev spoilt : ℕ → Volume
spoilt n = store_at fresh n (page 7)

-- Client 1 has begun and holds file 1.
abbrev begun : Volume
begun =
    let held = encode_header (record { pages = 2; slots = 3 }) (record { holder = 1; map = 0 ∷ 1 ∷ [] }) in
    store_at (store_at fresh 1 (encode_record open_record)) 3 held

-- The pages are zero; client 1 has sevens for page 0 of file 1.
abbrev pub pending7 : Model
pending7 = with_pending new_model 1 (with_page 1 0 (page 7) no_pending)

abbrev pub run : Volume → Session → Model → Configuration
run v s m = record { volume = v; session = s; model = m }

-- Bytes that begin with 0 and bytes that don't, or have none, are not the same.
abbrev starts_with0 : Bytes → Bool
starts_with0 d = eqb (get_or d 0 1) 0

-- ------------------------------------------------------------------ AllOrNone: PagesAgree, ContentAgrees
-- Another content of the first file's first page, of its last page, or of the last file.
content_of_page : PagesAgree table new_model (spoilt 4) → ⊥
unfolding view table_of record_in header_in slot_in decode_table decode_files decode_record decode_entries decode_header sector store_at new_volume new_files repeated sector_after encode_table file_bytes encode_record entry_bytes encode_header padded
content_of_page h = false≢true (ap starts_with0 (h 1 0 (omega arith) (omega arith) (omega arith)))

content_of_last_page : PagesAgree table new_model (spoilt 5) → ⊥
unfolding view table_of record_in header_in slot_in decode_table decode_files decode_record decode_entries decode_header sector store_at new_volume new_files repeated sector_after encode_table file_bytes encode_record entry_bytes encode_header padded
content_of_last_page h = false≢true (ap starts_with0 (h 1 1 (omega arith) (omega arith) (omega arith)))

content_of_last_file : ContentAgrees table (run (spoilt 8) new_session new_model) → ⊥
unfolding view table_of record_in header_in slot_in decode_table decode_files decode_record decode_entries decode_header sector store_at new_volume new_files repeated sector_after encode_table file_bytes encode_record entry_bytes encode_header padded
content_of_last_file h = false≢true (ap starts_with0 (h 2 0 (omega arith) (omega arith) (omega arith)))

-- ------------------------------------------------------------------ AllOrNone: QueryAgrees, StepAgrees, Agrees
-- "the part handed back and the bytes of the sector answered are both compared": a sector with other bytes; an empty part, as the
-- read of a new session is refused.
wrong_sector : (s : Session) → QueryAgrees (spoilt 4) s new_model (read_page 1 1 0) (found 4) → ⊥
unfolding sector store_at new_volume new_files repeated sector_after encode_table file_bytes encode_record entry_bytes encode_header padded
wrong_sector s h = false≢true (ap starts_with0 h.0)

wrong_part : QueryAgrees begun new_session new_model (read_page 1 1 0) (found 4) → ⊥
unfolding query query_tests first session_fits mark_fits client_holds_fit is_reading sound lawful canonical encoded all view table_of record_in header_in decode_table decode_files decode_record decode_entries decode_header sector store_at new_volume new_files repeated sector_after encode_table file_bytes encode_record entry_bytes encode_header padded
wrong_part h = false≢true (ap starts_with0 h.1)

-- A read that is refused shows nothing.
refused_query : (v : Volume) (s : Session) (m : Model) (q : Query) (n : ℕ) → QueryAgrees v s m q (query_refused n)
refused_query v s m q n = tt

-- Client 1 reads zeros where it has sevens pending: that doesn't agree. After a crash the same read is refused.
wrong_step : StepAgrees (run begun active1 pending7) (asks false (read_page 1 1 0)) → ⊥
unfolding query query_tests first session_fits mark_fits client_holds_fit is_reading sound lawful canonical encoded all view table_of record_in header_in decode_table decode_files decode_record decode_entries decode_header sector store_at new_volume new_files repeated sector_after encode_table file_bytes encode_record entry_bytes encode_header padded
wrong_step h = false≢true (ap (λ (d : Bytes). eqb (get_or d 0 1) 7) h.0)

crashed_step : StepAgrees (run begun active1 pending7) (asks true (read_page 1 1 0))
unfolding query query_tests first session_fits mark_fits client_holds_fit is_reading sound lawful canonical encoded all view table_of record_in header_in decode_table decode_files decode_record decode_entries decode_header sector store_at new_volume new_files repeated sector_after encode_table file_bytes encode_record entry_bytes encode_header padded
crashed_step = tt

-- Of a call nothing is asked by itself.
call_step : (r : Configuration) (crash : Bool) (c : Call) (budget : ℕ) → StepAgrees r (calls crash c budget)
call_step r crash c budget = tt

-- A wrong content at the end; before a step, though the step may be any; after it: client 1 commits sevens that the volume
-- doesn't have.
wrong_at_the_end : Agrees table (run (spoilt 4) new_session new_model) [] → ⊥
wrong_at_the_end h = content_of_page h

wrong_before : (x : Step) → Agrees table (run (spoilt 4) new_session new_model) (x ∷ []) → ⊥
wrong_before x h = content_of_page h.0

wrong_read : (xs : List Step) → Agrees table (run begun active1 pending7) (asks false (read_page 1 1 0) ∷ xs) → ⊥
wrong_read xs h = wrong_step h.1

wrong_after : Agrees table (run begun active1 pending7) (calls false (commit 1) 3 ∷ []) → ⊥
unfolding stepped model_call call tests plan recovery held_files redone cut_at all_stores first session_fits mark_fits client_holds_fit is_reading sound lawful canonical encoded all view table_of record_in header_in slot_in decode_table decode_files decode_record decode_entries decode_header sector store_at new_volume new_files repeated sector_after encode_table file_bytes encode_record entry_bytes encode_header padded
wrong_after h = false≢true (ap (λ (d : Bytes). eqb (get_or d 0 1) 7) (h.2 1 0 (omega arith) (omega arith) (omega arith)))

-- The claim holds of this volume and of every list of steps on it.
all_or_none_here : AllOrNone → (steps : List Step) → Agrees table (started fresh) steps
unfolding format format_tests length_fits shape_fits end_fits first all files_of sector_after
all_or_none_here h = h (replicate 2304 0xEE) 2 shape refl

-- ------------------------------------------------------------------ NonVacuity: refusals
refusals_of : map refusal_of (done 7 ∷ crashed 7 ∷ refused 7 ∷ []) ++ map query_refusal_of (found 7 ∷ query_refused 7 ∷ [])
    ≡ 0 ∷ 0 ∷ 7 ∷ 0 ∷ 7 ∷ []
refusals_of = refl

-- Client 1 has begun: its calls and reads, also after a crash, when it isn't marked; a page that there isn't; a budget of 0.
step_refusals : map (step_refusal (run begun active1 new_model))
    (calls false (abort 1) 3 ∷ calls true (abort 1) 3 ∷ calls false (abort 1) 0 ∷ asks false (read_page 1 1 1) ∷ asks true (read_page 1 1 1)
    ∷ asks false (read_page 1 1 2) ∷ asks false (read_page 1 2 0) ∷ asks false (read_page 2 1 0) ∷ [])
    ≡ 0 ∷ 5 ∷ 0 ∷ 0 ∷ 5 ∷ 9 ∷ 8 ∷ 5 ∷ []
unfolding call tests query query_tests plan recovery held_files all_stores first session_fits mark_fits client_holds_fit is_reading sound lawful canonical encoded all view table_of record_in header_in decode_table decode_files decode_record decode_entries decode_header sector store_at new_volume new_files repeated sector_after encode_table file_bytes encode_record entry_bytes encode_header padded
step_refusals = refl

-- A volume that isn't sound isn't accepted, nor is a session that marks a client which hasn't begun; nor at a later step: after
-- a crash the session is a new one, and then the wrong one is given again.
unsound_not_accepted : Accepted (run (set fresh 0 0) new_session new_model) (calls false (begin 1) 3 ∷ []) → ⊥
unfolding call tests first sound lawful canonical encoded all view table_of record_in header_in decode_table decode_files decode_record decode_entries decode_header sector new_volume new_files repeated sector_after encode_table file_bytes encode_record entry_bytes encode_header padded
unsound_not_accepted h = h.0 refl

session_not_accepted : Accepted (run fresh active1 new_model) (asks true (read_page 1 1 0) ∷ calls false (begin 2) 3 ∷ []) → ⊥
unfolding stepped call tests first session_fits mark_fits client_holds_fit is_reading sound lawful canonical encoded all view table_of record_in header_in decode_table decode_files decode_record decode_entries decode_header sector new_volume new_files repeated sector_after encode_table file_bytes encode_record entry_bytes encode_header padded
session_not_accepted h = h.2.1 refl

-- Each step is judged by what the one before left: the crash takes the wrong session away, and begin makes a right one of it.
begun_accepted : Accepted (run fresh active1 new_model) (calls true (begin 1) 3 ∷ calls false (begin 2) 3 ∷ [])
unfolding stepped model_call call tests plan begin_plan recovery held_files cut_at all_stores first session_fits mark_fits client_holds_fit is_reading sound lawful canonical encoded all view table_of record_in header_in decode_table decode_files decode_record decode_entries decode_header sector store_at new_volume new_files repeated sector_after encode_table file_bytes encode_record entry_bytes encode_header padded
begun_accepted = (λ e. false≢true (ap (eqb 1) e), λ e. false≢true (ap (eqb 2) e), (λ e. false≢true (ap (eqb 1) e), λ e. false≢true (ap (eqb 2) e), tt))

-- The claims hold of this volume.
stays_sound_here : StaysSound → (s : Session) (c : Call) (budget : ℕ) → sound (call fresh s c budget).volume ≡ true
unfolding sound lawful canonical encoded all view table_of record_in header_in decode_table decode_files decode_record decode_entries decode_header sector new_volume new_files repeated sector_after encode_table file_bytes encode_record entry_bytes encode_header padded
stays_sound_here h s c budget = h fresh s c budget refl

accepted_here : AlwaysAccepted → (steps : List Step) → Accepted (started fresh) steps
unfolding format format_tests length_fits shape_fits end_fits first all files_of sector_after
accepted_here h = h (replicate 2304 0xEE) 2 shape refl

-- ------------------------------------------------------------------ NonVacuity: writes take effect
writing_is : (d : Bytes) → writing 2 1 3 d ≡ begin 2 ∷ open_file 2 1 ∷ write 2 1 3 d ∷ commit 2 ∷ []
writing_is d = refl

-- Client 2 writes page 1 of file 1: with 3 stores allowed for each call, and with 2, when the commit crashes.
answers_to_lem : answers_to (started fresh) 3 (writing 2 1 1 (page 7)) ++ answers_to (started fresh) 2 (writing 2 1 1 (page 7))
    ≡ done 1 ∷ done 1 ∷ done 2 ∷ done 3 ∷ done 1 ∷ done 1 ∷ done 2 ∷ crashed 2 ∷ []
unfolding model_call call tests plan begin_plan open_plan is_read_by_other without_bit chosen free_slots recovery held_files redone cut_at all_stores first session_fits mark_fits client_holds_fit is_reading sound lawful canonical encoded all view table_of record_in header_in decode_table decode_files decode_record decode_entries decode_header sector store_at new_volume new_files repeated sector_after encode_table file_bytes encode_record entry_bytes encode_header padded
answers_to_lem = refl

-- The run after the first three of them: the session is the one last handed back, and the page is pending.
called_all_lem : let r = called_all (started fresh) 2 (begin 2 ∷ open_file 2 1 ∷ write 2 1 1 (page 7) ∷ []) in
    (r.session ≡ active2) × (sector r.volume 6 ≡ page 7)
    × (r.model.pending 2 1 1 ≡ some (page 7))
unfolding model_call call tests plan begin_plan open_plan is_read_by_other without_bit chosen free_slots recovery held_files redone cut_at all_stores first session_fits mark_fits client_holds_fit is_reading sound lawful canonical encoded all view table_of record_in header_in decode_table decode_files decode_record decode_entries decode_header sector store_at new_volume new_files repeated sector_after encode_table file_bytes encode_record entry_bytes encode_header padded
called_all_lem = (refl, refl, refl)

-- The claim holds of this volume, for its last client and the last page of the file that has a slot to spare, at a budget of 3.
writes_here : WritesTakeEffect
    → (answers_to (started fresh) 3 (writing 2 1 1 (page 7)) ≡ done 1 ∷ done 1 ∷ done 2 ∷ done 3 ∷ [])
    × (decided_content (view (called_all (started fresh) 3 (writing 2 1 1 (page 7))).volume) 1 1 ≡ page 7)
unfolding format format_tests length_fits shape_fits end_fits first all files_of sector_after
writes_here h = h (replicate 2304 0xEE) 2 shape refl 2 1 1 (page 7) 3
    (record { low = omega arith; high = omega arith })
    (record { file = record { low = omega arith; high = omega arith }; below = omega arith })
    (omega arith) refl (omega arith)

-- ------------------------------------------------------------------ Transcripts: what steps say
abbrev says : StepAnswer → Session → Bytes → Bytes → Event
says x s bytes part = record { answer = x; session = s; bytes = bytes; part = part }

-- A call's answer and session, and no bytes; of a read the bytes and the part, with the session as it was, also after a crash.
events_of_lem : map (event_of (run begun active1 new_model)) (calls false (abort 1) 3 ∷ calls true (abort 1) 3 ∷ asks false (read_page 1 1 1)
    ∷ asks true (read_page 1 1 1) ∷ [])
    ≡ says (of_call (done 2)) new_session [] []
    ∷ says (of_call (refused 5)) new_session [] []
    ∷ says (of_query (found 5)) active1 (page 0) (page 0)
    ∷ says (of_query (query_refused 5)) active1 [] []
    ∷ []
unfolding call tests query query_tests plan recovery held_files all_stores first session_fits mark_fits client_holds_fit is_reading sound lawful canonical encoded all view table_of record_in header_in decode_table decode_files decode_record decode_entries decode_header sector store_at new_volume new_files repeated sector_after encode_table file_bytes encode_record entry_bytes encode_header padded
events_of_lem = refl

-- Each step from what the one before left.
events_in_order : events_of (started fresh) (calls false (begin 1) 3 ∷ calls false (begin 1) 3 ∷ calls true (begin 1) 3 ∷ [])
    ≡ says (of_call (done 1)) active1 [] [] ∷ says (of_call (refused 4)) active1 [] [] ∷ says (of_call (done 2)) active1 [] [] ∷ []
unfolding stepped call tests plan begin_plan recovery held_files cut_at all_stores first session_fits mark_fits client_holds_fit is_reading sound lawful canonical encoded all view table_of record_in header_in decode_table decode_files decode_record decode_entries decode_header sector store_at new_volume new_files repeated sector_after encode_table file_bytes encode_record entry_bytes encode_header padded
events_in_order = refl

-- What the model shows client 1 of page 0 of file 1 after a step: given a mark, given none, after a crash; a write; reads; and
-- a call answered as if it were a read.
model_fed : map (λ (m : Model). shown m (read_page 1 1 0))
    (fed pending7 active1 (calls false (begin 2) 3) (of_call (done 1))
    ∷ fed pending7 new_session (calls false (begin 2) 3) (of_call (done 1))
    ∷ fed pending7 active1 (calls true (begin 2) 3) (of_call (done 1))
    ∷ fed pending7 active1 (calls false (write 1 1 0 (page 9)) 3) (of_call (done 1))
    ∷ fed pending7 new_session (asks true (read_page 1 1 0)) (of_query (found 4))
    ∷ fed pending7 new_session (asks false (read_page 1 1 0)) (of_call (done 1))
    ∷ fed pending7 new_session (calls true (begin 2) 3) (of_query (found 4))
    ∷ [])
    ≡ page 7 ∷ page 0 ∷ page 0 ∷ page 9 ∷ page 7 ∷ page 7 ∷ page 7 ∷ []
unfolding model_call
model_fed = refl

-- ------------------------------------------------------------------ Transcripts: what is asked of them
-- Both the bytes and the part are the page; a call's answer is none to a read; a refused read shows nothing.
shows_page : (ShowsPage (page 7) (of_query (found 4)) (page 7) (page 0) → ⊥)
    × (ShowsPage (page 7) (of_query (found 4)) (page 0) (page 7) → ⊥)
    × (ShowsPage (page 7) (of_call (done 1)) (page 7) (page 7) → ⊥) × ShowsPage (page 7) (of_query (query_refused 5)) [] []
shows_page = (λ h. false≢true (ap (λ (d : Bytes). eqb (get_or d 0 1) 7) h.1), λ h. false≢true (ap (λ (d : Bytes). eqb (get_or d 0 1) 7) h.0), λ h. h, tt)

-- Client 1 is to see what it has pending, client 2 the page.
event_agrees : (EventAgrees pending7 (asks false (read_page 1 1 0)) (says (of_query (found 4)) active1 (page 0) (page 0)) → ⊥)
    × EventAgrees pending7 (asks false (read_page 1 1 0)) (says (of_query (found 4)) active1 (page 7) (page 7))
    × EventAgrees pending7 (asks false (read_page 2 1 0)) (says (of_query (found 4)) active1 (page 0) (page 0))
    × (EventAgrees pending7 (asks false (read_page 2 1 0)) (says (of_query (found 4)) active1 (page 7) (page 7)) → ⊥)
event_agrees = (
  λ h. false≢true (ap (λ (d : Bytes). eqb (get_or d 0 1) 7) h.0),
  (refl, refl),
  (refl, refl),
  λ h. false≢true (ap starts_with0 h.0),
)

-- Of a call only that it answers as a call does.
call_agrees : (m : Model) (crash : Bool) (c : Call) (budget : ℕ) (s : Session) (d : Bytes)
    → ((x : Answer) → EventAgrees m (calls crash c budget) (says (of_call x) s d d))
    × ((x : QueryAnswer) → EventAgrees m (calls crash c budget) (says (of_query x) s d d) → ⊥)
call_agrees m crash c budget s d = (λ x. tt, λ x h. h)

-- A transcript with too few or too many events, or which leaves another content, doesn't agree.
too_few_events : (s : Session) (x : Step) (v : Volume) → SaidAgrees table new_model s (x ∷ []) [] v → ⊥
too_few_events s x v h = h

too_many_events : (s : Session) (e : Event) (v : Volume) → SaidAgrees table new_model s [] (e ∷ []) v → ⊥
too_many_events s e v h = h

wrong_volume_left : (e : Event) → SaidAgrees table new_model new_session (asks false (read_page 1 1 0) ∷ []) (e ∷ []) (spoilt 4) → ⊥
wrong_volume_left e h = content_of_page h.1

-- Client 1 writes, client 2 begins, client 1 reads page 0 of file 1.
abbrev script : List Step
script = calls false (write 1 1 0 (page 7)) 3 ∷ calls false (begin 2) 3 ∷ asks false (read_page 1 1 0) ∷ []

-- The events: the session that the write hands back, and what the read shows.
abbrev said : Session → Bytes → List Event
said s d = says (of_call (done 2)) s [] [] ∷ says (of_call (done 1)) active1 [] [] ∷ says (of_query (found 4)) active1 d d ∷ []

-- The read is to show what was written, if the session handed back marks client 1.
forgotten_write : (v : Volume) → SaidAgrees table new_model active1 script (said active1 (page 0)) v → ⊥
unfolding model_call
forgotten_write v h = false≢true (ap (λ (d : Bytes). eqb (get_or d 0 1) 7) h.1.1.0.0)

-- If it marks nobody, begin empties what is pending, and the read is to show the page as it was.
kept_write : (v : Volume) → SaidAgrees table new_model active1 script (said new_session (page 7)) v → ⊥
unfolding model_call
kept_write v h = false≢true (ap starts_with0 h.1.1.0.0)

-- The claim holds of this volume and of every list of steps on it.
transcripts_here : TranscriptsAgree → (xs : List Step)
    → SaidAgrees table new_model new_session xs (events_of (started fresh) xs) (ran_over (started fresh) xs).volume
unfolding format format_tests length_fits shape_fits end_fits first all files_of sector_after
transcripts_here h = h (replicate 2304 0xEE) 2 shape refl
