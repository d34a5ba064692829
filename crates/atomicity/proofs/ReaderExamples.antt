-- What `Readers` asks, on a small volume: a model that shows another page, a read that hands back nothing, and a page that changes
-- while it is read each contradict it; and each claim has its instance, for every client, file and page. The checker evaluates both sides.
use mathlib.Core.Path.{◌≡◌, refl, sym, ap}
use mathlib.Core.Bool.{Bool, true, false, false≢true}
use mathlib.Core.List.{List, [], ◌∷◌, ◌++◌, map}
use mathlib.Core.Logic.{◌≢◌}
use Prim.Native.Nat.{ℕ, ◌≤◌}
use native.Mathlib.Omega.{arith}
use lib.Dec.{eqb}
use lib.ListN.{get_or, replicate, set}
use Rattle.interface.specs.declared.Session.{Session}
use Rattle.interface.specs.Answers.{new_session, done, crashed, found, query_refused}
use Rattle.lists.specs.Lists.{all, first}
use Rattle.byteset.specs.Bits.{with_bit}
use Rattle.sector.specs.Contents.{Bytes, Table, open_record}
use Rattle.sector.specs.Entries.{redone}
use Rattle.sector.specs.Sectors.{sector, store_at, padded}
use Rattle.sector.specs.Shapes.{files_of}
use Rattle.sector.specs.Encoding.{file_bytes, encode_table, entry_bytes, encode_record, encode_header}
use Rattle.sector.specs.Decoding.{decode_files, decode_table, decode_entries, decode_record, decode_header}
use Rattle.volume.specs.Places.{sector_after, IsClient, IsFile, IsPage}
use Rattle.volume.specs.Volumes.{Volume, table_of, record_in, header_in, slot_in, view}
use Rattle.volume.specs.Stores.{cut_at, all_stores}
use Rattle.volume.specs.Lawful.{lawful}
use Rattle.volume.specs.Sound.{encoded, canonical, sound}
use Rattle.volume.specs.Format.{length_fits, shape_fits, end_fits, format_tests, repeated, new_files, new_volume, format}
use Rattle.rules.specs.Sessions.{is_reading, mark_fits, hold_fits, client_holds_fit, session_fits}
use Rattle.rules.specs.Recovery.{held_files, recovery}
use Rattle.rules.specs.Plans.{Call, begin, open_file, open_read, write, commit, abort, read_page, begin_plan, open_read_plan, plan}
use Rattle.rules.specs.Refusals.{tests, query_tests}
use Rattle.rules.specs.Content.{decided_content}
use Rattle.rules.specs.Calls.{call, query, query_part}
use Rattle.rules.proofs.ExampleViews.{reads, active12}
use Rattle.atomicity.specs.Model.{new_model, shown, model_call}
use Rattle.atomicity.specs.Runs.{Step, calls, asks, Configuration, started, stepped, ran_over}
use Rattle.atomicity.specs.NonVacuity.{called_all, answers_to}
use Rattle.atomicity.specs.Readers.{given_to, Finds, ReadersShown, Unchanged, StepSteady, ends_hold, HoldsStay, Steadily, ReadersSteady, ReadsThrough, SteadyWhile, sharing, ReadersShare}
use Rattle.atomicity.proofs.StatementExamples.{shape, table, fresh, page, pending7, run}

-- The session that a step is given: that of the configuration, or a new one after a crash.
given_to_lem : (r : Configuration) → map (given_to r) (calls false (begin 1) 3 ∷ calls true (begin 1) 3 ∷ asks false (read_page 1 1 0) ∷ asks true (read_page 1 1 0) ∷ [])
    ≡ r.session ∷ new_session ∷ r.session ∷ new_session ∷ []
given_to_lem r = refl

-- ------------------------------------------------------------------ what contradicts the claims
-- Both clients have begun, and nobody holds a file for writing. Both read file 1.
abbrev begun : Volume
begun = store_at (store_at fresh 1 (encode_record open_record)) 2 (encode_record open_record)

abbrev both : Session
both = reads active12 (1 ∷ 1 ∷ 0 ∷ 0 ∷ [])

-- Client 2 is one of the table, and page 0 of file 1 is.
client2 : IsClient table 2
client2 = record { low = omega arith; high = omega arith }

page0 : IsPage table 1 0
page0 = record { file = record { low = omega arith; high = omega arith }; below = omega arith }

-- Bytes that begin with 7, and others.
abbrev starts_with7 : Bytes → Bool
starts_with7 d = eqb (get_or d 0 1) 7

-- A model that shows sevens, where the content is zeros.
wrong_shown : ReadersShown table (run begun both (record { pages = λ f p. page 7; pending = new_model.pending })) (calls false (begin 1) 3) → ⊥
unfolding session_fits mark_fits client_holds_fit hold_fits is_reading sound lawful canonical encoded all view table_of record_in header_in slot_in decode_table decode_files decode_record decode_entries decode_header sector store_at new_volume new_files repeated sector_after encode_table file_bytes encode_record entry_bytes encode_header padded
wrong_shown h = false≢true (ap starts_with7 (sym (h 2 1 0 client2 page0 refl).0))

-- A read that is refused, as the volume isn't sound: it finds nothing, and hands back nothing.
wrong_part : ReadersShown table (run (set begun 0 0) both new_model) (asks false (read_page 1 1 0)) → ⊥
unfolding query query_tests first session_fits mark_fits client_holds_fit hold_fits is_reading sound lawful canonical encoded all view table_of record_in header_in slot_in decode_table decode_files decode_record decode_entries decode_header sector store_at new_volume new_files repeated sector_after encode_table file_bytes encode_record entry_bytes encode_header padded
wrong_part h = false≢true (ap (λ (d : Bytes). eqb (get_or d 0 1) 0) (h 2 1 0 client2 page0 refl).2)

-- Client 1 commits sevens for a page that client 2 reads, before and after it: what client 2 is shown changes. Such pages aren't
-- pending in any run.
page_changes : StepSteady table (run begun both pending7) (calls false (commit 1) 3) → ⊥
unfolding stepped model_call call tests plan recovery held_files redone cut_at all_stores first session_fits mark_fits client_holds_fit hold_fits is_reading sound lawful canonical encoded all view table_of record_in header_in slot_in decode_table decode_files decode_record decode_entries decode_header sector store_at new_volume new_files repeated sector_after encode_table file_bytes encode_record entry_bytes encode_header padded
page_changes h = false≢true (ap starts_with7 (sym (h 2 1 0 client2 page0 refl).1))

-- A question that is refused finds nothing, and one that finds other bytes doesn't find these.
finds : Finds (page 1 ++ page 2) (page 2) (found 1) × (Finds (page 1 ++ page 2) (page 2) (query_refused 8) → ⊥) × (Finds (page 1 ++ page 2) (page 2) (found 0) → ⊥)
unfolding sector
finds = (refl, (λ h. h), λ h. false≢true (ap (λ (d : Bytes). eqb (get_or d 0 1) 2) h))

-- What ends client 1's hold of file 2: its open of that file for writing, its commit and its abort; and nothing of another client.
ends : map (λ k. map (λ f. map (ends_hold 1 2) (begin k ∷ open_file k f ∷ open_read k f ∷ write k f 0 [] ∷ commit k ∷ abort k ∷ [])) (1 ∷ 2 ∷ [])) (1 ∷ 2 ∷ [])
    ≡ ((false ∷ false ∷ false ∷ false ∷ true ∷ true ∷ []) ∷ (false ∷ true ∷ false ∷ false ∷ true ∷ true ∷ []) ∷ [])
    ∷ replicate 2 (replicate 6 false)
    ∷ []
ends = refl

-- No begin, open for reading or write ends a hold, whoever makes it.
ends_none : (k f j g p : ℕ) (d : Bytes) → map (ends_hold k f) (begin j ∷ open_read j g ∷ write j g p d ∷ []) ≡ replicate 3 false
ends_none k f j g p d = refl

-- At each step of either kind every client, file and page is asked about, and the later ones from what the earlier left.
shown_to_all : (t : Table) (r : Configuration) (x : Step) → ReadersShown t r x → (k f p : ℕ) → IsClient t k → IsPage t f p → is_reading (given_to r x) k f ≡ true
    → let d = decided_content (view r.volume) f p in
    (shown r.model (read_page k f p) ≡ d) × Finds r.volume d (query r.volume (given_to r x) (read_page k f p))
    × (query_part r.volume (given_to r x) (read_page k f p) ≡ d)
shown_to_all t r x h = h

steady_for_all : (t : Table) (r : Configuration) (x : Step) → StepSteady t r x → (k f p : ℕ) → IsClient t k → IsPage t f p → is_reading (given_to r x) k f ≡ true
    → (decided_content (view (stepped r x).volume) f p ≡ decided_content (view r.volume) f p)
    × (shown (stepped r x).model (read_page k f p) ≡ shown r.model (read_page k f p))
steady_for_all t r x h = h

asked_of_all : (t : Table) (r : Configuration) (x : Step) → Steadily t r (x ∷ []) → ReadersShown t r x × StepSteady t r x × HoldsStay t r x
asked_of_all t r x h = (h.0, h.1, h.2)

asked_later : (r : Configuration) (x y : Step) → Steadily table r (x ∷ y ∷ [])
    → ReadersShown table (stepped r x) y × StepSteady table (stepped r x) y × HoldsStay table (stepped r x) y
asked_later r x y h = (h.3.0, h.3.1, h.3.2)

-- Of a call that isn't cut and doesn't end the hold it is asked whether the hold stays.
stay_of_all : (t : Table) (r : Configuration) (c : Call) (budget : ℕ) → HoldsStay t r (calls false c budget) → (k f : ℕ) → IsClient t k → IsFile t f
    → is_reading r.session k f ≡ true → ends_hold k f c ≡ false → ((n : ℕ) → (call r.volume r.session c budget).answer ≢ crashed n)
    → is_reading (call r.volume r.session c budget).session k f ≡ true
stay_of_all t r c budget h = h

-- ------------------------------------------------------------------ while a client holds
-- Client 2 reads through a question, client 1's commit and its own; not through a crash, and not on after its commit.
reads_through : ReadsThrough (run begun both new_model) 2 1 (asks false (read_page 1 1 1) ∷ calls false (commit 1) 3 ∷ calls false (commit 2) 3 ∷ [])
unfolding stepped model_call call tests plan recovery held_files redone cut_at all_stores first session_fits mark_fits client_holds_fit hold_fits is_reading sound lawful canonical encoded all view table_of record_in header_in slot_in decode_table decode_files decode_record decode_entries decode_header sector store_at new_volume new_files repeated sector_after encode_table file_bytes encode_record entry_bytes encode_header padded
reads_through = (refl, (refl, (refl, tt)))

not_through_crash : ReadsThrough (run begun both new_model) 2 1 (calls true (begin 1) 3 ∷ []) → ⊥
unfolding is_reading
not_through_crash h = false≢true h.0

not_through_commit : ReadsThrough (run begun both new_model) 2 1 (calls false (commit 2) 3 ∷ calls false (begin 2) 3 ∷ []) → ⊥
unfolding stepped model_call call tests plan recovery held_files redone cut_at all_stores first session_fits mark_fits client_holds_fit hold_fits is_reading sound lawful canonical encoded all view table_of record_in header_in slot_in decode_table decode_files decode_record decode_entries decode_header sector store_at new_volume new_files repeated sector_after encode_table file_bytes encode_record entry_bytes encode_header padded
not_through_commit h = false≢true h.1.0

-- ------------------------------------------------------------------ the claims hold of this volume
steady_here : ReadersSteady → (steps : List Step) → Steadily table (started fresh) steps
unfolding format format_tests length_fits shape_fits end_fits first all files_of sector_after
steady_here h = h (replicate 2304 0xEE) 2 shape refl

while_here : SteadyWhile → (before steps : List Step) (k f p : ℕ) → IsClient table k → IsPage table f p → let r = ran_over (started fresh) before in
    ReadsThrough r k f steps → Unchanged r (ran_over r steps) k f p
unfolding format format_tests length_fits shape_fits end_fits first all files_of sector_after
while_here h = h (replicate 2304 0xEE) 2 shape refl

-- Clients 1 and 2 share file 1, with a budget of 1 for each call.
sharing_is : sharing 1 2 3 ≡ begin 1 ∷ begin 2 ∷ open_read 1 3 ∷ open_read 2 3 ∷ []
sharing_is = refl

shared : (answers_to (started fresh) 1 (sharing 1 2 1) ≡ done 1 ∷ done 1 ∷ done 0 ∷ done 0 ∷ [])
    × ((called_all (started fresh) 1 (sharing 1 2 1)).session ≡ both)
unfolding model_call call tests plan begin_plan open_read_plan with_bit recovery held_files cut_at all_stores first session_fits mark_fits client_holds_fit hold_fits is_reading sound lawful canonical encoded all view table_of record_in header_in slot_in decode_table decode_files decode_record decode_entries decode_header sector store_at new_volume new_files repeated sector_after encode_table file_bytes encode_record entry_bytes encode_header padded
shared = (refl, refl)

share_all : ReadersShare → (j k f budget : ℕ) → let r = started fresh in
    IsClient table j → IsClient table k → j ≢ k → IsFile table f → 1 ≤ budget
    → (answers_to r budget (sharing j k f) ≡ done 1 ∷ done 1 ∷ done 0 ∷ done 0 ∷ [])
    × (is_reading (called_all r budget (sharing j k f)).session j f ≡ true)
    × (is_reading (called_all r budget (sharing j k f)).session k f ≡ true)
unfolding format format_tests length_fits shape_fits end_fits first all files_of sector_after
share_all h = h (replicate 2304 0xEE) 2 shape refl
