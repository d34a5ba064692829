-- Scripts and transcripts of a few steps, byte by byte: what each step is, and what each entry says; and transcripts that don't
-- agree. The checker evaluates both sides.
use mathlib.Core.Path.{◌≡◌, refl, ap}
use mathlib.Core.Bool.{true, false}
use mathlib.Core.List.{List, [], ◌∷◌, ◌++◌, map}
use Prim.Native.Nat.{ℕ}
use native.Mathlib.Omega.{arith}
use lib.ListN.{replicate}
use Rattle.interface.specs.declared.Session.{Session}
use Rattle.interface.specs.Answers.{new_session, done, crashed, refused, found, query_refused}
use Rattle.lists.specs.Lists.{from}
use Rattle.sector.specs.Contents.{Bytes, Table}
use Rattle.sector.specs.Sectors.{byte, padded}
use Rattle.volume.specs.Volumes.{Volume}
use Rattle.rules.specs.Plans.{begin, open_file, open_read, write, commit, abort, read_page, look_page}
use Rattle.atomicity.specs.Model.{new_model}
use Rattle.atomicity.specs.Runs.{Step, calls, asks}
use Rattle.atomicity.specs.AllOrNone.{PagesAgree}
use Rattle.atomicity.specs.Transcripts.{of_call, of_query, Event}
use Rattle.script.specs.declared.Action.{Action}
use Rattle.commands.specs.Commands.{step_of}
use Rattle.replay.specs.Scripts.{action_of, command_in, is_whole, step_in, steps_from, steps}
use Rattle.replay.specs.Transcripts.{head_bytes, entry_of, transcript, event_in, events_in}
use Rattle.replay.specs.Replays.{ran, has_room, AllOrNoneFor, WhereRun}
use Rattle.replay.specs.Walks.{pieces_from, pieces}

-- ------------------------------------------------------------------ scripts
-- Begin 1 with a budget of 255; the supply fails, and client 2 opens file 3 with a budget of 4; a write of three bytes; commit,
-- abort, client 3 opens file 4 for reading with a budget of 9, two reads, by 5 and by 255, and after a crash a look, whose client
-- says nothing; and a begin that isn't whole.
abbrev script : Bytes
script =
    0 ∷ 0 ∷ 1 ∷ 0 ∷ 0 ∷ 255 ∷ 0 ∷ 0
    ∷ 1 ∷ 1 ∷ 2 ∷ 3 ∷ 0 ∷ 4 ∷ 0 ∷ 0
    ∷ 2 ∷ 0 ∷ 1 ∷ 2 ∷ 5 ∷ 6 ∷ 3 ∷ 0 ∷ 0xAA ∷ 0xBB ∷ 0xCC
    ∷ 3 ∷ 0 ∷ 1 ∷ 0 ∷ 0 ∷ 7 ∷ 0 ∷ 0
    ∷ 4 ∷ 0 ∷ 2 ∷ 0 ∷ 0 ∷ 8 ∷ 0 ∷ 0
    ∷ 6 ∷ 0 ∷ 3 ∷ 4 ∷ 0 ∷ 9 ∷ 0 ∷ 0
    ∷ 5 ∷ 2 ∷ 1 ∷ 2 ∷ 5 ∷ 0 ∷ 0 ∷ 0
    ∷ 255 ∷ 0 ∷ 3 ∷ 4 ∷ 6 ∷ 0 ∷ 0 ∷ 0
    ∷ 7 ∷ 1 ∷ 9 ∷ 2 ∷ 8 ∷ 0 ∷ 0 ∷ 0
    ∷ 0 ∷ 0 ∷ 1 ∷ 0 ∷ 0 ∷ 255 ∷ 0
    ∷ []

abbrev its_steps : List Step
its_steps =
    calls false (begin 1) 255
    ∷ calls true (open_file 2 3) 4
    ∷ calls false (write 1 2 5 (0xAA ∷ 0xBB ∷ 0xCC ∷ [])) 6
    ∷ calls false (commit 1) 7
    ∷ calls false (abort 2) 8
    ∷ calls false (open_read 3 4) 9
    ∷ asks true (read_page 1 2 5)
    ∷ asks false (read_page 3 4 6)
    ∷ asks true (look_page 2 8)
    ∷ []

script_steps : steps script ≡ its_steps
unfolding steps_from step_in command_in step_of is_whole
script_steps = refl

-- 5 and every byte above 7 is a read.
reads : map action_of (5 ∷ from 8 248) ≡ replicate 249 Action.Read
reads = refl

-- The length of the data, low byte first: a page is 256 bytes.
page_step : steps (2 ∷ 0 ∷ 1 ∷ 1 ∷ 0 ∷ 255 ∷ 0 ∷ 1 ∷ replicate 256 0xA1) ≡ calls false (write 1 1 0 (replicate 256 0xA1)) 255 ∷ []
unfolding steps_from step_in command_in step_of is_whole
page_step = refl

-- Data that the script doesn't have: no step.
cut_step : steps (2 ∷ 0 ∷ 1 ∷ 1 ∷ 0 ∷ 255 ∷ 3 ∷ 0 ∷ 0xAA ∷ 0xBB ∷ []) ≡ []
unfolding steps_from step_in command_in step_of is_whole
cut_step = refl

-- The bytes of a step without data and of one with a byte of it; three bytes more are no step.
two_pieces : pieces (0 ∷ 0 ∷ 1 ∷ 0 ∷ 0 ∷ 255 ∷ 0 ∷ 0 ∷ 2 ∷ 0 ∷ 1 ∷ 2 ∷ 5 ∷ 6 ∷ 1 ∷ 0 ∷ 0xAA ∷ 0 ∷ 0 ∷ 1 ∷ [])
    ≡ (0 ∷ 0 ∷ 1 ∷ 0 ∷ 0 ∷ 255 ∷ 0 ∷ 0 ∷ []) ∷ (2 ∷ 0 ∷ 1 ∷ 2 ∷ 5 ∷ 6 ∷ 1 ∷ 0 ∷ 0xAA ∷ []) ∷ []
unfolding pieces_from is_whole
two_pieces = refl

-- Twelve bytes for each of the six calls, 524 for each question: 1,644 are enough, 1,643 are not.
enough_room : has_room script 1644 ≡ true
unfolding has_room steps_from step_in command_in step_of is_whole
enough_room = refl

too_little_room : has_room script 1643 ≡ false
unfolding has_room steps_from step_in command_in step_of is_whole
too_little_room = refl

-- ------------------------------------------------------------------ transcripts
-- Clients 1 and 3 are active. Client 1 reads files 1 and 16, client 2 file 2, client 3 file 9, client 4 files 3 and 10.
abbrev active13 : Session
active13 = record { active = true ∷ false ∷ true ∷ false ∷ []; reading = 0x8001 ∷ 2 ∷ 0x100 ∷ 0x204 ∷ [] }

-- Its nine bytes, and those of a new session.
abbrev nine : Bytes
nine = 5 ∷ 0x01 ∷ 0x80 ∷ 2 ∷ 0 ∷ 0 ∷ 1 ∷ 4 ∷ 2 ∷ []

abbrev new_nine : Bytes
new_nine = replicate 9 0

abbrev of_calls : List Event
of_calls =
    record { answer = of_call (done 2); session = active13; bytes = []; part = [] }
    ∷ record { answer = of_call (crashed 1); session = new_session; bytes = []; part = [] }
    ∷ record { answer = of_call (refused 11); session = active13; bytes = []; part = [] }
    ∷ []

calls_told : transcript of_calls ≡ (0 ∷ 2 ∷ 0 ∷ nine) ++ ((1 ∷ 1 ∷ 0 ∷ new_nine) ++ (2 ∷ 11 ∷ 0 ∷ nine))
unfolding entry_of head_bytes
calls_told = refl

-- A read of sector 300 that shows a page, and a refused one.
abbrev page : Bytes
page = replicate 256 0xA1

abbrev of_reads : List Event
of_reads =
    record { answer = of_query (found 300); session = active13; bytes = page; part = page }
    ∷ record { answer = of_query (query_refused 8); session = active13; bytes = []; part = [] }
    ∷ []

reads_told : transcript of_reads
    ≡ (3 ∷ 44 ∷ 1 ∷ nine) ++ (page ++ (page ++ ((2 ∷ 8 ∷ 0 ∷ nine) ++ replicate 512 0)))
unfolding entry_of head_bytes padded
reads_told = refl

-- What is read back, with other bytes behind it; the two pages of a read may differ there.
abbrev five : List Step
five = calls false (begin 1) 9 ∷ calls false (begin 1) 9 ∷ calls false (begin 1) 9 ∷ asks false (read_page 1 2 3) ∷ asks false (read_page 1 2 3) ∷ []

told_back : events_in five (transcript of_calls ++ (transcript of_reads ++ (1 ∷ 2 ∷ 3 ∷ []))) ≡ of_calls ++ of_reads
unfolding entry_of head_bytes padded event_in
told_back = refl

two_pages_lem : events_in (asks false (read_page 1 2 3) ∷ []) ((3 ∷ 6 ∷ 0 ∷ new_nine) ++ (page ++ replicate 256 0xB2))
    ≡ record { answer = of_query (found 6); session = new_session; bytes = page; part = replicate 256 0xB2 } ∷ []
unfolding event_in
two_pages_lem = refl

-- ------------------------------------------------------------------ what is claimed
-- Where the script was run, the claim itself.
where_run : (P : Type 0) → P → WhereRun ran P
where_run P h = h

run_where : (P : Type 0) → WhereRun ran P → P
run_where P h = h

-- The pages of the volume that is left are the model's.
pages_claimed : (t : Table) (v : Volume) (out : Bytes) → AllOrNoneFor t [] v out → PagesAgree t new_model v
unfolding steps_from
pages_claimed t v out h = h

-- A read of a new page that shows other bytes, as the sector's or as the part's, doesn't agree.
abbrev read_script : Bytes
read_script = 5 ∷ 0 ∷ 1 ∷ 1 ∷ 0 ∷ 0 ∷ 0 ∷ 0 ∷ []

abbrev zeros : Bytes
zeros = replicate 256 0

other_bytes : (t : Table) (v : Volume) → AllOrNoneFor t read_script v ((3 ∷ 4 ∷ 0 ∷ 1 ∷ replicate 8 0) ++ (page ++ zeros)) → ⊥
unfolding steps_from step_in command_in step_of is_whole event_in
other_bytes t v h = let e : ◌≡◌ {A = ℕ} 0xA1 0 = ap (λ (l : Bytes). byte l 0) h.0.0 in omega arith

other_part : (t : Table) (v : Volume) → AllOrNoneFor t read_script v ((3 ∷ 4 ∷ 0 ∷ 1 ∷ replicate 8 0) ++ (zeros ++ page)) → ⊥
unfolding steps_from step_in command_in step_of is_whole event_in
other_part t v h = let e : ◌≡◌ {A = ℕ} 0xA1 0 = ap (λ (l : Bytes). byte l 0) h.0.1 in omega arith
