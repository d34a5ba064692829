-- Two clients read file 1 of V, M-102: each rule where it first matters, in one list of calls; and an open that is cut. A word of
-- reading holds has 1 for file 1 and 2 for file 2.
use Rattle.std.specs.Prelude.{Bool, ◌&&◌, List, [], ◌∷◌, ◌++◌}
use Rattle.interface.specs.Answers.{done, crashed}
use Rattle.rules.specs.Plans.{begin, open_file, open_read, write, commit, abort, read_page}
use Rattle.atomicity.specs.Runs.{started}
use Rattle.examples.specs.Scripts.{Fact, answers, finds, query_refuses, sector_is, decides, reading, played, small}
use Rattle.examples.specs.Examples.{A, B, zeros, header_bytes}
use Rattle.examples.specs.Refusals.{does, refuses}

-- "A file may be opened for reading by several kilns": without a store, at allowance 0, and again nothing. Both are shown the page.
abbrev together : List Fact
together =
    does (begin 1) 1 ∷ does (begin 2) 1
    ∷ answers (open_read 1 1) 0 (done 0) ∷ reading (1 ∷ 0 ∷ 0 ∷ 0 ∷ [])
    ∷ query_refuses (read_page 2 1 0) 8
    ∷ answers (open_read 2 1) 0 (done 0) ∷ reading (1 ∷ 1 ∷ 0 ∷ 0 ∷ [])
    ∷ answers (open_read 2 1) 0 (done 0) ∷ reading (1 ∷ 1 ∷ 0 ∷ 0 ∷ [])
    ∷ finds (read_page 1 1 0) 4 zeros ∷ finds (read_page 2 1 1) 5 zeros
    ∷ sector_is 3 (header_bytes 0 1 (0 ∷ 1 ∷ []))
    ∷ []

-- 7, "writing while another kiln reads"; 16, before 9 and after 8; a refusal leaves the holds.
abbrev refused_to_readers : List Fact
refused_to_readers =
    refuses (open_file 1 1) 7 ∷ refuses (open_file 2 1) 7
    ∷ refuses (write 1 1 0 A) 16 ∷ refuses (write 1 1 9 []) 16 ∷ refuses (write 1 2 0 A) 8
    ∷ reading (1 ∷ 1 ∷ 0 ∷ 0 ∷ [])
    ∷ []

-- "or for writing by one": client 1 writes file 2, which client 2 may not read; for client 1 to open it for reading does nothing.
abbrev writes_beside : List Fact
writes_beside =
    does (open_file 1 2) 1 ∷ refuses (open_read 2 2) 7
    ∷ answers (open_read 1 2) 0 (done 0) ∷ reading (1 ∷ 1 ∷ 0 ∷ 0 ∷ [])
    ∷ does (write 1 2 0 B) 2
    ∷ []

-- "Commit and abort end them": client 2, which only reads, commits with two stores. Client 1 alone reads file 1 then, and "may open it
-- for writing, and its reading hold ends then", with one store.
abbrev upgrade : List Fact
upgrade =
    does (commit 2) 2 ∷ reading (1 ∷ 0 ∷ 0 ∷ 0 ∷ [])
    ∷ does (open_file 1 1) 1 ∷ reading (0 ∷ 0 ∷ 0 ∷ 0 ∷ [])
    ∷ does (write 1 1 0 A) 2
    ∷ []

-- Cut before that store, the hold is gone, as after every cut, and the file is nobody's.
abbrev upgrade_cut : List Fact
upgrade_cut =
    does (begin 1) 1 ∷ answers (open_read 1 1) 0 (done 0)
    ∷ answers (open_file 1 1) 0 (crashed 0) ∷ reading (0 ∷ 0 ∷ 0 ∷ 0 ∷ [])
    ∷ sector_is 3 (header_bytes 0 1 (0 ∷ 1 ∷ []))
    ∷ []

-- Client 1's commit is cut after its deciding store. "recovering an interrupted holder first": client 2's open for reading is cut
-- after the first of three stores, and is left with no hold; after the next begin the rest is done, and both files are new.
abbrev recovers : List Fact
recovers =
    answers (commit 1) 1 (crashed 1) ∷ does (begin 2) 1
    ∷ answers (open_read 2 1) 1 (crashed 1) ∷ reading (0 ∷ 0 ∷ 0 ∷ 0 ∷ [])
    ∷ does (begin 2) 2
    ∷ answers (open_read 2 1) 0 (done 0) ∷ does (open_read 2 2) 2 ∷ reading (0 ∷ 3 ∷ 0 ∷ 0 ∷ [])
    ∷ finds (read_page 2 1 0) 6 A ∷ finds (read_page 2 2 0) 9 B
    ∷ sector_is 3 (header_bytes 0 1 (2 ∷ 1 ∷ [])) ∷ sector_is 7 (header_bytes 0 2 (1 ∷ []))
    ∷ does (abort 2) 1 ∷ reading (0 ∷ 0 ∷ 0 ∷ 0 ∷ [])
    ∷ decides 1 0 A ∷ decides 2 0 B
    ∷ []

abbrev pub readers_hold : Bool
readers_hold = played (started small) (together ++ refused_to_readers ++ writes_beside ++ upgrade ++ recovers) && played (started small) upgrade_cut
