-- Looks at V, M-103: before, during and after a transaction of client 1, whose commit is cut after each of its stores.
use Rattle.std.specs.Prelude.{Bool, ◌&&◌, List, [], ◌∷◌, ◌++◌, ℕ}
use Rattle.interface.specs.Answers.{Answer, done, crashed}
use Rattle.rules.specs.Plans.{begin, open_file, write, commit, abort, look_page}
use Rattle.atomicity.specs.Runs.{Configuration, started}
use Rattle.examples.specs.Scripts.{Fact, answers, finds, query_refuses, played, ended, small}
use Rattle.examples.specs.Examples.{A, A2, B, zeros, e2}
use Rattle.examples.specs.Refusals.{does}

-- Both files old, and both new: each page in its sector.
abbrev old_seen : List Fact
old_seen = finds (look_page 1 0) 4 zeros ∷ finds (look_page 1 1) 5 zeros ∷ finds (look_page 2 0) 8 zeros ∷ []

abbrev new_seen : List Fact
new_seen = finds (look_page 1 0) 6 A ∷ finds (look_page 1 1) 5 zeros ∷ finds (look_page 2 0) 9 B ∷ []

-- "a look tests 1, 6 and 9"
abbrev refused_looks : List Fact
refused_looks = query_refuses (look_page 0 0) 6 ∷ query_refuses (look_page 3 0) 6 ∷ query_refuses (look_page 3 9) 6 ∷ query_refuses (look_page 1 2) 9 ∷ []

-- "Looks .. are all-or-none together": client 1 has written a page of each file, and its commit is cut after each store.
abbrev commit_cut : Configuration → (budget : ℕ) → Answer → List Fact → Bool
commit_cut r budget x seen = played r (answers (commit 1) budget x ∷ seen)

-- Client 1's next transaction writes page 0 of file 1 to sector 4, which is seen with the commit's first store.
abbrev rewritten : List Fact
rewritten =
    does (commit 1) 4 ∷ does (begin 1) 1 ∷ does (open_file 1 1) 1 ∷ does (write 1 1 0 A2) 2
    ∷ (new_seen ++ (answers (commit 1) 1 (crashed 1) ∷ finds (look_page 1 0) 4 A2 ∷ finds (look_page 2 0) 9 B ∷ []))

abbrev pub looks_hold : Bool
looks_hold =
    let r = ended (started small) e2 in
    played (started small) old_seen && played r (old_seen ++ refused_looks)
    && commit_cut r 0 (crashed 0) old_seen && commit_cut r 1 (crashed 1) new_seen && commit_cut r 2 (crashed 2) new_seen
    && commit_cut r 3 (crashed 3) new_seen && commit_cut r 4 (done 4) new_seen
    && played r (does (abort 1) 3 ∷ old_seen) && played r rewritten
