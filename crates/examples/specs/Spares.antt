-- How many slots of V are left, M-104: after format, through a transaction whose commit is cut after each of its stores, and after its
-- recovery. File 1 leaves one of three, file 2 two of three.
use Rattle.std.specs.Prelude.{Bool, not, ◌&&◌, List, [], ◌∷◌, ◌++◌, ℕ}
use Rattle.interface.specs.Answers.{Answer, done, crashed, counted, count_refused}
use Rattle.rules.specs.Plans.{begin, open_file, commit, abort}
use Rattle.atomicity.specs.Runs.{Configuration, started}
use Rattle.examples.specs.Scripts.{Fact, answers, leaves, played, ended, small}
use Rattle.examples.specs.Examples.{e2}
use Rattle.examples.specs.Refusals.{does}

-- Both files' counts, and 6 for files that there aren't.
abbrev counts : List Fact
counts = leaves 1 (counted 1) ∷ leaves 2 (counted 2) ∷ leaves 0 (count_refused 6) ∷ leaves 3 (count_refused 6) ∷ []

-- "It doesn't fall while a transaction writes": client 1 has written a page of each file, and its commit is cut after so many stores.
-- Then the file is opened: "recovery keep[s] it so".
abbrev commit_cut : Configuration → (budget : ℕ) → Answer → (stores : ℕ) → Bool
commit_cut r budget x n = played r (answers (commit 1) budget x ∷ (counts ++ (does (begin 2) 1 ∷ does (open_file 2 1) n ∷ counts)))

-- All this, and no other count and no other refusal.
abbrev pub spares_hold : Bool
spares_hold =
    let r = ended (started small) e2 in
    played (started small) counts && played r counts
    && commit_cut r 0 (crashed 0) 4 && commit_cut r 1 (crashed 1) 4 && commit_cut r 2 (crashed 2) 1 && commit_cut r 3 (crashed 3) 1
    && commit_cut r 4 (done 4) 1
    && played r (does (abort 1) 3 ∷ counts)
    && not (played (started small) (leaves 1 (counted 2) ∷ [])) && not (played (started small) (leaves 1 (count_refused 1) ∷ []))
    && not (played (started small) (leaves 3 (count_refused 1) ∷ [])) && not (played (started small) (leaves 3 (counted 6) ∷ []))
