-- Pages of V rewritten in transaction after transaction, from the end of E2: "the first suitable real above the one the map gives
-- for the page, and from 0 again after R − 1".
use Rattle.std.specs.Prelude.{Bool, List, [], ◌∷◌, ◌++◌, ℕ}
use Rattle.interface.specs.Answers.{done, refused}
use Rattle.sector.specs.Contents.{Bytes}
use Rattle.rules.specs.Plans.{begin, open_file, write, commit, read_page}
use Rattle.atomicity.specs.Runs.{started}
use Rattle.examples.specs.Scripts.{Fact, answers, finds, sector_is, decides, played, ended, small}
use Rattle.examples.specs.Examples.{page, record_bytes, header_bytes, e2}

-- Client k begins and opens both files.
abbrev opens : (client : ℕ) → List Fact
opens k = answers (begin k) 255 (done 1) ∷ answers (open_file k 1) 255 (done 1) ∷ answers (open_file k 2) 255 (done 1) ∷ []

-- Client k commits, and these are the maps of the two files then.
abbrev commits : (client : ℕ) → (maps1 maps2 : Bytes) → List Fact
commits k m1 m2 = answers (commit k) 255 (done 4) ∷ sector_is 3 (header_bytes 0 1 m1) ∷ sector_is 7 (header_bytes 0 2 m2) ∷ []

-- Page 0 of file 1 was in slot 2, the last: the search starts at R, and it takes slot 0. Page 0 of file 2 goes from slot 1 to 2.
abbrev second : List Fact
second =
    opens 1
    ++ (answers (write 1 1 0 (page 0xA3)) 255 (done 2)
    ∷ sector_is 4 (page 0xA3) ∷ sector_is 1 (record_bytes 1 1 (0x01 ∷ 0x00 ∷ 0x00 ∷ 0x00 ∷ []))
    ∷ answers (write 1 2 0 (page 0xB3)) 255 (done 2)
    ∷ sector_is 10 (page 0xB3) ∷ sector_is 1 (record_bytes 1 2 (0x01 ∷ 0x00 ∷ 0x00 ∷ 0x00 ∷ 0x02 ∷ 0x00 ∷ 0x02 ∷ 0x00 ∷ []))
    ∷ [])
    ++ commits 1 (0x00 ∷ 0x01 ∷ []) (0x02 ∷ [])

-- One slot of file 1 is free, so page 1 takes slot 2, and page 0 has none left. Page 0 of file 2, in the last slot, goes past R − 1
-- to slot 0, where it was at first: it went round all three.
abbrev third : List Fact
third =
    opens 2
    ++ (answers (write 2 1 1 (page 0xA4)) 255 (done 2)
    ∷ sector_is 6 (page 0xA4)
    ∷ answers (write 2 1 0 (page 0xA5)) 255 (refused 11)
    ∷ answers (write 2 2 0 (page 0xB4)) 255 (done 2)
    ∷ sector_is 8 (page 0xB4)
    ∷ [])
    ++ commits 2 (0x00 ∷ 0x02 ∷ []) (0x00 ∷ [])

-- Page 1 of file 1 is in the last slot and slot 0 is taken, so it goes past R − 1 to slot 1. File 2 begins anew.
abbrev fourth : List Fact
fourth =
    opens 1
    ++ (answers (write 1 1 1 (page 0xA6)) 255 (done 2)
    ∷ finds (read_page 1 1 1) 5 (page 0xA6)
    ∷ answers (write 1 2 0 (page 0xB6)) 255 (done 2)
    ∷ finds (read_page 1 2 0) 9 (page 0xB6)
    ∷ [])
    ++ commits 1 (0x00 ∷ 0x01 ∷ []) (0x01 ∷ [])
    ++ (decides 1 0 (page 0xA3) ∷ decides 1 1 (page 0xA6) ∷ decides 2 0 (page 0xB6) ∷ [])

-- The commit of E5, and the three transactions after it.
abbrev pub rewrites_hold : Bool
rewrites_hold = played (ended (started small) e2) (commits 1 (0x02 ∷ 0x01 ∷ []) (0x01 ∷ []) ++ second ++ third ++ fourth)
