-- What a list of calls says and leaves agrees with the model that is fed with it: by induction over the list, since the model of
-- a run is fed the same arguments and answers.
use mathlib.Core.List.{List, [], ◌∷◌}
use Rattle.interface.specs.declared.Session.{Session}
use Rattle.interface.specs.Answers.{QueryAnswer, found, query_refused}
use Rattle.sector.specs.Contents.{Table}
use Rattle.volume.specs.Volumes.{Volume}
use Rattle.volume.specs.Format.{table_for, format}
use Rattle.rules.specs.Calls.{query, part_of, query_part}
use Rattle.rules.specs.Plans.{Query}
use lib.ListN.{length}
use Rattle.atomicity.specs.Model.{Model, shown}
use Rattle.atomicity.specs.Runs.{Step, calls, asks, Configuration, started, given, stepped, ran_over}
use Rattle.atomicity.specs.AllOrNone.{QueryAgrees, Agrees}
use Rattle.atomicity.specs.Transcripts.{of_query, ShowsPage, events_of, SaidAgrees, TranscriptsAgree}
use Rattle.atomicity.proofs.Theorem.{all_or_none}

-- A question that agrees shows the page.
query_shows : (v : Volume) (s : Session) (m : Model) (q : Query) (x : QueryAnswer) → QueryAgrees v s m q x
    → ShowsPage (shown m q) (of_query x) (part_of v x) (query_part v s q)
query_shows v s m q (found n) h = h
query_shows v s m q (query_refused n) h = tt

pub agrees_said : (t : Table) (r : Configuration) (xs : List Step) → Agrees t r xs
    → SaidAgrees t r.model r.session xs (events_of r xs) (ran_over r xs).volume
unfolding stepped
agrees_said t r [] h = h
agrees_said t r (calls crash c budget ∷ xs) h = (tt, agrees_said t (stepped r (calls crash c budget)) xs h.2)
agrees_said t r (asks crash q ∷ xs) h =
    let s = given crash r.session in
    (query_shows r.volume s r.model q (query r.volume s q) h.1, agrees_said t r xs h.2)

pub transcripts_agree : TranscriptsAgree
transcripts_agree v T l d xs = agrees_said (table_for (length v) T l) (started (format v T l).volume) xs (all_or_none v T l d xs)
