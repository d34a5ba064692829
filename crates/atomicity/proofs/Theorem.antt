-- All or none: whatever calls are made, with whatever budgets and crashes between them, the decided content of every file is
-- what the model says, and every read and look that isn't refused hands back what the model shows for it.
-- It holds from any volume, session and model that are related, so from any volume with the content that it has, and from a
-- formatted one with every page zero. Each step keeps the relation, and the relation has the claim in it.
use mathlib.Core.Path.{◌≡◌, refl, ap, ◌∙◌}
use mathlib.Core.Bool.{Bool, true, false}
use mathlib.Core.List.{List, [], ◌∷◌}
use Prim.Native.Nat.{ℕ, ◌+◌, ◌<◌}
use native.Mathlib.Omega.{arith}
use lib.ListN.{length, get_or, replicate}
use Rattle.interface.specs.declared.Session.{Session}
use Rattle.interface.specs.Answers.{new_session, format_done}
use Rattle.sector.specs.Contents.{Bytes, Table, Header, new_header}
use Rattle.lists.proofs.SearchLaws.{from_at}
use Rattle.volume.specs.Places.{file_at}
use Rattle.volume.specs.Views.{View}
use Rattle.volume.specs.Volumes.{Volume, view}
use Rattle.volume.specs.Format.{table_for, new_volume, format}
use Rattle.volume.proofs.PlaceLaws.{IsFile}
use Rattle.volume.proofs.LawfulLaws.{TableFacts, file_facts}
use Rattle.volume.proofs.FormatLaws.{new_table, new_header_lem, new_slot, FormatFacts, format_done_lem}
use Rattle.rules.specs.Content.{decided_content}
use Rattle.rules.proofs.ContentLaws.{unheld_map}
use Rattle.atomicity.specs.Model.{no_pending, Model, new_model}
use Rattle.atomicity.specs.Runs.{Step, calls, asks, Configuration, started, given, stepped, ran_over}
use Rattle.atomicity.specs.AllOrNone.{ContentAgrees, StepAgrees, Agrees, AllOrNone}
use Rattle.atomicity.proofs.RelationLaws.{Matches, new_matches}
use Rattle.atomicity.proofs.StepLaws.{call_matches, call_table, query_matches}

-- Volume and session are related to the model, and the volume's table is t.
pub record Related (t : Table) (r : Configuration) : Type 0 where
  pub table : (view r.volume).table ≡ t
  pub matches : Matches (view r.volume) r.session r.model

-- ------------------------------------------------------------------ every list of steps
pub given_matches : (a : View) (s : Session) (m : Model) (crash : Bool) → Matches a s m → Matches a (given crash s) m
given_matches a s m true h = new_matches a m h.pages
given_matches a s m false h = h

content_agrees : (t : Table) (r : Configuration) → Related t r → ContentAgrees t r
content_agrees t r h f p lo hi lt = h.matches.pages f p (rw h.table (record { low = lo; high = hi })) (rw h.table lt)

module _ {t : Table} {r : Configuration} (h : Related t r) where
  step_agrees : (x : Step) → StepAgrees r x
  step_agrees (calls crash c budget) = tt
  step_agrees (asks crash q) = query_matches r.volume (given crash r.session) r.model (given_matches _ _ _ crash h.matches) q

  pub step_related : (x : Step) → Related t (stepped r x)
  unfolding stepped
  step_related (calls crash c budget) = record {
    table = call_table r.volume (given crash r.session) c budget ∙ h.table;
    matches = call_matches r.volume (given crash r.session) r.model (given_matches _ _ _ crash h.matches) c budget;
  }
  step_related (asks crash q) = h

pub ran_related : {t : Table} {r : Configuration} → Related t r → (steps : List Step) → Related t (ran_over r steps)
ran_related h [] = h
ran_related {r = r} h (x ∷ xs) = ran_related {r = stepped r x} (step_related h x) xs

-- From any start that is related.
pub agrees : (t : Table) (r : Configuration) (steps : List Step) → Related t r → Agrees t r steps
agrees t r [] h = content_agrees t r h
agrees t r (x ∷ xs) h = (content_agrees t r h, step_agrees h x, agrees t (stepped r x) xs (step_related h x))

-- A volume with the decided content that it has, and a new session.
abbrev pub started_as : Volume → Configuration
started_as v = record {
  volume = v;
  session = new_session;
  model = record { pages = decided_content (view v); pending = λ k. no_pending };
}

pub started_related : (v : Volume) → Related (view v).table (started_as v)
started_related v = record { table = refl; matches = new_matches (view v) _ (λ f p i lt. refl) }

pub agrees_from : (v : Volume) (steps : List Step) → Agrees (view v).table (started_as v) steps
agrees_from v steps = agrees (view v).table (started_as v) steps (started_related v)

-- ------------------------------------------------------------------ from a formatted volume
-- Page p is in slot p, and every slot is zero.
new_content : (t : Table) → TableFacts t → (f p : ℕ) → IsFile t f → p < (file_at t f).pages
    → decided_content (view (new_volume t)) f p ≡ replicate 256 0
new_content t facts f p i lt =
    let a : View = view (new_volume t) in
    let header : a.headers f ≡ new_header (file_at t f) = new_header_lem t facts f i in
    ap (λ (m : List ℕ). a.slots f (get_or m p 0)) (unheld_map a f (ap (λ (h : Header). h.holder) header))
    ∙ ap (λ (h : Header). a.slots f (get_or h.map p 0)) header
    ∙ rw (from_at (file_at t f).pages 0 p lt) (new_slot t facts f (0 + p) i (omega (arith, (file_facts facts f i).room)))

new_related : (t : Table) → TableFacts t → Related t (started (new_volume t))
new_related t facts = record {
  table = new_table t facts;
  matches = new_matches (view (new_volume t)) new_model
      (λ f p i lt. new_content t facts f p (rw (new_table t facts) at i) (rw (new_table t facts) at lt));
}

pub format_related : (v : Volume) (T : ℕ) (l : Bytes) → (format v T l).answer ≡ format_done
    → Related (table_for (length v) T l) (started (format v T l).volume)
format_related v T l d =
    let x : FormatFacts (table_for (length v) T l) (format v T l).volume = format_done_lem v T l d in
    rw x.volume (new_related (table_for (length v) T l) x.facts)

pub all_or_none : AllOrNone
all_or_none v T l d steps = agrees (table_for (length v) T l) (started (format v T l).volume) steps (format_related v T l d)
