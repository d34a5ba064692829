-- What a call's reply, or a question's answer, says is what the command's step leaves and answers.
use mathlib.Core.Path.{◌≡◌, refl, ap, ◌∙◌}
use Prim.Native.Nat.{ℕ}
use mathlib.Core.Bool.{Bool}
use Rattle.interface.specs.declared.Session.{Session}
use Rattle.interface.specs.declared.Reply.{Reply}
use Rattle.std.specs.Prelude.{Result}
use Rattle.interface.specs.declared.Refusal.{Refusal}
use Rattle.interface.specs.Answers.{answer_of, query_answer_of}
use Rattle.sector.specs.Contents.{Bytes}
use Rattle.volume.specs.Volumes.{Volume}
use Rattle.rules.specs.Plans.{Call, Query}
use Rattle.rules.specs.Calls.{After, call, query}
use Rattle.calls.specs.Replies.{replied}
use Rattle.atomicity.specs.Model.{Model}
use Rattle.atomicity.specs.Runs.{Step, calls, asks, given, stepped}
use Rattle.atomicity.specs.Transcripts.{of_call, of_query}
use Rattle.script.specs.declared.Action.{Action}
use Rattle.commands.specs.declared.Command.{Command}
use Rattle.commands.specs.declared.Told.{Told}
use Rattle.commands.specs.declared.Performed.{Performed}
use Rattle.commands.specs.Commands.{step_by, step_of, told_of, run_of, IsPerformed}

-- The step by the command's action.
pub step_by_lem : (c : Command) (d : Bytes) (a : Action) → c.action ≡ a → step_of c d ≡ step_by a c d
unfolding step_of
step_by_lem c d a e = ap (λ (b : Action). step_by b c d) e

-- A call that was given session g, left w and replied q.
module _ (v w : Volume) (s g : Session) (m : Model) (p : Performed) where
  pub performed_call : (crash : Bool) (c : Call) (budget : ℕ) (x : Step) (q : Reply) → x ≡ calls crash c budget → g ≡ given crash s
      → replied q w ≡ call v g c budget
      → (told_of p.told ≡ of_call (answer_of q.outcome)) × (p.session ≡ q.session)
      → IsPerformed (run_of v s m) x p w
  unfolding stepped
  performed_call crash c budget x q d e h t =
      let k = rw e at h in
      rw d (record {
        volume = ap (λ (y : After). y.volume) k;
        session = t.1 ∙ ap (λ (y : After). y.session) k;
        answer = t.0 ∙ ap (λ (y : After). of_call y.answer) k;
      })

-- A question leaves what it finds.
pub performed_query : (v : Volume) (s g : Session) (m : Model) (p : Performed) (crash : Bool) (q : Query) (x : Step) (o : Result ℕ Refusal)
    → x ≡ asks crash q → g ≡ given crash s → query_answer_of o ≡ query v g q → p ≡ record { told = Told.Query o; session = s }
    → IsPerformed (run_of v s m) x p v
unfolding stepped
performed_query v s g m p crash q x o d e h t =
    rw (d, t) (record { volume = refl; session = refl; answer = ap of_query (rw e at h) })
