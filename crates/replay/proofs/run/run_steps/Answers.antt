-- `run_steps` meets its contract: the steps that are left decide, from the volume, session and transcript that there are.
use mathlib.Core.Path.{◌≡◌, refl, sym, ap, ◌∙◌}
use mathlib.Core.List.{map}
use native.Mathlib.Omega.{arith}
use borrow.Author.Rules.{rules}
use Rattle.atomicity.specs.Model.{new_model}
use Rattle.commands.specs.Commands.{run_of}
use Rattle.replay.specs.Scripts.{step_in, steps}
use Rattle.replay.specs.Transcripts.{transcript_length}
use Rattle.replay.specs.Walks.{pieces, pieces_left}
use Rattle.replay.proofs.ScriptLaws.{first_piece, steps_are}
use Rattle.replay.proofs.RunLaws.{going_start, going_more, going_end, room_now, room_then}
use Rattle.replay.proofs.run.run_steps.Goals as goal

pub loop-bytes-init : goal.loop-bytes-init
loop-bytes-init c =
    let all : pieces_left c.into_iter-bytes-iterator.result ≡ pieces c.args.script.now = ap pieces_left c.into_iter-bytes-iterator.ensures.into_iter_gives ∙ c.of-bytes-items.ensures in
    let left : steps c.args.script.now ≡ map step_in (pieces_left c.into_iter-bytes-iterator.result) = steps_are c.args.script.now ∙ ap (map step_in) (sym all) in
    record {
      going = λ m. going_start c.args.v.now c.args.s m c.args.script.now _ left;
      room = omega (arith, c.requires, ap transcript_length left);
      same = refl;
      volume = refl;
    }

pub step-last-requires : goal.step-last-requires
step-last-requires c =
    let more = c.in-Some.ensures.steps in
    (first_piece _ more, room_now (ap (map step_in) more) c.loop-bytes.w c.loop-bytes.invariant.room)

pub loop-bytes-preserved : goal.loop-bytes-preserved
loop-bytes-preserved c =
    let i = c.loop-bytes in
    let more = ap (map step_in) c.in-Some.ensures.steps in
    let e = (c.step-last.ensures new_model).entry in
    record {
      going = λ m. going_more (i.invariant.going m) more c.step-last.ensures;
      room = room_then more (run_of i.v i.last new_model) e i.invariant.room;
      same = e.same ∙ i.invariant.same;
      volume = search rules;
    }

pub returns : goal.returns
returns c =
    λ m. going_end (search rules) refl (c.loop-bytes.invariant.going m) (ap (map step_in) c.in-None.ensures.steps.0) c.requires
