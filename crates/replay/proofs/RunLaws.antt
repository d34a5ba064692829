-- One step, performed and noted. And a replay in the middle: what is left to do decides. The run over what is left of the script, from the volume and session that
-- there are now, ends where the whole run ends, and the transcript of what is left completes the transcript.
use mathlib.Core.Path.{◌≡◌, refl, ap, ◌∙◌}
use mathlib.Core.Bool.{Bool, true, false}
use mathlib.Core.List.{List, [], ◌∷◌}
use Prim.Native.Nat.{ℕ, ◌+◌, ◌-◌, ◌≤◌, ◌<◌}
use native.Mathlib.Omega.{arith}
use borrow.Author.Tests.{le-leb, lt-leb, leb-true, leb-false}
use lib.Dec.{leb}
use lib.ListN.{length, drop}
use lib.Seq.{sets}
use Rattle.interface.specs.declared.Session.{Session}
use Rattle.sector.specs.Contents.{Bytes}
use Rattle.volume.specs.Volumes.{Volume}
use Rattle.text.specs.declared.Writer.{Writer}
use Rattle.text.specs.Writes.{HasRoom, Wrote}
use Rattle.lists.proofs.ListLaws.{sets_append}
use Rattle.atomicity.specs.Model.{Model, new_model}
use Rattle.atomicity.specs.Runs.{Step, Configuration, stepped, ran_over}
use Rattle.atomicity.specs.Transcripts.{Event, event_of, events_of}
use Rattle.commands.specs.declared.Command.{Command}
use Rattle.commands.specs.declared.Performed.{Performed}
use Rattle.commands.specs.Commands.{step_of, run_of, IsPerformed}
use Rattle.replay.specs.Scripts.{command_in, step_in, steps}
use Rattle.replay.specs.Transcripts.{entry_of, transcript, entry_length, transcript_length}
use Rattle.replay.specs.Replays.{Left, ran, has_room, run_left}
use Rattle.replay.specs.Walks.{noted, IsAnswer, IsPiece, IsStepped}
use Rattle.replay.proofs.ScriptLaws.{step_data}
use Rattle.replay.proofs.TranscriptLaws.{entry_length_lem, transcript_length_lem, sets_front, IsNoted, is_noted}

-- ------------------------------------------------------------------ one step
-- The step of these bytes was performed by its command c with its data d.
module _ {bytes : Bytes} {v w : Volume} {s : Session} {c : Command} {d : Bytes} {p : Performed}
    (piece : IsPiece bytes) (i : c ≡ command_in bytes) (j : d ≡ drop 8 bytes)
    (h : (m : Model) → IsPerformed (run_of v s m) (step_of c d) p w) where
  step_is : step_in bytes ≡ step_of c d
  step_is = step_data bytes piece ∙ rw (i, j)

  performed : (m : Model) → IsPerformed (run_of v s m) (step_in bytes) p w
  performed m = rw step_is (h m)

  step_noted : (m : Model) → IsNoted (run_of v s m) (step_in bytes) w s c p
  step_noted m = rw step_is (is_noted v w s m c d p (h m))

  pub entry_answer : IsAnswer w s c p.told
  entry_answer = (step_noted new_model).answer

  pub entry_room : (a : Writer) → HasRoom a (entry_length (step_in bytes))
      → HasRoom a (length (entry_of (noted w s c p.told p.session)))
  entry_room a g =
      let e = ap (λ (x : Event). length (entry_of x)) (step_noted new_model).event in
      omega (arith, e, entry_length_lem (run_of v s new_model) (step_in bytes))

  pub is_stepped : {a b : Writer} → Wrote (entry_of (noted w s c p.told p.session)) a b
      → (m : Model) → IsStepped (run_of v s m) (step_in bytes) w p.session a b
  is_stepped g m = record {
    volume = (performed m).volume;
    session = (performed m).session;
    entry = rw (← (step_noted m).event) g;
  }

-- ------------------------------------------------------------------ the steps so far
-- The run r over all of `script`, noted from a on; now there are volume v and session s, `left` are the steps that are left, and what
-- was noted so far led to b.
pub record Going (r : Configuration) (script : Bytes) (a : Writer) (v : Volume) (s : Session) (left : List Step) (b : Writer) : Type 0 where
  pub model : Model
  pub run : ran_over r (steps script) ≡ ran_over (run_of v s model) left
  pub text : sets a.out.now a.at (transcript (events_of r (steps script)))
      ≡ sets b.out.now b.at (transcript (events_of (run_of v s model) left))

pub going_start : (v : Volume) (s : Session) (m : Model) (script : Bytes) {left : List Step} (a : Writer) → steps script ≡ left
    → Going (run_of v s m) script a v s left a
going_start v s m script a e = record { model = m; run = rw e refl; text = rw e refl }

-- A run by its parts.
run_is : (r : Configuration) (w : Volume) (q : Session) → w ≡ r.volume → q ≡ r.session → r ≡ run_of w q r.model
run_is r w q e f = rw (e, f) refl

-- One step more.
module _ {r : Configuration} {script : Bytes} {a : Writer} {v : Volume} {s : Session} {left : List Step} {b : Writer} where
  pub going_more : {w : Volume} {q : Session} {x : Step} {others : List Step} {c : Writer} → Going r script a v s left b
      → left ≡ x ∷ others → ((m : Model) → IsStepped (run_of v s m) x w q b c) → Going r script a w q others c
  going_more {w} {q} {x} {others} g more h =
      let now : Configuration = run_of v s g.model in
      let z = h g.model in
      let e : stepped now x ≡ run_of w q (stepped now x).model = run_is (stepped now x) w q z.volume z.session in
      let d : Bytes = entry_of (event_of now x) in
      record {
        model = (stepped now x).model;
        run = g.run ∙ ap (ran_over now) more ∙ ap (λ (y : Configuration). ran_over y others) e;
        text = g.text
            ∙ ap (λ (xs : List Step). sets b.out.now b.at (transcript (events_of now xs))) more
            ∙ sets_append d (transcript (events_of (stepped now x) others)) b.out.now b.at
            ∙ ap (λ (y : Configuration). sets (sets b.out.now b.at d) (b.at + length d) (transcript (events_of y others))) e
            ∙ rw (z.entry.bytes, z.entry.next);
      }

  -- The last one, where o is what the buffer ends as.
  pub going_end : {o : Bytes} → o ≡ b.out.now → a.at ≡ 0 → Going r script a v s left b → left ≡ []
      → transcript_length (steps script) ≤ length a.out.now
      → ◌≡◌ {A = Left} (record { answer = ran; session = s; volume = v; out = o }) (run_left r script a.out.now)
  unfolding run_left
  going_end is first g none fits =
      let i : ran_over r (steps script) ≡ run_of v s g.model = g.run ∙ rw none in
      let t : sets a.out.now 0 (transcript (events_of r (steps script))) ≡ b.out.now = rw (← first) (g.text ∙ rw none) in
      let f = sets_front a.out.now (transcript (events_of r (steps script))) (omega (arith, transcript_length_lem r (steps script))) in
      rw (is, i, ← f, t)

-- The transcript of the script fits.
pub room_fits : (script : Bytes) (room : ℕ) → has_room script room ≡ true → transcript_length (steps script) ≤ room
unfolding has_room
room_fits script room e = leb-true (transcript_length (steps script)) room e

-- There is room for the entry of the next step, and then for those of the others.
module _ {left others : List Step} {x : Step} (more : left ≡ x ∷ others) where
  pub room_now : (w : Writer) → HasRoom w (transcript_length left) → HasRoom w (entry_length x)
  room_now w h =
      let e = ap transcript_length more in
      omega (arith, e)

  pub room_then : (r : Configuration) {w y : Writer} → Wrote (entry_of (event_of r x)) w y → HasRoom w (transcript_length left)
      → HasRoom y (transcript_length others)
  room_then r a h =
      let e = ap transcript_length more in
      omega (arith, e, a.next, a.size, entry_length_lem r x)

-- ------------------------------------------------------------------ the room that is left
less : (e x left : ℕ) → e ≤ left → leb (e + x) left ≡ leb x (left - e)
less e x left h = go (leb x (left - e)) refl
  where
    go : (b : Bool) → leb x (left - e) ≡ b → leb (e + x) left ≡ b
    go true i = le-leb (e + x) left (omega (arith, leb-true x (left - e) i))
    go false i = lt-leb (e + x) left (omega (arith, leb-false x (left - e) i))

-- Before a step whose entry has e bytes.
module _ {steps others : List Step} {x : Step} {left e : ℕ} (more : steps ≡ x ∷ others) (i : e ≡ entry_length x) where
  pub room_left : e ≤ left → leb (transcript_length steps) left ≡ leb (transcript_length others) (left - e)
  room_left h = rw (more, ← i) (less e (transcript_length others) left h)

  pub room_over : left < e → leb (transcript_length steps) left ≡ false
  room_over h =
      let k = ap transcript_length more in
      lt-leb (transcript_length steps) left (omega (arith, k, i))

pub room_none : (steps : List Step) (left : ℕ) → steps ≡ [] → leb (transcript_length steps) left ≡ true
room_none steps left e = rw e (le-leb 0 left (omega arith))
