-- All or none for what `format_and_replay` leaves: where the script was run, the transcript says what the definitions' run says,
-- and that agrees with the model that is fed with it.
use mathlib.Core.Path.{◌≡◌, refl, sym, ap, subst}
use mathlib.Core.Bool.{Bool, true, false}
use mathlib.Core.List.{List, [], ◌∷◌}
use Prim.Native.Nat.{ℕ, zero, suc}
use lib.ListN.{length, take, drop}
use Rattle.std.specs.Prelude.{Result, Ok, Err, ⊤}
use Rattle.interface.specs.declared.Refusal.{Refusal}
use Rattle.replay.specs.declared.ReplayError.{ReplayError}
use Rattle.interface.specs.declared.Session.{Session}
use Rattle.interface.specs.Answers.{new_session, FormatAnswer, format_done, format_refused}
use Rattle.lists.specs.Lists.{when◌then◌else◌}
use Rattle.sector.specs.Contents.{Bytes, Table}
use Rattle.volume.specs.Volumes.{Volume}
use Rattle.volume.specs.Format.{Formatted, table_for, format}
use Rattle.format.specs.Outcomes.{formatted}
use Rattle.atomicity.specs.Model.{new_model}
use Rattle.atomicity.specs.Runs.{Step, Configuration, started, stepped, ran_over}
use Rattle.atomicity.specs.Transcripts.{event_of, events_of, SaidAgrees}
use Rattle.atomicity.proofs.TranscriptLaws.{transcripts_agree}
use Rattle.replay.specs.Scripts.{steps}
use Rattle.replay.specs.Transcripts.{transcript, events_in}
use Rattle.replay.specs.declared.Replayed.{Replayed}
use Rattle.replay.specs.Replays.{Left, no_room, ran, left_by, replay_answer_of, has_room, run_left, run_formatted, formatted_and_run, AllOrNoneFor, WhereRun}
use Rattle.replay.proofs.BackLaws.{new_four, events_back}

-- The first steps say what they say in the whole list.
events_take : (r : Configuration) (xs : List Step) (n : ℕ) → events_of r (take n xs) ≡ take n (events_of r xs)
events_take r [] zero = refl
events_take r [] (suc n) = refl
events_take r (x ∷ xs) zero = refl
events_take r (x ∷ xs) (suc n) = ap (◌∷◌ (event_of r x)) (events_take (stepped r x) xs n)

-- What is claimed of what was left.
abbrev pub Claimed : Table → (script : Bytes) → Left → Type 0
Claimed t script x = WhereRun x.answer (AllOrNoneFor t script x.volume x.out)

module _ (v : Volume) (T : ℕ) (l script out : Bytes) where
  ran_claim : (format v T l).answer ≡ format_done → AllOrNoneFor (table_for (length v) T l) script
      (run_left (started (format v T l).volume) script out).volume (run_left (started (format v T l).volume) script out).out
  unfolding run_left
  ran_claim d =
      let r : Configuration = started (format v T l).volume in
      let xs : List Step = steps script in
      rw (events_back r xs (drop (length (transcript (events_of r xs))) out) new_four) (transcripts_agree v T l d xs)

  -- So it is after each step: of the first n steps, what the transcript says of them, and the volume that they leave.
  pub after_each_step : (format v T l).answer ≡ format_done → (n : ℕ)
      → let r = started (format v T l).volume in
      let xs = steps script in
      SaidAgrees (table_for (length v) T l) new_model new_session (take n xs) (take n (events_in xs (run_left r script out).out)) (ran_over r (take n xs)).volume
  unfolding run_left
  after_each_step d n =
      let r : Configuration = started (format v T l).volume in
      let xs : List Step = steps script in
      rw (events_back r xs (drop (length (transcript (events_of r xs))) out) new_four, ← events_take r xs n) (transcripts_agree v T l d (take n xs))

  formatted_claim : (a : FormatAnswer) → (format v T l).answer ≡ a
      → Claimed (table_for (length v) T l) script (run_formatted a (format v T l).volume script out)
  unfolding run_left
  formatted_claim format_done d = ran_claim d
  formatted_claim (format_refused n) d = tt

  -- For every array, clients, shape, script and buffer.
  pub replay_all_or_none : Claimed (table_for (length v) T l) script (formatted_and_run v T l script out)
  replay_all_or_none = go (has_room script (length out))
    where
      go : (b : Bool) → Claimed (table_for (length v) T l) script
          (when b then run_formatted (format v T l).answer (format v T l).volume script out else record { answer = no_room; session = new_session; volume = v; out = out })
      go true = formatted_claim (format v T l).answer refl
      go false = tt

  -- What was left is what the definition says, and so all or none is claimed of it.
  pub claimed : (x : Replayed) (w out' : Bytes) → left_by x w out' ≡ formatted_and_run v T l script out
      → (left_by x w out' ≡ formatted_and_run v T l script out)
      × WhereRun (replay_answer_of x.ended) (AllOrNoneFor (table_for (length v) T l) script w out')
  claimed x w out' e = (e, subst (Claimed (table_for (length v) T l) script) (sym e) replay_all_or_none)

  -- The ways in which it ends: the format was refused, or the script was run on what it left.
  module _ (o : Result ⊤ Refusal) (w : Volume) (f : formatted o w ≡ format v T l) (room : has_room script (length out) ≡ true) where
    pub not_formatted_lem : (x : Refusal) → o ≡ Err x
        → left_by (record { ended = Err (ReplayError.NotFormatted x); session = new_session }) w out ≡ formatted_and_run v T l script out
    not_formatted_lem x e = rw (room, ← f, e)

    pub run_formatted_lem : (q : Session) (w' out' : Bytes) → o ≡ Ok tt
        → record { answer = ran; session = q; volume = w'; out = out' } ≡ run_left (started w) script out
        → left_by (record { ended = Ok tt; session = q }) w' out' ≡ formatted_and_run v T l script out
    run_formatted_lem q w' out' e g = rw (room, ← f, e) g

  -- So it is where the format was done, and then the script was run on what it left.
  pub run_claimed : {w : Volume} {q : Session} {w' out' : Bytes} → formatted (Ok tt) w ≡ format v T l
      → ◌≡◌ {A = Left} (record { answer = ran; session = q; volume = w'; out = out' }) (run_left (started w) script out)
      → AllOrNoneFor (table_for (length v) T l) script w' out'
  unfolding run_left
  run_claimed {w} f e =
      let i : w ≡ (format v T l).volume = ap (λ (x : Formatted). x.volume) f in
      let d : (format v T l).answer ≡ format_done = sym (ap (λ (x : Formatted). x.answer) f) in
      subst (Claimed (table_for (length v) T l) script) (sym (rw i at e)) (ran_claim d)
