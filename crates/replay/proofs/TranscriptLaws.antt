-- The entries of a transcript: how long each is, whatever a step says, and that what is noted of a command is what its step says.
use mathlib.Core.Path.{◌≡◌, refl, sym, ap, subst, ◌∙◌}
use mathlib.Core.List.{List, [], ◌∷◌, ◌++◌, append-nil}
use Prim.Native.Nat.{ℕ, ◌+◌, ◌*◌, ◌-◌, ◌≤◌}
use native.Mathlib.Omega.{arith}
use lib.ListN.{length, take, drop, length-append, length-take, replicate}
use lib.Seq.{sets, sets-eq}
use Rattle.std.specs.Prelude.{Result, Ok, Err}
use Rattle.interface.specs.declared.Session.{Session}
use Rattle.interface.specs.declared.Refusal.{Refusal}
use Rattle.interface.specs.declared.Outcome.{Outcome}
use Rattle.interface.specs.Answers.{Answer, done, crashed, refused, QueryAnswer, found, query_refused, refusal_number, answer_of, query_answer_of}
use Rattle.sector.specs.Contents.{Bytes}
use Rattle.sector.specs.Sectors.{sector, word, padded}
use Rattle.volume.specs.Volumes.{Volume}
use Rattle.sector.proofs.CodecLaws.{padded_length}
use Rattle.sector.proofs.SectorLaws.{sector_length}
use Rattle.calls.proofs.PageLaws.{Inside, query_inside}
use Rattle.rules.specs.Plans.{Call, Query}
use Rattle.rules.specs.Calls.{query, part_of, query_part}
use Rattle.text.specs.Writes.{at_front}
use Rattle.atomicity.specs.Model.{Model}
use Rattle.atomicity.specs.Runs.{Step, calls, asks, Configuration, given, stepped}
use Rattle.atomicity.specs.Transcripts.{StepAnswer, of_call, of_query, event_of, events_of}
use Rattle.script.specs.declared.Action.{Action}
use Rattle.commands.specs.declared.Command.{Command}
use Rattle.commands.specs.declared.Told.{Told}
use Rattle.commands.specs.declared.Performed.{Performed}
use Rattle.commands.specs.Commands.{query_of, step_by, step_of, told_of, run_of, IsPerformed}
use Rattle.commands.proofs.CommandLaws.{step_by_lem}
use Rattle.replay.specs.Scripts.{command_in, step_in}
use Rattle.replay.specs.Transcripts.{head_bytes, answer_bytes, entry_of, transcript, entry_length, transcript_length}
use Rattle.replay.specs.Walks.{action_length, noted, IsAnswer}

-- ------------------------------------------------------------------ lengths
head_length : (k n : ℕ) (s : Session) → length (head_bytes k n s) ≡ 12
unfolding head_bytes
head_length k n s = refl

pub answer_length : (x : StepAnswer) (s : Session) → length (answer_bytes x s) ≡ 12
answer_length (of_call (done n)) s = head_length 0 n s
answer_length (of_call (crashed n)) s = head_length 1 n s
answer_length (of_call (refused n)) s = head_length 2 n s
answer_length (of_query (found n)) s = head_length 3 n s
answer_length (of_query (query_refused n)) s = head_length 2 n s

part_length : (v : Volume) (x : QueryAnswer) → length (part_of v x) ≤ 256
unfolding sector
part_length v (found n) = omega (arith, length-take 256 (drop (256 * n) v))
part_length v (query_refused n) = omega arith

pub call_length : (x : Answer) (s : Session) (b d : Bytes)
    → length (entry_of (record { answer = of_call x; session = s; bytes = b; part = d })) ≡ 12
unfolding entry_of
call_length x s b d = length-append (answer_bytes (of_call x) s) [] ∙ omega (arith, answer_length (of_call x) s)

pub query_length : (x : QueryAnswer) (s : Session) (b d : Bytes) → length b ≤ 256 → length d ≤ 256
    → length (entry_of (record { answer = of_query x; session = s; bytes = b; part = d })) ≡ 524
unfolding entry_of
query_length x s b d h g =
    length-append (answer_bytes (of_query x) s) (padded b ++ padded d)
    ∙ omega (arith, answer_length (of_query x) s, length-append (padded b) (padded d), padded_length b h, padded_length d g)

pub entry_length_lem : (r : Configuration) (x : Step) → length (entry_of (event_of r x)) ≡ entry_length x
entry_length_lem r (calls crash c budget) = call_length _ _ [] []
entry_length_lem r (asks crash q) =
    let a = query r.volume (given crash r.session) q in
    query_length a r.session (part_of r.volume a) (part_of r.volume a) (part_length r.volume a) (part_length r.volume a)

pub transcript_length_lem : (r : Configuration) (xs : List Step) → length (transcript (events_of r xs)) ≡ transcript_length xs
transcript_length_lem r [] = refl
transcript_length_lem r (x ∷ xs) =
    length-append (entry_of (event_of r x)) (transcript (events_of (stepped r x) xs))
    ∙ omega (arith, entry_length_lem r x, transcript_length_lem (stepped r x) xs)

-- A text that fits stands at the front.
pub sets_front : (out d : Bytes) → length d ≤ length out → sets out 0 d ≡ at_front d out
sets_front out d h =
    let z : 0 + length d ≡ length d = omega arith in
    sets-eq d out 0 (omega arith) ∙ rw z

-- A sector needs no padding.
pub padded_page : (l : Bytes) → length l ≡ 256 → padded l ≡ l
unfolding padded
padded_page l h =
    let z : 256 - length l ≡ 0 = omega arith in
    rw z (append-nil l)

-- ------------------------------------------------------------------ what is noted of a command
noted_call : (v : Volume) (s : Session) (c : Command) (t : Told) (q : Session) (x : Answer) → told_of t ≡ of_call x
    → noted v s c t q ≡ record { answer = of_call x; session = q; bytes = []; part = [] }
noted_call v s c (Told.Call o) q x e = rw e
noted_call v s c (Told.Query o) q x e = cc

noted_query : (v : Volume) (s : Session) (c : Command) (t : Told) (q : Session) (x : QueryAnswer) → told_of t ≡ of_query x
    → noted v s c t q ≡ record {
      answer = of_query x;
      session = q;
      bytes = part_of v x;
      part = query_part v (given c.crash s) (query_of c);
    }
noted_query v s c (Told.Query o) q x e =
    let a : query_answer_of o ≡ x = cc in
    rw a
noted_query v s c (Told.Call o) q x e = cc

is_answer : (v : Volume) (s : Session) (c : Command) (t : Told)
    → told_of t ≡ of_query (query v (given c.crash s) (query_of c)) → IsAnswer v s c t
is_answer v s c (Told.Query o) e = cc
is_answer v s c (Told.Call o) e = tt

any_call : (v : Volume) (s : Session) (c : Command) (t : Told) (x : Answer) → told_of t ≡ of_call x → IsAnswer v s c t
any_call v s c (Told.Call o) x e = tt
any_call v s c (Told.Query o) x e = absurd (clash (cc))
  where
    clash : ◌≡◌ {A = ℕ} 0 1 → ⊥
    clash h = omega arith

-- What is noted of a command that was performed is what its step says, and the answer is the one to what it asks.
pub record IsNoted (r : Configuration) (x : Step) (w : Volume) (s : Session) (c : Command) (p : Performed) : Type 0 where
  pub event : noted w s c p.told p.session ≡ event_of r x
  pub answer : IsAnswer w s c p.told

module _ (v w : Volume) (s : Session) (m : Model) (c : Command) (d : Bytes) (p : Performed) where
  call_noted : (x : Call) (budget : ℕ) → IsPerformed (run_of v s m) (calls c.crash x budget) p w
      → IsNoted (run_of v s m) (calls c.crash x budget) w s c p
  unfolding stepped
  call_noted x budget h = record {
    event = noted_call w s c p.told p.session _ h.answer ∙ rw h.session;
    answer = any_call w s c p.told _ h.answer;
  }

  query_noted : (q : Query) → query_of c ≡ q → IsPerformed (run_of v s m) (asks c.crash q) p w → IsNoted (run_of v s m) (asks c.crash q) w s c p
  unfolding stepped
  query_noted q is h = record {
    event = noted_query w s c p.told p.session _ h.answer ∙ rw (h.session, h.volume, is);
    answer = is_answer w s c p.told (rw (h.volume, is) h.answer);
  }

  by_action : (a : Action) → c.action ≡ a → IsPerformed (run_of v s m) (step_by a c d) p w → IsNoted (run_of v s m) (step_by a c d) w s c p
  by_action Action.Begin e h = call_noted _ _ h
  by_action Action.Open e h = call_noted _ _ h
  by_action Action.OpenRead e h = call_noted _ _ h
  by_action Action.Write e h = call_noted _ _ h
  by_action Action.Commit e h = call_noted _ _ h
  by_action Action.Abort e h = call_noted _ _ h
  by_action Action.Read e h = query_noted _ (rw e) h
  by_action Action.Look e h = query_noted _ (rw e) h

  pub is_noted : IsPerformed (run_of v s m) (step_of c d) p w → IsNoted (run_of v s m) (step_of c d) w s c p
  is_noted h = rw (step_by_lem c d c.action refl) (by_action c.action refl (rw (step_by_lem c d c.action refl) at h))

-- ------------------------------------------------------------------ entries in code
-- What was told, and the room that its entry takes.
module _ (v : Volume) (s : Session) (c : Command) (t : Told) (q : Session) where
  pub call_entry : (o : Result Outcome Refusal) → t ≡ Told.Call o → answer_bytes (of_call (answer_of o)) q ≡ entry_of (noted v s c t q)
  unfolding entry_of
  call_entry o e = rw e (sym (append-nil (answer_bytes (of_call (answer_of o)) q)))

  pub call_room : (o : Result Outcome Refusal) → t ≡ Told.Call o → length (entry_of (noted v s c t q)) ≡ 12
  call_room o e = rw e (call_length (answer_of o) q [] [])

  pub query_room : (o : Result ℕ Refusal) → t ≡ Told.Query o → length (entry_of (noted v s c t q)) ≡ 524
  query_room o e = rw e (query_length (query_answer_of o) q _ _ (part_length v (query_answer_of o)) (part_length v (query v (given c.crash s) (query_of c))))

  pub query_answer : (o : Result ℕ Refusal) → t ≡ Told.Query o → IsAnswer v s c t
      → query_answer_of o ≡ query v (given c.crash s) (query_of c)
  query_answer o e a = rw e at a

by_length : (a : Action) (c : Command) (d : Bytes) → action_length a ≡ entry_length (step_by a c d)
by_length Action.Begin c d = refl
by_length Action.Open c d = refl
by_length Action.OpenRead c d = refl
by_length Action.Write c d = refl
by_length Action.Commit c d = refl
by_length Action.Abort c d = refl
by_length Action.Read c d = refl
by_length Action.Look c d = refl

-- The entry of the step at the front, by its command.
step_entry : (l : Bytes) → action_length (command_in l).action ≡ entry_length (step_in l)
unfolding step_in step_of
step_entry l = by_length (command_in l).action (command_in l) (take (word l 6) (drop 8 l))

-- The length of the entry of the first step, as it is computed from the step's command.
pub entry_is : (l : Bytes) {c : Command} {e : ℕ} → c ≡ command_in l → e ≡ action_length c.action → e ≡ entry_length (step_in l)
entry_is l i j = j ∙ ap (λ (c : Command). action_length c.action) i ∙ step_entry l

-- A question's entry, by its outcome.
module _ (v : Volume) (s : Session) (c : Command) (o : Result ℕ Refusal) (q : Session)
    (a : query_answer_of o ≡ query v (given c.crash s) (query_of c)) where
  pub refused_entry : (r : Refusal) → o ≡ Err r
      → head_bytes 2 (refusal_number r) q ++ (padded [] ++ padded []) ≡ entry_of (noted v s c (Told.Query o) q)
  unfolding entry_of
  refused_entry r e = rw (← a, e)

  pub inside_found : (n : ℕ) → o ≡ Ok n → (256 * n + 256 ≤ length v) × (n ≤ 65536)
  inside_found n e = subst (Inside v) (sym a ∙ ap query_answer_of e) (query_inside v (given c.crash s) (query_of c))

  pub found_entry : (n : ℕ) → o ≡ Ok n
      → head_bytes 3 n q ++ (sector v n ++ query_part v (given c.crash s) (query_of c)) ≡ entry_of (noted v s c (Told.Query o) q)
  unfolding entry_of
  found_entry n e =
      let size : length (sector v n) ≡ 256 = sector_length v n (inside_found n e).0 in
      rw (← a, e, padded_page (sector v n) size)

pub shown_length : (v : Volume) (s : Session) (q : Query) → length (query_part v s q) ≤ 256
shown_length v s q = part_length v (query v s q)

-- Zeros for two empty pages.
pub zero_pages : replicate 512 0 ≡ padded [] ++ padded []
unfolding padded
zero_pages = refl
