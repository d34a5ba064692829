-- A call or a question given a session by C, in its two cases: one with four marks, and one with other bits.
use mathlib.Core.Path.{◌≡◌, sym, ap, ◌∙◌}
use Prim.Native.Nat.{ℕ, ◌≤◌, ◌<◌}
use borrow.Author.Tests.{lt-ltb, le-ltb}
use Rattle.interface.specs.declared.Session.{Session}
use Rattle.interface.specs.declared.Reply.{Reply}
use Rattle.std.specs.Prelude.{Result}
use Rattle.interface.specs.declared.Refusal.{Refusal}
use Rattle.interface.specs.Answers.{answer_of, query_answer_of}
use Rattle.volume.specs.Volumes.{Volume}
use Rattle.rules.specs.Plans.{Call, Query}
use Rattle.rules.specs.Calls.{call, query}
use Rattle.calls.specs.Replies.{replied}
use Rattle.capi.specs.declared.VolSession.{VolSession}
use Rattle.capi.specs.declared.VolReply.{VolReply}
use Rattle.capi.specs.declared.VolAnswer.{VolAnswer}
use Rattle.capi.specs.Passing.{session_from, passed_session, passed_answer, passed_query, other_bits_refused, reply_with, Passed, passed_after, called_by, asked_by}

-- Other bits: the reply says so, and the volume is as it was.
pub refused_bits : (v : Volume) (c : VolSession) (x : Call) (budget : ℕ) (y : VolReply) → 15 < c.active
    → y ≡ reply_with c (other_bits_refused v) → ◌≡◌ {A = Passed} (record { reply = y; volume = v }) (called_by v c x budget)
unfolding called_by
refused_bits v c x budget y h e = rw (lt-ltb _ _ h, e)

-- Four marks: the call's reply, and the volume that the call leaves.
pub passed_call : (v w : Volume) (c : VolSession) (s : Session) (x : Call) (budget : ℕ) (r : Reply) (y : VolReply) → c.active ≤ 15
    → s ≡ session_from c → replied r w ≡ call v s x budget → y ≡ reply_with (passed_session r.session) (passed_answer (answer_of r.outcome))
    → ◌≡◌ {A = Passed} (record { reply = y; volume = w }) (called_by v c x budget)
unfolding called_by
passed_call v w c s x budget r y h i e p = rw (le-ltb _ _ h, p, sym i) (ap passed_after e)

-- The same for a question.
pub refused_bits_query : (v : Volume) (c : VolSession) (q : Query) (y : VolAnswer) → 15 < c.active → y ≡ other_bits_refused v → y ≡ asked_by v c q
unfolding asked_by
refused_bits_query v c q y h e = rw (lt-ltb _ _ h) e

pub passed_query_lem : (v : Volume) (c : VolSession) (s : Session) (q : Query) (r : Result ℕ Refusal) (y : VolAnswer) → c.active ≤ 15
    → s ≡ session_from c → query_answer_of r ≡ query v s q → y ≡ passed_query (query_answer_of r) → y ≡ asked_by v c q
unfolding asked_by
passed_query_lem v c s q r y h i e p = rw (le-ltb _ _ h, sym i) (p ∙ ap passed_query e)
