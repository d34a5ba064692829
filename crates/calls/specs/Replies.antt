-- What a call hands back, with the volume that it leaves, as the definitions have it.
use Rattle.std.specs.Prelude.{Result, Ok, Err}
use Rattle.interface.specs.declared.Session.{Session}
use Rattle.interface.specs.declared.Reply.{Reply}
use Rattle.interface.specs.Answers.{new_session, done, crashed, answer_of}
use Rattle.volume.specs.Volumes.{Volume}
use Rattle.rules.specs.Calls.{After}
use Rattle.stores.specs.declared.Run.{Run}
use Rattle.stores.specs.declared.Crashed.{Crashed}

-- The reply of a call that left the volume w: its answer, its session, and every byte.
abbrev pub replied : Reply → Volume → After
replied r w = record { answer = answer_of r.outcome; session = r.session; volume = w }

-- A call whose stores ended so; the session is the one that it hands back if it is done.
abbrev pub ended_by : Result Run Crashed → Session → Volume → After
ended_by (Ok r) s w = record { answer = done r.made; session = s; volume = w }
ended_by (Err c) s w = record { answer = crashed c.made; session = new_session; volume = w }
