-- The sector that answers a question lies inside the volume: its slot is one of the file's.
use mathlib.Core.Path.{◌≡◌, refl, sym, subst}
use Prim.Native.Nat.{ℕ, ◌+◌, ◌*◌, ◌≤◌}
use native.Mathlib.Omega.{arith}
use lib.ListN.{length}
use Rattle.std.specs.Prelude.{Result, Ok, Err, IfOk}
use Rattle.interface.specs.declared.Session.{Session}
use Rattle.interface.specs.declared.Refusal.{Refusal}
use Rattle.interface.specs.Answers.{QueryAnswer, found, query_refused, query_answer_of}
use Rattle.volume.specs.Volumes.{Volume, view}
use Rattle.volume.proofs.ReadLaws.{few_sectors, slot_inside}
use Rattle.rules.specs.Plans.{Query, read_page, look_page, entry_for, slot_for}
use Rattle.rules.specs.Content.{decided_slot}
use Rattle.rules.specs.Calls.{query}
use Rattle.rules.proofs.ContentLaws.{decided_below}
use Rattle.rules.proofs.AllowedLaws.{slot_below}
use Rattle.rules.proofs.CallLaws.{query_case}

-- What the answer says of the sector.
abbrev pub Inside : Volume → QueryAnswer → Type 0
Inside v (found n) = (256 * n + 256 ≤ length v) × (n ≤ 65536)
Inside v (query_refused n) = Unit {0}

pub query_inside : (v : Volume) (s : Session) (q : Query) → Inside v (query v s q)
query_inside v s (read_page k f p) = query_case (Inside v) v s (read_page k f p) (λ n e. tt)
    (λ h w e.
    let formed = h.formed in
    let below = slot_below w (entry_for (view v) k f p) refl in
    let inside = slot_inside v formed.tabled f (slot_for (view v) f p (entry_for (view v) k f p)) w.file below in
    (inside, omega (arith, inside, formed.tabled.shaped.size, few_sectors v formed.tabled)))
query_inside v s (look_page f p) = query_case (Inside v) v s (look_page f p) (λ n e. tt)
    (λ h w e.
    let formed = h.formed in
    let inside = slot_inside v formed.tabled f (decided_slot (view v) f p) w.file (decided_below w.laws f p w.file w.page) in
    (inside, omega (arith, inside, formed.tabled.shaped.size, few_sectors v formed.tabled)))

-- So is the one that the program's answer names.
pub answer_inside : (v : Volume) (s : Session) (q : Query) (r : Result ℕ Refusal) → query_answer_of r ≡ query v s q
    → IfOk r (λ n. 256 * n + 256 ≤ length v)
answer_inside v s q (Ok n) e = (subst (Inside v) (sym e) (query_inside v s q)).0
answer_inside v s q (Err r) e = tt
