-- `decided_slot` meets its contract: on a sound volume, which is well-formed, who holds the file is a client; where that client is
-- decided, the entry of its record decides.
use Rattle.std.proofs.Common.{◌∙◌, sym}
use borrow.Author.Tests.{eq-eqb}
use Rattle.slots.proofs.LookLaws.{sound_laws, holder_client}
use Rattle.rules.proofs.ContentLaws.{decided_finds}
use Rattle.slots.proofs.decided_slot.Goals as goal

pub client-c-requires : goal.client-c-requires
client-c-requires c =
    let x = c.file-x.ensures in
    let holder = rw (x.1, x.0, c.tabled.ensures, c.formed.ensures) at c.holder-k.ensures in
    rw c.formed-2.ensures (holder_client c.args.v.bytes.now c.args.v.sound c.requires.file holder c.if-k-eq0.false)

pub returns : goal.returns
returns c =
    let x = c.file-x.ensures in
    let k = c.client-c.ensures in
    let holder = rw (x.1, x.0, c.tabled.ensures, c.formed.ensures) at c.holder-k.ensures in
    let state = rw (k.1, k.0, c.formed-2.ensures, holder) at c.state.ensures in
    let slot = rw (k.1, k.0, c.formed-2.ensures, holder) at c.read_slot.ensures in
    let found = decided_finds (sound_laws c.args.v.bytes.now c.args.v.sound) c.args.f c.args.p c.requires.file
    (rw holder at c.if-k-eq0.false) (eq-eqb _ 2 (sym state ∙ c.if-state-ne-DECIDED.false)) in
    slot ∙ sym found
