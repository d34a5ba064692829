-- `recover` meets its contract, by the three states that a well-formed record has.
use Rattle.std.proofs.Common.{arith}
use Rattle.volume.specs.Volumes.{view}
use Rattle.volume.proofs.ReadLaws.{few_states}
use Rattle.stores.proofs.MadeLaws.{all_none, made_none}
use Rattle.recovery.proofs.WorkLaws.{now_idle, now_open, now_decided}
use Rattle.recovery.proofs.release.recover.Goals as goal

pub returns-in-0 : goal.returns-in-0
returns-in-0 c =
    rw (now_idle (view c.args.v.now) c.args.k (cc))
    (record { updates_made = made_none; all_made = all_none c.requires.0 (made_none {r = c.args.run}) })

pub returns-in-1 : goal.returns-in-1
returns-in-1 c = rw (now_open (view c.args.v.now) c.args.k (cc)) c.release.ensures

pub returns-in-2 : goal.returns-in-2
returns-in-2 c = rw (now_decided (view c.args.v.now) c.args.k (cc)) c.release-in-2.ensures

pub returns-in_default : goal.returns-in_default
returns-in_default c =
    absurd (omega (arith, rw (c.client.ensures.0, c.client.ensures.1) at c.state-state.ensures, few_states c.args.v.now c.requires.0 c.args.k c.requires.1, c.in_default))
