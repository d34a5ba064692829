-- `in_session`: a volume has at most as many clients as a session has room for.
use native.Mathlib.Omega.{arith}
use Rattle.volume.proofs.ReadLaws.{few_clients}
use Rattle.volume.proofs.read.VolumeClient.in_session.Goals as goal

pub invariant_of-result : goal.invariant_of-result
invariant_of-result c =
    let x = c.args.self in
    record { low = x.listed.low; high = omega (arith, x.listed.high, few_clients x.volume.bytes.now x.volume.formed.tabled) }
