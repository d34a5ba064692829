-- `in_session`: a volume has at most as many files as a session has room for.
use native.Mathlib.Omega.{arith}
use Rattle.volume.proofs.ReadLaws.{few_files}
use Rattle.volume.proofs.read.VolumeFile.in_session.Goals as goal

pub invariant_of-result : goal.invariant_of-result
invariant_of-result c =
    let x = c.args.self in
    record { low = x.listed.low; high = omega (arith, x.listed.high, few_files x.volume.bytes.now x.volume.formed) }
