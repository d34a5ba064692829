-- `formed`: a sound volume is well formed.
use Rattle.volume.proofs.WellFormedLaws.{sound_formed}
use Rattle.volume.proofs.read.SoundVolume.formed.Goals as goal

pub invariant_of-result : goal.invariant_of-result
invariant_of-result c = record { formed = sound_formed c.args.self.bytes.now c.args.self.sound }
