-- `frame_record::Frame::sound` meets its contract, by the phase. Assumes nothing.
use Rattle.std.proofs.lemmas.Grind.{common_steps}
use native.Mathlib.Omega.{arith}
use Rattle.frame_record.specs.Sound.{sound?}
use Rattle.frame_record.proofs.Frame.sound.Goals as goal

pub returns-then-eq : goal.returns-then-eq
unfolding sound?
returns-then-eq c = grind (arith, common_steps)

pub returns-else-eq : goal.returns-else-eq
unfolding sound?
returns-else-eq c = grind (arith, common_steps)
