-- `frame_record::Frame::is_ready` meets its contract, by the phase. Assumes nothing.
use Rattle.std.proofs.lemmas.Grind.{common_steps}
use native.Mathlib.Omega.{arith}
use Rattle.frame_record.specs.Sound.{ready?}
use Rattle.frame_record.proofs.Frame.is_ready.Goals as goal

pub returns-then-ne : goal.returns-then-ne
unfolding ready?
returns-then-ne c = grind (arith, common_steps)

pub returns-else-ne : goal.returns-else-ne
unfolding ready?
returns-else-ne c = grind (arith, common_steps)
