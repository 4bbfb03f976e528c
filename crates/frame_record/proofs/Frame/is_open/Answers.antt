-- `frame_record::Frame::is_open` meets its contract, by the phase. Assumes nothing.
use Rattle.std.proofs.lemmas.Grind.{common_steps}
use native.Mathlib.Omega.{arith}
use Rattle.frame_record.specs.Sound.{open?}
use Rattle.frame_record.proofs.Frame.is_open.Goals as goal

pub returns-then-eq : goal.returns-then-eq
unfolding open?
returns-then-eq c = grind (arith, common_steps)

pub returns-else-eq : goal.returns-else-eq
unfolding open?
returns-else-eq c = grind (arith, common_steps)
