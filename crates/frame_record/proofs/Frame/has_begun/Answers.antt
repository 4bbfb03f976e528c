-- `frame_record::Frame::has_begun` meets its contract, by the phase. Assumes nothing.
use Rattle.std.proofs.lemmas.Grind.{common_steps}
use native.Mathlib.Omega.{arith}
use Rattle.frame_record.specs.Sound.{begun?}
use Rattle.frame_record.proofs.Frame.has_begun.Goals as goal

pub returns-then-ne : goal.returns-then-ne
unfolding begun?
returns-then-ne c = grind (arith, common_steps)

pub returns-else-ne : goal.returns-else-ne
unfolding begun?
returns-else-ne c = grind (arith, common_steps)
