-- `frame_record::Frame::ok_begun` meets its contract: each test in turn. Assumes nothing.
use Rattle.std.proofs.lemmas.Grind.{common_steps}
use native.Mathlib.Omega.{arith}
use Rattle.frame_record.specs.Sound.{ok_begun}
use Rattle.frame_record.proofs.Frame.ok_begun.Goals as goal

pub returns-then-self-le-LARGEST_TIME : goal.returns-then-self-le-LARGEST_TIME
unfolding ok_begun
returns-then-self-le-LARGEST_TIME c = grind (arith, common_steps)

pub returns-else-self-le-LARGEST_TIME : goal.returns-else-self-le-LARGEST_TIME
unfolding ok_begun
returns-else-self-le-LARGEST_TIME c = grind (arith, common_steps)
