-- `frame_begin::positions_of` meets its contract: the first k positions are filled. Assumes nothing.
use mathlib.Core.Path.{◌≡◌}
use Rattle.plan.specs.Plans.{read_plan}
use Rattle.frame_begin.specs.Begin.{steps_in, filled, step_position}
use Rattle.frame_begin.proofs.positions_of.Given as goal

abbrev pub invariant-loop-k : goal.invariant-loop-k
invariant-loop-k l = l.order ≡ filled 0 (step_position l.jobs (steps_in (read_plan l.plan))) l.k
