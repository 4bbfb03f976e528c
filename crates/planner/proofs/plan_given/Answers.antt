-- `planner::plan_given` meets its contract: what was read of the bytes is what they mean. Assumes nothing.
use Rattle.planner.proofs.Finishing.{was_read_lem, sound_read}
use Rattle.planner.proofs.plan_given.Goals as goal

pub plan_read-requires : goal.plan_read-requires
plan_read-requires c = sound_read _ _ c.read_table.ensures

pub returns : goal.returns
returns c = rw (was_read_lem _ _ c.read_table.ensures) at c.plan_read.ensures
