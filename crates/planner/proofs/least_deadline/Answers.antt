-- `planner::least_deadline` meets its contract: what was read of the bytes is what they mean. Assumes nothing.
use Rattle.planner.proofs.Finishing.{was_read_lem, sound_read}
use Rattle.planner.proofs.least_deadline.Goals as goal

pub least_deadline_read-requires : goal.least_deadline_read-requires
least_deadline_read-requires c = sound_read _ _ c.read_table.ensures

pub returns : goal.returns
returns c = rw (was_read_lem _ _ c.read_table.ensures) at c.least_deadline_read.ensures
