-- `choice::jobs_at` meets its contract; what its loop keeps stands in Invariants.antt. Assumes nothing.
use Rattle.choice.proofs.Loops.{jobs_more}
use Rattle.choice.proofs.jobs_at.Goals as goal

pub loop-k-preserved : goal.loop-k-preserved
loop-k-preserved c = rw c.loop-k.invariant (jobs_more c.args.jobs.now c.args.positions.now c.loop-k.k c.requires.few c.loop-k-test.true)
