-- `choice::jobs_at` puts the jobs at the first k positions in front, and the entries behind them hold no job: the loop's invariant. Assumes nothing.
use Rattle.std.proofs.Common.{◌≡◌, ◌++◌, ◌-◌, take, replicate}
use Rattle.model.specs.Positions.{no_job}
use Rattle.records.specs.Limits.{most_jobs}
use Rattle.choice.specs.Choices.{jobs_at}
use Rattle.choice.proofs.jobs_at.Given as goal

abbrev pub invariant-loop-k : goal.invariant-loop-k
invariant-loop-k l = l.ordered ≡ jobs_at l.jobs (take l.k l.positions) ++ replicate (most_jobs - l.k) no_job
