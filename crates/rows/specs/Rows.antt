-- What the work rows ask of the jobs that they are given, and the number that stands for nothing.
-- Assumes nothing.
use Rattle.std.specs.Prelude.{ℕ, ◌*◌, ◌≤◌, List, length}
use Rattle.model.specs.declared.Job.{Job}
use Rattle.records.specs.Limits.{most_jobs, largest_time}
use Rattle.model.specs.Lists.{All}

-- "The planner's own work rows have 4,001 entries, one for each tick from 0 to 4,000."
abbrev pub columns : ℕ
columns = 4001

-- a total of this or more stands for nothing: above every real one, also where 32 jobs may take 60,000 each
abbrev pub nothing : ℕ
nothing = 4000000

-- the rows have 4,001 columns, so the deadline is at most 4,000; so are the local times, of at most 32 jobs: no total reaches `nothing`
pub record WithinRows (d base : ℕ) (jobs : List Job) : Type 0 where
  pub deadline : d ≤ largest_time
  pub few : length jobs ≤ most_jobs
  pub based : base ≤ most_jobs * largest_time
  pub locals : All (λ (j : Job). j.local ≤ largest_time) jobs
