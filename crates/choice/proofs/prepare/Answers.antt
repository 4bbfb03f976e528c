-- `choice::prepare` joins what `away_order`, `jobs_at` and `base_of` promise. Assumes nothing.
use Rattle.std.proofs.Common.{◌≡◌, ◌∙◌, ℕ, ◌<◌, ◌++◌, ◌-◌, length, replicate, refl}
use Rattle.std.proofs.lemmas.List.{take_at}
use Rattle.model.specs.Positions.{no_job, positions}
use Rattle.model.specs.Recurrence.{jobs_in_away_order}
use Rattle.model.proofs.Lists.{all_at}
use Rattle.model.proofs.Positions.{positions_below}
use Rattle.records.specs.Limits.{most_jobs}
use Rattle.table.specs.Tables.{job_table}
use Rattle.choice.proofs.AwayJobs.{order_jobs, as_many}
use Rattle.choice.proofs.prepare.Goals as goal
use Rattle.choice.proofs.prepare.Goals.{After-as_slice}

-- the positions that `jobs_at` is given
placed : (c : After-as_slice) → c.as_slice.result.now ≡ positions (job_table c.args.t.now).jobs
placed c =
    let is = positions (job_table c.args.t.now).jobs in
    rw c.away_order-order.ensures at c.as_slice.ensures ∙ take_at is _ (length is) refl

pub jobs_at-requires-clause-known : goal.jobs_at-requires-clause-known
jobs_at-requires-clause-known c =
    let js = (job_table c.args.t.now).jobs in
    rw (placed c) (λ k d h. all_at (λ (i : ℕ). i < length js) (positions js) d (positions_below js) k h)

pub returns : goal.returns
returns c =
    let js = (job_table c.args.t.now).jobs in
    let jobs : c.jobs_at.result ≡ jobs_in_away_order js ++ replicate (most_jobs - length (jobs_in_away_order js)) no_job =
    rw (placed (goal.at.returns c).After-as_slice, ← order_jobs js, ← as_many js) at c.jobs_at.ensures in
    λ k. record { order = c.away_order-order.ensures k; jobs = jobs k; base = c.base_of.ensures k }
