-- `listing::put_lines` meets its contract; what its loop keeps stands in Invariants.antt. Assumes nothing.
use Prim.Native.Nat.{◌≤◌}
use native.Mathlib.Omega.{arith}
use mathlib.Core.Path.{◌≡◌, refl, ◌∙◌}
use lib.ListN.{length, take, get_or, length-take}
use borrow.Author.Rules.{rules}
use Rattle.records.specs.Limits.{most_jobs}
use Rattle.table.specs.Tables.{job_table}
use Rattle.plan.specs.Plans.{steps_of, no_step}
use Rattle.listing.specs.Found.{job_with}
use Rattle.listing.proofs.Found.{with_index}
use Rattle.listing.proofs.Lines.{kept_end, line_room, kept_more}
use Rattle.listing.proofs.put_lines.Goals.{After-job_at-job}
use Rattle.listing.proofs.put_lines.Goals as goal

-- the job that is read is the one with the step's id
found :
    (c : After-job_at-job) →
    let id = (get_or (steps_of c.args.plan.now) c.loop-step.step-index no_step).id in
    c.job_at-job.result ≡ job_with (job_table c.args.t.now).jobs id
found c =
    let few : length (take c.args.t.now.count c.args.t.now.jobs) ≤ most_jobs = omega (arith, length-take c.args.t.now.count c.args.t.now.jobs, c.requires.1) in
    c.job_at-job.ensures ∙ with_index _ _ c.index_of-index.ensures few _ (search rules)

pub put_job_line-at-requires : goal.put_job_line-at-requires
put_job_line-at-requires c = (
  omega (arith, c.loop-step.invariant.early, c.loop-step.invariant.within, length-take c.args.plan.now.count c.args.plan.now.steps, c.requires.0),
  line_room (job_table c.args.t.now).jobs (steps_of c.args.plan.now) c.loop-step.step-index c.loop-step-test.true _ refl _
      (found (goal.at.put_job_line-at-requires c).After-job_at-job) c.loop-step.start c.requires.2 c.loop-step.invariant,
)

pub loop-step-preserved : goal.loop-step-preserved
loop-step-preserved c =
    kept_more (job_table c.args.t.now).jobs (steps_of c.args.plan.now) c.loop-step.step-index c.loop-step-test.true _ refl _
    (found (goal.at.loop-step-preserved c).After-job_at-job) c.loop-step.start c.requires.2 c.loop-step.invariant
    c.span_of.ensures.0 c.span_of.ensures.1 c.put_job_line-at.ensures

pub returns : goal.returns
returns c = kept_end (job_table c.args.t.now).jobs (steps_of c.args.plan.now) c.loop-step-test.false c.loop-step.invariant
