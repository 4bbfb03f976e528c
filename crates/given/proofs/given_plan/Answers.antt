-- `given::given_plan` meets its contract; what its loop keeps stands in Invariants.antt. Assumes nothing.
use mathlib.Core.Path.{refl, sym, ◌∙◌}
use native.Mathlib.Omega.{arith}
use lib.ListN.{length-take}
use Rattle.std.proofs.Common.{rules}
use Rattle.given.proofs.Going.{going_none, going_more}
use Rattle.given.proofs.given_plan.Goals as goal

pub returns-in_err-away : goal.returns-in_err-away
returns-in_err-away c =
    let none = going_none _ _ _ _ c.loop-job.invariant c.loop-job-test.true _ refl (sym c.in_err-away.was ∙ c.decided.ensures) in
    search (rules, none)

pub loop-job-preserved : goal.loop-job-preserved
loop-job-preserved c =
    rw c.push.ensures
    (going_more _ _ _ _ c.loop-job.invariant c.loop-job-test.true _ refl _ (sym c.in_ok-away.was ∙ c.decided.ensures) (omega (arith, length-take c.args.t.now.count c.args.t.now.jobs, c.requires)))
