-- `plan::read_plan` meets its contract. The invariant is `SoFar` of crate table: the steps read so far, and that what is still to
-- do gives the same as the whole. Each way out of a turn is one of its laws; the measure is how many records may still come. Assumes nothing.
use Prim.Native.Nat.{ℕ, suc, ◌-◌}
use mathlib.Core.Bool.{Bool}
use mathlib.Core.List.{List}
use lib.ListN.{length}
use Rattle.records.specs.declared.refusal.Place.{Place}
use Rattle.records.specs.Limits.{most_jobs}
use Rattle.records.specs.Refusals.{start}
use Rattle.records.proofs.Listed.{SoFar}
use Rattle.plan.specs.declared.Step.{Step}
use Rattle.plan.specs.Plans.{step_id}
use Rattle.plan.proofs.Steps.{plan_entry}
use Rattle.plan.proofs.read_plan.Given as goal

-- what `read_plan` keeps: the steps read so far, which only the proof holds
pub record Kept (s : List ℕ) (seen : List Bool) (count : ℕ) (p : Place) : Type 0 where
  pub xs : List Step
  pub so : SoFar step_id (plan_entry s) (length s) start xs count seen p

abbrev pub invariant-loop-record : goal.invariant-loop-record
invariant-loop-record l = Kept l.s l.seen l.count l.p

abbrev pub decreases-loop-record : goal.decreases-loop-record
decreases-loop-record l = suc most_jobs - l.count
