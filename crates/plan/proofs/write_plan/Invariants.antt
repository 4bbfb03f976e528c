-- `plan::write_plan` meets its contract. The invariant: what is still to write, written where it belongs, gives the whole plan written
-- at the front. Assumes nothing.
use Prim.Native.Nat.{ℕ, ◌*◌, ◌≤◌}
use mathlib.Core.Path.{◌≡◌}
use mathlib.Core.List.{List}
use lib.ListN.{drop}
use Rattle.octets.specs.Writing.{written}
use Rattle.plan.specs.declared.Step.{Step}
use Rattle.plan.specs.Plans.{plan_bytes, steps_of}
use Rattle.plan.proofs.write_plan.Given as goal

-- what `write_plan` keeps
pub record Kept (area₀ : List ℕ) (xs : List Step) (area : List ℕ) (i at : ℕ) : Type 0 where
  pub reached : at ≡ 2 * i
  pub rest : written area at (plan_bytes (drop i xs)) ≡ written area₀ 0 (plan_bytes xs)

abbrev pub invariant-loop-step : goal.invariant-loop-step
invariant-loop-step l = Kept l.initial.area (steps_of l.plan) l.area l.step-index l.at
