-- `trial::steps::Steps::last_finish` meets its contract: the first spans end by 65,535 ticks for each, and the last finish is the largest so
-- far, or that of the steps that are left, from the end of these spans. Assumes nothing.
use Rattle.std.specs.Prelude.{◌≡◌, List, ℕ, ◌*◌, ◌≤◌, drop, max, take}
use Rattle.trial.specs.declared.steps.Step.{Step}
use Rattle.trial.specs.Finish.{finish_from}
use Rattle.trial.proofs.steps.Steps.last_finish.Given as goal

pub record Laid (index end last : ℕ) (steps : List Step) : Type 0 where
  pub short : end ≤ 65535 * index
  pub finish : finish_from 0 steps ≡ max last (finish_from end (drop index steps))

abbrev pub invariant-loop-step : goal.invariant-loop-step
invariant-loop-step l = Laid l.step-index l.end l.last (take l.self.count l.self.list)
