-- When steps are done that are laid back to back, and the least of this over their orders.
-- Assumes nothing.
use Rattle.std.specs.Prelude.{◌≡◌, List, [], ◌∷◌, ℕ, ◌+◌, ◌≤◌, max}
use Rattle.std.specs.List.Sorted.{IsPermutation}
use Rattle.std.specs.Option.{unwrap_or}
use Rattle.trial.specs.declared.steps.Step.{Step}

-- when the last of the steps is done, laid back to back from a tick: a step is done at the end of its span, and one that is sent away when it
-- returns
unfoldable pub finish_from : ℕ → List Step → ℕ
finish_from start [] = 0
finish_from start (step ∷ rest) = max ((start + step.span) + unwrap_or step.back 0) (finish_from (start + step.span) rest)

-- the least last finish over all orders of the steps: in no order are they done sooner, and in one order they are done then
pub record IsLeastFinish (steps : List Step) (n : ℕ) : Type 0 where
  pub least : (other : List Step) → IsPermutation steps other → n ≤ finish_from 0 other
  pub met : (other : List Step) × IsPermutation steps other × (n ≡ finish_from 0 other)
