-- `trial::steps::Steps::of` meets its contract: a step is put for each job. Assumes nothing.
use Rattle.std.proofs.Common.{◌≡◌}
use Rattle.trial.proofs.steps.Steps.of.Given as goal

abbrev pub invariant-loop-place : goal.invariant-loop-place
invariant-loop-place g l = l.steps.count ≡ l.place
