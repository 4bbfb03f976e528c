-- `trial::bytes::plan_bytes` meets its contract: each step puts two bytes. Assumes nothing.
use Rattle.std.proofs.Common.{◌≡◌, ◌*◌}
use Rattle.trial.proofs.bytes.plan_bytes.Given as goal

abbrev pub invariant-loop-step : goal.invariant-loop-step
invariant-loop-step l = l.bytes.count ≡ 2 * l.step-index
