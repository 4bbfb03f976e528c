-- `trial::bytes::table_bytes` meets its contract: each job puts eight bytes at most, behind the first three. Assumes nothing.
use Rattle.std.proofs.Common.{◌+◌, ◌*◌, ◌≤◌}
use Rattle.trial.proofs.bytes.table_bytes.Given as goal

abbrev pub invariant-loop-job : goal.invariant-loop-job
invariant-loop-job l = l.bytes.count ≤ 3 + 8 * l.job-index
