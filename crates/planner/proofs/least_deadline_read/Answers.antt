-- `planner::least_deadline_read` meets its contract: the table's refusal, the least deadline, or NONE. Assumes nothing.
use mathlib.Core.Path.{◌≡◌}
use Rattle.std.proofs.Common.{rules}
use Rattle.std.specs.Prelude.{Err, ok_or}
use Rattle.records.specs.declared.refusal.Refusal.TheVariants as R
use Rattle.planner.proofs.Deadlines.{least_refused, least_answered}
use Rattle.planner.proofs.least_deadline_read.Goals as goal

pub returns-in_err-table : goal.returns-in_err-table
returns-in_err-table c =
    let out : c.from_residual.result ≡ Err c.in_err-table.field-0.0 = search rules in
    rw out (least_refused c.args.read _ c.in_err-table.was)

pub returns : goal.returns
returns c =
    let said : c.ok_or.result ≡ ok_or c.earliest_of.result R.None = search rules in
    rw said (least_answered c.args.read _ c.in_ok-table.was _ c.earliest_of.ensures)
