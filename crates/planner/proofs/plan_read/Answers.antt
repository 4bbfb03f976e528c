-- `planner::plan_read` meets its contract: ROOM, then the table's refusal, then what the order finds. Assumes nothing.
use mathlib.Core.Path.{◌≡◌, sym, ◌∙◌}
use Rattle.std.proofs.Common.{rules}
use Rattle.std.specs.Prelude.{Err}
use Rattle.planner.proofs.Finishing.{here, answered_refused, answered_none, found_few, answered_planned}
use Rattle.planner.proofs.plan_read.Goals as goal

pub returns-in_err-table : goal.returns-in_err-table
returns-in_err-table g c =
    let out : c.from_residual.result ≡ Err c.in_err-table.field-0.0 = search rules in
    rw out (answered_refused _ _ _ g.met.O.Order.finds c.args.read c.requires _ c.if-area-lt-LONGEST_PLAN.false _ c.in_err-table.was)

pub returns-in_default : goal.returns-in_default
returns-in_default g c =
    answered_none _ _ _ g.met.O.Order.finds c.args.read c.requires _ c.if-area-lt-LONGEST_PLAN.false _ c.in_ok-table.was (sym c.in_default.is ∙ c.plan.ensures)

pub write_plan-bytes-requires : goal.write_plan-bytes-requires
write_plan-bytes-requires g c = (
  found_few _ _ _ g.met.O.Order.finds _ (here _ _ _ g.met.O.Order.finds c.args.read c.requires c.args.area.now c.if-area-lt-LONGEST_PLAN.false _ c.in_ok-table.was) _
      (sym c.in-Some.is ∙ c.plan.ensures),
  search rules,
)

pub returns : goal.returns
returns g c =
    answered_planned _ _ _ g.met.O.Order.finds c.args.read c.requires _ c.if-area-lt-LONGEST_PLAN.false _ c.in_ok-table.was _
    (sym c.in-Some.is ∙ c.plan.ensures) _ _ c.write_plan-bytes.ensures
