-- `plan::write_plan` meets its contract; what its loop keeps stands in Invariants.antt. Assumes nothing.
use native.Mathlib.Omega.{arith}
use mathlib.Core.Path.{sym, ap, ◌∙◌}
use Rattle.octets.specs.Writing.{written}
use Rattle.octets.proofs.Writing.{written_append, written_front}
use Rattle.plan.specs.Plans.{plan_bytes, steps_of}
use Rattle.plan.proofs.Steps.{plan_length, bytes_more, bytes_done}
use Rattle.plan.proofs.write_plan.Goals as goal

pub loop-step-preserved : goal.loop-step-preserved
loop-step-preserved c =
    let more = bytes_more (steps_of c.args.plan.now) c.loop-step.step-index c.loop-step-test.true in
    record {
      reached = omega (arith, c.put_step-at.ensures.place, c.loop-step.invariant.reached);
      rest = rw (c.put_step-at.ensures.area, c.put_step-at.ensures.place)
          (sym (written_append c.loop-step.area c.loop-step.at _ _ (omega (arith, c.loop-step.invariant.reached, c.loop-step.auto.area)))
          ∙ (ap (written c.loop-step.area c.loop-step.at) (sym more) ∙ c.loop-step.invariant.rest));
    }

pub returns : goal.returns
returns c =
    let xs = steps_of c.args.plan.now in (
      omega (arith, c.put.ensures.place, plan_length xs, c.loop-step.invariant.reached),
      c.put.ensures.area ∙
          (ap (written c.loop-step.area c.loop-step.at) (sym (bytes_done xs c.loop-step.step-index c.loop-step-test.false))
          ∙ (c.loop-step.invariant.rest ∙ written_front c.args.area.now (plan_bytes xs))),
    )
