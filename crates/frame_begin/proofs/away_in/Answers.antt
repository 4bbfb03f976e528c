-- `frame_begin::away_in` meets its contract; what its loop keeps stands in Invariants.antt. Assumes nothing.
use mathlib.Core.Path.{sym, ◌∙◌, ap}
use Rattle.plan.specs.declared.Step.{Step}
use Rattle.frame_begin.proofs.Looked.{looked_none, looked_all, looked_here, looked_on}
use native.Mathlib.Omega.{arith}
use Rattle.frame_begin.proofs.away_in.Goals as goal

pub loop-k-init : goal.loop-k-init
loop-k-init c = looked_none _ _ _

pub returns-then-step-id : goal.returns-then-step-id
returns-then-step-id c =
    ap (λ (x : Step). x.away) c.step_at-step.ensures
    ∙ looked_here _ _ _ c.loop-k.invariant c.requires c.loop-k-test.true (sym (ap (λ (x : Step). x.id) c.step_at-step.ensures) ∙ c.if-step-id.true)

pub loop-k-preserved : goal.loop-k-preserved
loop-k-preserved c =
    looked_on _ _ _ c.loop-k.invariant c.requires c.loop-k-test.true (λ e. c.if-step-id.false (ap (λ (x : Step). x.id) c.step_at-step.ensures ∙ e))

pub returns : goal.returns
returns c = looked_all _ _ _ c.loop-k.invariant (omega arith)
