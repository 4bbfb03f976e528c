-- `frame_begin::positions_of` meets its contract; what its loop keeps stands in Invariants.antt. Assumes nothing.
use mathlib.Core.Path.{◌≡◌, refl, ap, ◌∙◌}
use native.Mathlib.Omega.{arith}
use borrow.Author.Rules.{rules}
use lib.ListN.{length}
use Rattle.lookup.specs.Lookup.{position_of, indexed}
use Rattle.plan.specs.declared.Step.{Step}
use Rattle.frame_begin.specs.Begin.{filled, positions_of}
use Rattle.frame_begin.proofs.Filled.{filled_more}
use Rattle.frame_begin.proofs.Passed.{step_in}
use Rattle.frame_begin.proofs.positions_of.Goals as goal

pub loop-k-init : goal.loop-k-init
unfolding filled
loop-k-init c = refl

-- the index tells where the job of the k-th step stands
pub loop-k-preserved : goal.loop-k-preserved
loop-k-preserved c =
    let step = c.step_at-step.ensures ∙ step_in c.args.plan.now c.loop-k.k (omega arith) in
    let told = c.index_of-index.ensures.tells c.step_at-step.result.id (search rules) in
    filled_more 0 _ _ _ _ c.loop-k.invariant (told ∙ ap (λ (x : Step). indexed (position_of c.args.jobs.now x.id)) step)

pub returns : goal.returns
unfolding positions_of
returns c =
    let e : c.loop-k.k ≡ length c.args.jobs.now = omega arith in
    c.loop-k.invariant ∙ rw e
