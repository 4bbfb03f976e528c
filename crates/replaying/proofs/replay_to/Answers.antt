-- `replaying::replay_to` meets its contract; what its loop keeps stands in Invariants.antt. Assumes nothing.
use native.Mathlib.Omega.{arith}
use mathlib.Core.Path.{◌≡◌, sym, ◌∙◌}
use lib.ListN.{length}
use borrow.Author.Tests.{eqb-true, eqb-false}
use Rattle.replaying.proofs.Handed.{starts, moved, shorter, turn, ends_frame, ends_text}
use Rattle.replaying.proofs.replay_to.Goals as goal

pub loop-rest-init : goal.loop-rest-init
loop-rest-init g c = rw c.idle-frame.ensures (starts _ _)

pub slice_bounds-rest-count : goal.slice_bounds-rest-count
slice_bounds-rest-count g c =
    let left : ¬ (length c.loop-rest.rest.now ≡ 0) = eqb-false _ _ (sym c.is_empty.ensures ∙ c.loop-rest-test.true) in
    (moved _ _ c.loop-rest.invariant c.next_line-turn.ensures left).1

pub slice_bounds-rest-start : goal.slice_bounds-rest-start
slice_bounds-rest-start g c =
    let left : ¬ (length c.loop-rest.rest.now ≡ 0) = eqb-false _ _ (sym c.is_empty.ensures ∙ c.loop-rest-test.true) in
    omega (arith, (moved _ _ c.loop-rest.invariant c.next_line-turn.ensures left).1)

pub loop-rest-smaller : goal.loop-rest-smaller
loop-rest-smaller g c =
    let left : ¬ (length c.loop-rest.rest.now ≡ 0) = eqb-false _ _ (sym c.is_empty.ensures ∙ c.loop-rest-test.true) in
    shorter _ _ c.loop-rest.invariant c.next_line-turn.ensures left

pub loop-rest-preserved : goal.loop-rest-preserved
loop-rest-preserved g c =
    let left : ¬ (length c.loop-rest.rest.now ≡ 0) = eqb-false _ _ (sym c.is_empty.ensures ∙ c.loop-rest-test.true) in
    turn _ _ c.loop-rest.invariant c.next_line-turn.ensures left _ _ c.hand_out-written.ensures.text

pub returns-clause-frame : goal.returns-clause-frame
returns-clause-frame g c = ends_frame _ _ c.loop-rest.invariant (eqb-true _ _ (sym c.is_empty.ensures ∙ c.loop-rest-test.false))

pub returns-clause-text : goal.returns-clause-text
returns-clause-text g c = ends_text _ _ c.loop-rest.invariant (eqb-true _ _ (sym c.is_empty.ensures ∙ c.loop-rest-test.false))
