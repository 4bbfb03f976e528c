-- `choice::flags_of` meets its contract; what its loop keeps stands in Invariants.antt. Assumes nothing.
use Rattle.std.proofs.Common.{ℕ, ◌<◌}
use Rattle.model.specs.Lists.{All}
use Rattle.model.proofs.Lists.{all_at}
use Rattle.records.specs.Limits.{most_jobs}
use Rattle.choice.proofs.Held.{ready_few, ready_positions}
use Rattle.choice.proofs.Loops.{marking_more}
use Rattle.choice.proofs.flags_of.Goals as goal

pub as_slice-position-items-requires : goal.as_slice-position-items-requires
as_slice-position-items-requires c = ready_few _ c.requires

pub bounds-flags-position : goal.bounds-flags-position
bounds-flags-position c =
    let known : All (λ (i : ℕ). i < most_jobs) c.as_slice-position-items.result.now =
    rw c.as_slice-position-items.ensures (ready_positions _ c.requires) in
    all_at (λ (i : ℕ). i < most_jobs) _ 0 known c.loop-position.position-index c.loop-position-test.true

pub loop-position-preserved : goal.loop-position-preserved
loop-position-preserved c = marking_more _ _ _ _ _ c.loop-position.invariant c.loop-position-test.true
