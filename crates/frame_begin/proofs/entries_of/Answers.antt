-- `frame_begin::entries_of` meets its contract; what its loop keeps stands in Invariants.antt. Assumes nothing.
use mathlib.Core.Path.{◌≡◌, refl, ◌∙◌}
use native.Mathlib.Omega.{arith}
use lib.ListN.{length}
use Rattle.frame_record.specs.Sound.{none}
use Rattle.frame_begin.specs.Begin.{filled, entries_of}
use Rattle.frame_begin.proofs.Filled.{filled_more}
use Rattle.frame_begin.proofs.entries_of.Goals as goal

pub loop-i-init : goal.loop-i-init
unfolding filled
loop-i-init c = refl

pub loop-i-preserved : goal.loop-i-preserved
loop-i-preserved c = filled_more none _ _ _ _ c.loop-i.invariant (simp c.away_in.ensures)

pub returns : goal.returns
unfolding entries_of
returns c =
    let e : c.loop-i.i ≡ length c.args.jobs.now = omega arith in
    c.loop-i.invariant ∙ rw e
