-- `frame_begin::entries_of` meets its contract: the first i positions are filled. Assumes nothing.
use mathlib.Core.Path.{◌≡◌}
use Prim.Native.Nat.{ℕ}
use lib.ListN.{length, get_or}
use Rattle.model.specs.Positions.{no_job}
use Rattle.plan.specs.Plans.{read_plan}
use Rattle.frame_record.specs.Sound.{none}
use Rattle.frame_begin.specs.Begin.{steps_in, filled, entry_of}
use Rattle.frame_begin.proofs.entries_of.Given as goal

abbrev pub invariant-loop-i : goal.invariant-loop-i
invariant-loop-i l = l.entries ≡ filled none (λ (k : ℕ). entry_of (steps_in (read_plan l.plan)) (length l.jobs) (get_or l.jobs k no_job)) l.i
