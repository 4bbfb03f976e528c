-- Document 01, 'The frame runner': "docs/ lists what makes a frame record sound". The list, with no test. Assumes nothing.
use Rattle.std.specs.Prelude.{ℕ, ◌≤◌, ◌<◌, ◌≡◌, Bool, true}
use Rattle.records.specs.Limits.{most_jobs, largest_time}
use Rattle.frame_record.specs.Finite.{finite?}
use Rattle.frame_record.specs.Sound.{entry_at, position_at}
use Rattle.frame_record.specs.declared.Phase.{Phase}
use Rattle.frame_record.specs.declared.Phase.TheVariants.{Idle, Open, Closed}
use Rattle.frame_record.specs.declared.Standing.{Standing}
use Rattle.frame_record.specs.declared.Standing.TheVariants.{Waiting, Out, Held, Late}
use Rattle.frame_record.specs.declared.Entry.{Entry}
use Rattle.frame_record.specs.declared.Frame.{Frame}

-- Where the k-th job of the plan may stand, while the plan is at the job `next`. It waits exactly while the plan has not passed it. It is out
-- only if the plan has passed it and sends it away. It holds a value only if the plan has passed it, a finite one under this frame's number.
-- It is late only if the plan has passed it.
abbrev pub MayStand : (number k next : ℕ) → Bool → Standing → Type 0
MayStand number k next away Waiting = next ≤ k
MayStand number k next away Out = (k < next) × (away ≡ true)
MayStand number k next away (Held x) = (k < next) × (x.frame ≡ number) × (finite? x.value ≡ true)
MayStand number k next away Late = k < next

-- the entry of the k-th job of the plan
abbrev pub plan_entry : Frame → ℕ → Entry
plan_entry f k = entry_at f.entries (position_at f.order k)

-- counts and deadline in range; the plan's order a permutation of the table's positions; ids that differ; each job where it may stand
pub record Begun (f : Frame) : Type 0 where
  pub room : f.count ≤ most_jobs
  pub reached : f.next ≤ f.count
  pub low : 1 ≤ f.deadline
  pub high : f.deadline ≤ largest_time
  pub positions : (k : ℕ) → k < f.count → position_at f.order k < f.count
  pub positions_differ : (i k : ℕ) → i < k → k < f.count → position_at f.order i ≡ position_at f.order k → ⊥
  pub ids_differ : (i k : ℕ) → i < k → k < f.count → (entry_at f.entries i).id ≡ (entry_at f.entries k).id → ⊥
  pub stands : (k : ℕ) → k < f.count → MayStand f.number k f.next (plan_entry f k).away (plan_entry f k).standing

-- an idle record holds nothing that a call relies on
abbrev pub SoundIn : Phase → Frame → Type 0
SoundIn Idle f = Unit {0}
SoundIn Open f = Begun f
SoundIn Closed f = Begun f

abbrev pub SoundFrame : Frame → Type 0
SoundFrame f = SoundIn f.phase f
