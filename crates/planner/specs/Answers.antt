-- Document 01, 'The free-order plan', 'The given-order plan', 'Least deadline' and 'Refusal numbers': what the three planners answer,
-- by number and values, and what they leave in the area, told of what was read of the table's bytes. Assumes nothing.
use Rattle.std.specs.Prelude.{◌≡◌, List, [], ◌∷◌, ◌++◌, ℕ, ◌≤◌, ◌<◌, length, drop, Result, Ok, Err}
use Rattle.model.specs.declared.Job.{Job}
use Rattle.model.specs.Timetable.{Chosen, Placed, chosen_in, Timetable, Meets, Met}
use Rattle.model.specs.FreeOrder.{plan, last_from, Best, LeastDeadline}
use Rattle.model.specs.GivenOrder.{InOrder, BestInOrder}
use Rattle.records.specs.declared.refusal.Refusal.{Refusal}
use Rattle.records.specs.declared.refusal.Refusal.TheVariants as R
use Rattle.records.specs.Limits.{largest_time, longest_plan}
use Rattle.records.specs.Refusals.{refusal_says, Outcome, accepted, refused}
use Rattle.table.specs.Tables.{JobTable, run_deadline, run_busy, job_table, Sound, read_table}
use Rattle.table.specs.declared.Table.{Table}
use Rattle.plan.specs.Plans.{plan_bytes, steps_for}
use Rattle.planner.specs.declared.Written.{Written}

-- What a planner answers: the plan that was written, or a refusal; and the least deadline, or a refusal.
abbrev pub Planned : Type 0
Planned = Result Written Refusal

abbrev pub Least : Type 0
Least = Result ℕ Refusal

-- Number and values: 0 for an accepted call, with "plan length, busy total and last finish", or the deadline; else the refusal's.

abbrev pub planned_says : Planned → List ℕ
planned_says (Ok plan) = 0 ∷ plan.bytes ∷ plan.busy ∷ plan.last ∷ []
planned_says (Err f) = refusal_says f

abbrev pub least_says : Least → List ℕ
least_says (Ok d) = 0 ∷ d ∷ []
least_says (Err f) = refusal_says f

-- "No refusal writes to an output area."
pub record Refuses (f : Refusal) (before : List ℕ) (r : Planned) (after : List ℕ) : Type 0 where
  pub says : planned_says r ≡ refusal_says f
  pub left : after ≡ before

-- "success writes the plan at the front of the area and leaves the rest"; xs are the jobs in plan order, laid back to back
pub record Writes (t : JobTable) (xs : List Chosen) (before : List ℕ) (r : Planned) (after : List ℕ) : Type 0 where
  pub says : planned_says r ≡ 0 ∷ length (plan_bytes (steps_for xs)) ∷ run_busy t xs ∷ last_from 0 xs ∷ []
  pub front : after ≡ plan_bytes (steps_for xs) ++ drop (length (plan_bytes (steps_for xs))) before

-- "Planners judge ROOM, then the table, then NONE": what a planner may answer for what was read and an area.
-- `CanMeet t` says that some timetable of its kind is on time, `IsPlan t xs` that xs is the plan that it has to write.
module _ (CanMeet : JobTable → Type 0) (IsPlan : JobTable → List Chosen → Type 0) where
  pub data PlanAnswer (read : Outcome JobTable) (before : List ℕ) (r : Planned) (after : List ℕ) : Type 0 where
    no_room : length before < longest_plan → Refuses R.Room before r after → PlanAnswer read before r after
    bad_table : longest_plan ≤ length before → (f : Refusal) → read ≡ refused f → Refuses f before r after → PlanAnswer read before r after
    no_plan :
        longest_plan ≤ length before → (t : JobTable) → read ≡ accepted t → ¬ (CanMeet t) → Refuses R.None before r after →
        PlanAnswer read before r after
    planned :
        longest_plan ≤ length before → (t : JobTable) → read ≡ accepted t →
        (xs : List Chosen) → IsPlan t xs → Writes t xs before r after → PlanAnswer read before r after

-- some timetable meets the run's deadline of its own choices; `Kind` is `Timetable` for the free order, and `InOrder`, a timetable in table order, for
-- the given one
abbrev pub Possible : (List Job → List Placed → Type 0) → JobTable → Type 0
Possible Kind t = (ps : List Placed) × Kind t.jobs ps × Meets (run_deadline t (chosen_in ps)) ps

-- "Refused NONE exactly when no timetable meets D. Otherwise the plan is the workable choice with the least busy total."
abbrev pub BestPlan : ℕ → List Job → List Chosen → Type 0
BestPlan D js xs = (cs : List Chosen) × Best D js cs × (xs ≡ plan cs)

abbrev pub FreePlan : JobTable → List Chosen → Type 0
FreePlan t xs = BestPlan (run_deadline t xs) t.jobs xs

abbrev pub FreeRead : Outcome JobTable → List ℕ → Planned → List ℕ → Type 0
FreeRead = PlanAnswer (Possible Timetable) FreePlan

abbrev pub FreeAnswer : List ℕ → List ℕ → Planned → List ℕ → Type 0
FreeAnswer s = FreeRead (read_table s)

-- "NONE is given exactly when no timetable in table order meets D. The plan lists the jobs in table order."
abbrev pub GivenPlan : JobTable → List Chosen → Type 0
GivenPlan t xs = BestInOrder (run_deadline t xs) t.jobs xs

abbrev pub GivenRead : Outcome JobTable → List ℕ → Planned → List ℕ → Type 0
GivenRead = PlanAnswer (Possible InOrder) GivenPlan

abbrev pub GivenAnswer : List ℕ → List ℕ → Planned → List ℕ → Type 0
GivenAnswer s = GivenRead (read_table s)

-- "Least deadline: the smallest D in 1..4,000 that some timetable meets, the table's own D being ignored; NONE if 4,000 is not met."
pub data LeastRead (read : Outcome JobTable) (r : Least) : Type 0 where
  bad_table : (f : Refusal) → read ≡ refused f → least_says r ≡ refusal_says f → LeastRead read r
  never_met : (t : JobTable) → read ≡ accepted t → ¬ (Met largest_time t.jobs) → least_says r ≡ refusal_says R.None → LeastRead read r
  met_from :
      (t : JobTable) → read ≡ accepted t → (d : ℕ) → LeastDeadline largest_time t.jobs d → least_says r ≡ 0 ∷ d ∷ [] → LeastRead read r

abbrev pub LeastAnswer : List ℕ → Least → Type 0
LeastAnswer s = LeastRead (read_table s)

-- What was read, as the code holds it; a table that was read is sound.

abbrev pub was_read : Result Table Refusal → Outcome JobTable
was_read (Ok t) = accepted (job_table t)
was_read (Err f) = refused f

abbrev pub SoundRead : Result Table Refusal → Type 0
SoundRead (Ok t) = Sound t
SoundRead (Err f) = Unit {0}
