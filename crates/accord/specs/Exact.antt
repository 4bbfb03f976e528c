-- Document 01, 'The free-order plan', 'The given-order plan' and 'Least deadline', told of what the planners answer with timetables alone:
-- what is said exactly when, and that what is written is a timetable with the least sum of spans. Assumes nothing.
use Rattle.std.specs.Prelude.{ℕ, ◌≤◌, ◌<◌, ◌≡◌, ◌⊎◌, ◌↔◌, length, take, drop}
use mathlib.Core.List.{List, [], ◌∷◌, ◌++◌, Permᴰ}
use Rattle.model.specs.declared.Job.{Job}
use Rattle.model.specs.Lists.{greatest}
use Rattle.model.specs.Timetable.{Chosen, Placed, chosen_in, finish, Meets, Met}
use Rattle.model.specs.FreeOrder.{laid, spans}
use Rattle.records.specs.declared.refusal.Refusal.{Refusal}
use Rattle.records.specs.Limits.{largest_time, longest_plan}
use Rattle.records.specs.Refusals.{refusal_says, accepted}
use Rattle.table.specs.Tables.{JobTable, run_deadline}
use Rattle.plan.specs.Plans.{plan_bytes, steps_for}
use Rattle.planner.specs.Answers.{Planned}
use Rattle.planner.specs.Answers.{planned_says, Possible}
use Rattle.faults.specs.Faults.{TableFault, TableIs, PlanIs}

-- "then the table, then NONE": where the bytes s are no table, the fault's number and place; 7 where they are one that cannot be met, else 0
pub record SaysWhen (s : List ℕ) (CanMeet : JobTable → Type 0) (says : List ℕ) : Type 0 where
  pub fault : (n place : ℕ) → 1 ≤ n → (says ≡ n ∷ place ∷ []) ↔ ((f : Refusal) × TableFault s f × (refusal_says f ≡ n ∷ place ∷ []))
  pub seven : (says ≡ 7 ∷ []) ↔ ((t : JobTable) × TableIs s (accepted t) × ¬ (CanMeet t))
  pub zero : ((values : List ℕ) × (says ≡ 0 ∷ values)) ↔ ((t : JobTable) × TableIs s (accepted t) × CanMeet t)

-- for the least deadline, "the table's own D being ignored; NONE if 4,000 is not met"
abbrev pub MetByLargest : JobTable → Type 0
MetByLargest t = Met largest_time t.jobs

-- `Kind` is `Timetable` for the free order, and `InOrder`, a timetable in table order, for the given one.
module _ (Kind : List Job → List Placed → Type 0) where
  -- "Planners judge ROOM, then the table, then NONE." "No refusal writes to an output area."
  pub record PlansWhen (s before : List ℕ) (r : Planned) (after : List ℕ) : Type 0 where
    pub room : (planned_says r ≡ 18 ∷ []) ↔ (length before < longest_plan)
    pub says : longest_plan ≤ length before → SaysWhen s (Possible Kind) (planned_says r)
    pub left : ((length busy last : ℕ) × (planned_says r ≡ 0 ∷ length ∷ busy ∷ last ∷ [])) ⊎ (after ≡ before)

  -- What stands in the area where 0 is said with these values: at its front a plan of at most 65 bytes, behind it what stood there. The plan's jobs
  -- xs, back to back from tick 0, are a timetable ps that meets the run's deadline, with this busy total and last finish; no timetable that meets
  -- the deadline of its own run has a smaller busy total.
  pub record PlanStands (t : JobTable) (xs : List Chosen) (before after : List ℕ) (size busy last : ℕ) : Type 0 where
    pub bytes : size ≡ length (plan_bytes (steps_for xs))
    pub front : after ≡ plan_bytes (steps_for xs) ++ drop size before
    pub plan : PlanIs (take size after) (accepted (steps_for xs))
    pub short : size ≤ longest_plan
    pub ps : List Placed
    pub same : Permᴰ (laid 0 xs) ps
    pub timetable : Kind t.jobs ps
    pub meets : Meets (run_deadline t (chosen_in ps)) ps
    pub sum : busy ≡ spans ps
    pub latest : last ≡ greatest finish ps
    pub least : (qs : List Placed) → Kind t.jobs qs → Meets (run_deadline t (chosen_in qs)) qs → busy ≤ spans qs
