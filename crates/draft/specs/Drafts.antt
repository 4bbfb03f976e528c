-- A plan in the making: the jobs laid so far in plan order, as steps and as numbers.
-- Assumes nothing.
use Rattle.std.specs.Prelude.{List}
use Rattle.std.specs.Prelude.{Option, None, Some}
use Rattle.model.specs.Timetable.{Chosen}
use Rattle.model.specs.Laying.{laid_of, laid_with}
use Rattle.plan.specs.Plans.{plan_of, with_step, step_of, steps_for}
use Rattle.draft.specs.declared.Draft.{Draft}

-- the draft that has these jobs, in this order
abbrev pub draft_of : List Chosen → Draft
draft_of cs = record { plan = plan_of (steps_for cs); laid = laid_of cs }

abbrev pub with_chosen : Draft → Chosen → Draft
with_chosen d c = record { plan = with_step d.plan (step_of c); laid = laid_with d.laid c }

-- what a planner finds: a plan in plan order, or none
abbrev pub drafted_of : Option (List Chosen) → Option Draft
drafted_of None = None
drafted_of (Some cs) = Some (draft_of cs)
