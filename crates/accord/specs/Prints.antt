-- Document 01, 'The lister': "prints the free-order plan", told of an answer of the planner and of what it left in its area.
-- Assumes nothing.
use Rattle.std.specs.Prelude.{ℕ, ◌≡◌, List, [], ◌∷◌, ◌++◌, length, take}
use Rattle.model.specs.Timetable.{Chosen}
use Rattle.model.specs.FreeOrder.{laid}
use Rattle.records.specs.declared.refusal.Refusal.{Refusal}
use Rattle.records.specs.Refusals.{refusal_says, accepted}
use Rattle.table.specs.Tables.{JobTable}
use Rattle.plan.specs.Plans.{plan_bytes, steps_for}
use Rattle.planner.specs.Answers.{Planned}
use Rattle.planner.specs.Answers.{planned_says}
use Rattle.faults.specs.Faults.{TableIs}
use Rattle.faults.specs.Checks.{PlanOf}
use Rattle.lines.specs.Lines.{refused_text}
use Rattle.listing.specs.Listing.{first_line, job_lines, last_line}

-- The text of an answer: a refusal's line; or first line, a line for each job of the plan that stands in the area, and last line with the answer's totals.
pub data TextOf (s : List ℕ) (r : Planned) (after : List ℕ) : List ℕ → Type 0 where
  of_refusal : (f : Refusal) → planned_says r ≡ refusal_says f → TextOf s r after (refused_text (refusal_says f))
  of_plan :
      (t : JobTable) (xs : List Chosen) (size busy last : ℕ) → TableIs s (accepted t) → PlanOf t.jobs xs →
      planned_says r ≡ 0 ∷ size ∷ busy ∷ last ∷ [] → take size after ≡ plan_bytes (steps_for xs) →
      TextOf s r after (first_line t.deadline (length t.jobs) ++ job_lines (laid 0 xs) ++ last_line busy last)
