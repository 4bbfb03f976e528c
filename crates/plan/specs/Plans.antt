-- Document 01, 'Bytes': "A plan is 0 to 32 of 0x20 and 0x21 with distinct ids, one 0x2F, nothing after."
-- `read_plan` says what a byte string means as a plan, or which refusal it gets. Assumes nothing.
use Rattle.std.specs.Prelude.{ℕ, suc, ◌+◌, ◌-◌, ◌*◌, Bool, true, false, cond, List, [], ◌∷◌, ◌++◌, map, length, get_or, take, set, replicate, ltb, eqb, Result, Ok, Err}
use Rattle.model.specs.Timetable.{Chosen}
use Rattle.records.specs.declared.refusal.Place.{Place}
use Rattle.records.specs.declared.refusal.Refusal.{Refusal}
use Rattle.records.specs.declared.refusal.Refusal.TheVariants.{Many}
use Rattle.records.specs.declared.kind.StepKind.{StepKind}
use Rattle.records.specs.declared.kind.StepKind.TheVariants.{HereStep, AwayStep, EndStep}
use Rattle.records.specs.Limits.{most_jobs}
use Rattle.records.specs.Refusals.{start, refusal_says, Outcome, accepted, refused}
use Rattle.records.specs.Kinds.{run_here, send_away, plan_end}
use Rattle.records.specs.Records.{step_only, judged, parsed, list_from}
use Rattle.records.specs.declared.record.Record.{Record}
use Rattle.records.specs.declared.record.Record.TheVariants.{Listed, Last}
use Rattle.plan.specs.declared.Step.{Step}
use Rattle.plan.specs.declared.Plan.{Plan}

-- "33rd job MANY", where `count` steps stand before
abbrev pub listed_at : List ℕ → Place → Place → ℕ → Bool → Result (Record Step) Refusal
listed_at s p next count away =
    cond (ltb count most_jobs)
    (Ok (Listed (record { id = get_or s (p.at + 1) 0; away = away }) next))
    (Err (Many p))

-- "plan: run here, id", "plan: send away, id", "end of plan"
abbrev pub step_body : List ℕ → Place → ℕ → Place → StepKind → Result (Record Step) Refusal
step_body s p count next HereStep = listed_at s p next count false
step_body s p count next AwayStep = listed_at s p next count true
step_body s p count next EndStep = Ok (Last next)

unfoldable pub record_at : List ℕ → Place → ℕ → Result (Record Step) Refusal
record_at s p count = judged Err (step_body s p count) step_only s p

abbrev pub step_id : Step → ℕ
step_id x = x.id

unfoldable pub read_plan : List ℕ → Outcome (List Step)
read_plan s = list_from step_id (λ (p : Place) (count : ℕ). parsed (record_at s p count)) (length s) (suc most_jobs) [] start

-- what `read_plan` answers: how many steps, or the refusal
abbrev pub plan_read : Outcome (List Step) → Result ℕ Refusal
plan_read (accepted xs) = Ok (length xs)
plan_read (refused f) = Err f

-- number and values: 0 and the number of steps, else the refusal's
abbrev pub plan_read_says : Result ℕ Refusal → List ℕ
plan_read_says (Ok n) = 0 ∷ n ∷ []
plan_read_says (Err f) = refusal_says f

-- The bytes of a plan: the one byte string that reads as it.

abbrev pub step_bytes : Step → List ℕ
step_bytes x = cond x.away send_away run_here ∷ x.id ∷ []

unfoldable pub plan_bytes : List Step → List ℕ
plan_bytes [] = plan_end ∷ []
plan_bytes (x ∷ xs) = step_bytes x ++ plan_bytes xs

-- the k-th step, read where it stands; an id 0 kept here past the last one
abbrev pub no_step : Step
no_step = record { id = 0; away = false }

unfoldable pub step_at : List ℕ → ℕ → Step
step_at s k =
    cond (ltb (2 * k + 1) (length s))
    (record { id = get_or s (2 * k + 1) 0; away = eqb (get_or s (2 * k) 0) send_away })
    no_step

-- A plan as the code holds it while it is made: the entries that no step has hold `no_step`.

abbrev pub plan_of : List Step → Plan
plan_of xs = record { count = length xs; steps = xs ++ replicate (most_jobs - length xs) no_step }

-- its steps
abbrev pub steps_of : Plan → List Step
steps_of p = take p.count p.steps

-- one more step
abbrev pub with_step : Plan → Step → Plan
with_step p x = record { count = p.count + 1; steps = set p.steps p.count x }

-- Jobs with their choices as the lines of a plan.

abbrev pub step_of : Chosen → Step
step_of c = record { id = c.job.id; away = c.away }

abbrev pub steps_for : List Chosen → List Step
steps_for cs = map step_of cs
