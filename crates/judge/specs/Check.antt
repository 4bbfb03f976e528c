-- Document 01, 'The check': "The proposed plan may come from anybody's program."
-- `check_plan` says what every table and every plan gets. Assumes nothing.
use Rattle.std.specs.Prelude.{Bool, false, cond, not, ◌&&◌, ◌||◌, List, [], ◌∷◌, map, ℕ, leb, Err, Ok, Result}
use Rattle.std.specs.Prelude.{Option, None, Some}
use Rattle.model.specs.declared.Job.{Job}
use Rattle.model.specs.Timetable.{Chosen, is_either}
use Rattle.model.specs.FreeOrder.{busy, last_from}
use Rattle.model.specs.Laying.{chosen}
use Rattle.records.specs.declared.refusal.Refusal.{Refusal}
use Rattle.records.specs.declared.refusal.Refusal.TheVariants.{Stranger, Kept, Left, Late}
use Rattle.records.specs.Refusals.{refusal_says, Outcome, accepted, refused}
use Rattle.records.specs.Records.{used}
use Rattle.table.specs.Tables.{JobTable, read_table}
use Rattle.lookup.specs.Lookup.{job_of}
use Rattle.plan.specs.declared.Step.{Step}
use Rattle.plan.specs.Plans.{step_id, read_plan}
use Rattle.judge.specs.declared.Passed.{Passed}

-- What the check answers: "a pass returns that run's last finish and busy total"; or a refusal.
abbrev pub Checked : Type 0
Checked = Result Passed Refusal

abbrev pub pass : ℕ → ℕ → Checked
pass last busy = Ok (record { last = last; busy = busy })

-- number and values
abbrev pub checked_says : Checked → List ℕ
checked_says (Ok run) = 0 ∷ run.last ∷ run.busy ∷ []
checked_says (Err f) = refusal_says f

-- "STRANGER: plan names an id that the table lacks; KEPT: plan sends a here-only job away"
abbrev pub chosen_by : Step → Option Job → Outcome Chosen
chosen_by x None = refused Stranger
chosen_by x (Some j) = cond (x.away && not (is_either j)) (refused Kept) (accepted (chosen j x.away))

-- "then record by record": the plan's jobs with their choices, in plan order
abbrev pub before : Outcome Chosen → Outcome (List Chosen) → Outcome (List Chosen)
before (refused f) cs = refused f
before (accepted c) (refused f) = refused f
before (accepted c) (accepted cs) = accepted (c ∷ cs)

unfoldable pub listed : List Job → List Step → Outcome (List Chosen)
listed js [] = accepted []
listed js (x ∷ xs) = before (chosen_by x (job_of js x.id)) (listed js xs)

-- "LEFT: plan lacks a job of the table"
unfoldable pub lacks_one : List Job → List ℕ → Bool
lacks_one [] ids = false
lacks_one (j ∷ js) ids = not (used ids j.id) || lacks_one js ids

-- "LATE: plan run at full entries misses D", the listed jobs back to back from tick 0
abbrev pub timed : ℕ → List Chosen → Checked
timed D cs = cond (leb (last_from 0 cs) D) (pass (last_from 0 cs) (busy cs)) (Err Late)

-- "Order: the table's refusals, the plan's, then record by record STRANGER, KEPT; then LEFT; then LATE."
abbrev pub after_listed : JobTable → List Step → Outcome (List Chosen) → Checked
after_listed t xs (refused f) = Err f
after_listed t xs (accepted cs) = cond (lacks_one t.jobs (map step_id xs)) (Err Left) (timed t.deadline cs)

abbrev pub after_plan : JobTable → Outcome (List Step) → Checked
after_plan t (refused f) = Err f
after_plan t (accepted xs) = after_listed t xs (listed t.jobs xs)

abbrev pub after_table : List ℕ → Outcome JobTable → Checked
after_table plan (refused f) = Err f
after_table plan (accepted t) = after_plan t (read_plan plan)

unfoldable pub check_plan : List ℕ → List ℕ → Checked
check_plan table plan = after_table plan (read_table table)
