-- What the lister's code goes by: the job of an id in the table, a plan's steps with their jobs, and the text of what was made.
-- Assumes nothing.
use Rattle.std.specs.Prelude.{Bool, List, ◌++◌, map, ℕ}
use Rattle.std.specs.Prelude.{Option, None, Some}
use Rattle.model.specs.declared.Job.{Job}
use Rattle.model.specs.Timetable.{Chosen, Placed}
use Rattle.model.specs.FreeOrder.{laid}
use Rattle.model.specs.Laying.{chosen}
use Rattle.model.specs.Positions.{no_job}
use Rattle.table.specs.declared.Table.{Table}
use Rattle.records.specs.declared.refusal.Refusal.TheVariants as R
use Rattle.records.specs.Refusals.{refusal_says}
use Rattle.table.specs.Tables.{job_table}
use Rattle.lookup.specs.Lookup.{job_of}
use Rattle.plan.specs.declared.Plan.{Plan}
use Rattle.plan.specs.declared.Step.{Step}
use Rattle.plan.specs.Plans.{steps_of}
use Rattle.draft.specs.declared.Draft.{Draft}
use Rattle.lines.specs.Lines.{refused_text}
use Rattle.listing.specs.Listing.{first_line, job_lines, last_line}

-- the job with this id; every step of a plan has one
abbrev pub or_none : Option Job → Job
or_none None = no_job
or_none (Some j) = j

abbrev pub job_with : List Job → ℕ → Job
job_with js id = or_none (job_of js id)

-- a step with its job
abbrev pub with_job : List Job → Step → Chosen
with_job js x = chosen (job_with js x.id) x.away

abbrev pub chosen_for : List Job → List Step → List Chosen
chosen_for js xs = map (with_job js) xs

abbrev pub placed : Job → Bool → ℕ → Placed
placed j away start = record { what = chosen j away; start = start }

-- a line for each step of a plan, back to back from tick 0
abbrev pub step_lines : Table → Plan → List ℕ
step_lines t p = job_lines (laid 0 (chosen_for (job_table t).jobs (steps_of p)))

-- the text of a draft, and of what the planner made
unfoldable pub draft_text : Table → Draft → List ℕ
draft_text t d = first_line t.deadline t.count ++ step_lines t d.plan ++ last_line d.laid.busy d.laid.last

abbrev pub made_text : Table → Option Draft → List ℕ
made_text t (Some d) = draft_text t d
made_text t None = refused_text (refusal_says R.None)
