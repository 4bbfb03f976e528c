-- The tables that the statements about empty and wrong versions are shown by, as bytes and as what they read as; and what every answer in the given
-- order is for three of them. Assumes nothing.
use mathlib.Core.Path.{◌≡◌, refl}
use mathlib.Core.Bool.{true, false}
use mathlib.Core.List.{List, [], ◌∷◌, ◌++◌}
use Prim.Native.Nat.{ℕ, ◌≤◌}
use lib.ListN.{length, drop}
use Rattle.model.specs.declared.Sending.TheVariants.{HereOnly, Either}
use Rattle.model.specs.declared.Job.{Job}
use Rattle.model.specs.Timetable.{Chosen}
use Rattle.records.specs.Limits.{longest_plan}
use Rattle.records.specs.Refusals.{accepted}
use Rattle.records.specs.Records.{form_of, judged, used, list_from}
use Rattle.table.specs.Tables.{JobTable, frame_at, job_at, jobs_read, read_table}
use Rattle.plan.specs.Plans.{plan_bytes}
use Rattle.planner.specs.Answers.{Planned}
use Rattle.planner.specs.Answers.{planned_says, GivenAnswer}
use Rattle.marked.specs.Marked.{E, plan_e, either, stays, framed}
use Rattle.marked.proofs.Cases.{given_plan_case}

abbrev pub either_job : ℕ → ℕ → ℕ → ℕ → Job
either_job n c s i = record { id = n; local = c; sending = Either s i }

abbrev pub here_job : ℕ → ℕ → Job
here_job n c = record { id = n; local = c; sending = HereOnly }

abbrev pub job_table : ℕ → List Job → JobTable
job_table D js = record { deadline = D; jobs = js }

abbrev pub sent : Job → Chosen
sent j = record { job = j; away = true }

abbrev pub kept : Job → Chosen
kept j = record { job = j; away = false }

-- Table E: its jobs, and its plan
abbrev pub e1 : Job
e1 = either_job 1 30 5 40

abbrev pub e2 : Job
e2 = either_job 2 20 10 10

abbrev pub e3 : Job
e3 = here_job 3 25

abbrev pub table_e : JobTable
table_e = job_table 45 (e1 ∷ e2 ∷ e3 ∷ [])

abbrev pub chosen_e : List Chosen
chosen_e = sent e1 ∷ sent e2 ∷ kept e3 ∷ []

pub read_e : read_table E ≡ accepted table_e
unfolding E read_table frame_at jobs_read job_at judged form_of list_from used
read_e = refl

-- E with D 44, for which the plan of E is late
abbrev pub bytes44 : List ℕ
bytes44 = framed 44 (either 1 30 5 40 ++ (either 2 20 10 10 ++ stays 3 25))

-- case 6
abbrev pub table6 : List ℕ
table6 = framed 20 (either 1 10 10 0 ++ either 2 10 10 0)

abbrev pub plan6 : List ℕ
plan6 = 0x20 ∷ 0x01 ∷ 0x20 ∷ 0x02 ∷ 0x2F ∷ []

pub read6 : read_table table6 ≡ accepted (job_table 20 (either_job 1 10 10 0 ∷ either_job 2 10 10 0 ∷ []))
unfolding read_table frame_at jobs_read job_at judged form_of list_from used
read6 = refl

-- case 7
abbrev pub table7 : List ℕ
table7 = framed 16 (either 1 10 4 12 ++ either 2 10 4 12)

abbrev pub plan7 : List ℕ
plan7 = 0x21 ∷ 0x01 ∷ 0x20 ∷ 0x02 ∷ 0x2F ∷ []

pub read7 : read_table table7 ≡ accepted (job_table 16 (either_job 1 10 4 12 ∷ either_job 2 10 4 12 ∷ []))
unfolding read_table frame_at jobs_read job_at judged form_of list_from used
read7 = refl

-- case 9, with D 40
abbrev pub n1 : Job
n1 = either_job 1 50 10 10

abbrev pub n2 : Job
n2 = either_job 2 50 10 30

abbrev pub table9 : List ℕ
table9 = framed 40 (either 1 50 10 10 ++ either 2 50 10 30)

pub read9 : read_table table9 ≡ accepted (job_table 40 (n1 ∷ n2 ∷ []))
unfolding read_table frame_at jobs_read job_at judged form_of list_from used
read9 = refl

-- case 10: no jobs
abbrev pub table_no : List ℕ
table_no = 0x10 ∷ 0x01 ∷ 0x00 ∷ 0x1F ∷ []

pub read_no : read_table table_no ≡ accepted (job_table 1 [])
unfolding read_table frame_at jobs_read job_at judged form_of list_from used
read_no = refl

-- "one job C 100, S 5, I 10, D 50 has a plan that ends at 15"
abbrev pub column : Job
column = either_job 1 100 5 10

abbrev pub table_column : List ℕ
table_column = framed 50 (either 1 100 5 10)

pub read_column : read_table table_column ≡ accepted (job_table 50 (column ∷ []))
unfolding read_table frame_at jobs_read job_at judged form_of list_from used
read_column = refl

-- Table E, and the tables of cases 6 and 7, have the same plans in the given order
abbrev AnswerIs : List ℕ → List ℕ → ℕ → ℕ → Type 0
AnswerIs s p busy last =
    (before : List ℕ) (r : Planned) (after : List ℕ) → longest_plan ≤ length before → GivenAnswer s before r after
    → (planned_says r ≡ 0 ∷ length p ∷ busy ∷ last ∷ []) × (after ≡ p ++ drop (length p) before)

pub given_E : AnswerIs E plan_e 40 45
unfolding plan_bytes
given_E = given_plan_case E table_e read_e chosen_e refl

pub given_6 : AnswerIs table6 plan6 20 20
unfolding plan_bytes
given_6 = given_plan_case table6 _ read6 (kept (either_job 1 10 10 0) ∷ kept (either_job 2 10 10 0) ∷ []) refl

pub given_7 : AnswerIs table7 plan7 14 16
unfolding plan_bytes
given_7 = given_plan_case table7 _ read7 (sent (either_job 1 10 4 12) ∷ kept (either_job 2 10 4 12) ∷ []) refl
