-- Document 01, 'The check' and 'Refusal numbers': what a table and a plan come to, told with neither reader nor check.
-- That `check_plan` says exactly this is proved in proofs/Checks.antt. Assumes nothing.
use Rattle.std.specs.Prelude.{ℕ, ◌≤◌, ◌≡◌, true, false, length, Err}
use mathlib.Core.List.{List, [], ◌∷◌, ◌++◌, map, Memᴰ, Permᴰ}
use Rattle.model.specs.declared.Job.{Job}
use Rattle.model.specs.Lists.{All}
use Rattle.model.specs.Timetable.{Chosen, Allowed, is_either, span, wait}
use Rattle.model.specs.FreeOrder.{busy, last_from}
use Rattle.model.specs.Run.{Took, RunOf, OnTime}
use Rattle.records.specs.declared.refusal.Refusal.{Refusal}
use Rattle.records.specs.declared.refusal.Refusal.TheVariants.{Stranger, Kept, Left, Late}
use Rattle.records.specs.Refusals.{accepted}
use Rattle.table.specs.Tables.{JobTable}
use Rattle.plan.specs.declared.Step.{Step}
use Rattle.plan.specs.Plans.{step_of, steps_for}
use Rattle.judge.specs.Check.{Checked, pass}
use Rattle.judge.specs.Check.{checked_says}
use Rattle.faults.specs.Faults.{TableFault, PlanFault, TableIs, PlanIs, FaultAt}

-- every permitted run of the jobs, in this order and with these choices, is on time
abbrev pub RunsOnTime : ℕ → List Chosen → Type 0
RunsOnTime D cs = (rs : List Took) → RunOf cs rs → OnTime D 0 rs

-- "STRANGER: plan names an id that the table lacks. KEPT: plan sends a here-only job away."
pub data StepFault (js : List Job) (x : Step) : Refusal → Type 0 where
  stranger : All (λ (j : Job). ¬ (j.id ≡ x.id)) js → StepFault js x Stranger
  kept : (j : Job) → Memᴰ j js → j.id ≡ x.id → is_either j ≡ false → x.away ≡ true → StepFault js x Kept

-- neither: the step is of a job of the table, with an allowed choice
abbrev pub StepOk : List Job → Step → Type 0
StepOk js x = (c : Chosen) × Memᴰ c.job js × Allowed c × (step_of c ≡ x)

-- the steps are of the table's jobs in some order, each once and with an allowed choice
pub record PlanOf (js : List Job) (cs : List Chosen) : Type 0 where
  pub each : Permᴰ (map (λ (c : Chosen). c.job) cs) js
  pub allowed : All Allowed cs

-- "the run at full entries"
abbrev pub full_run : List Chosen → List Took
full_run = map (λ (c : Chosen). record { what = c; spent = span c; waited = wait c })

-- "then record by record STRANGER, KEPT; then LEFT; then LATE", of a plan that was read
pub data Misfit (t : JobTable) : List Step → Refusal → Type 0 where
  at_step :
      (before : List Step) (x : Step) (later : List Step) {f : Refusal} → All (StepOk t.jobs) before → StepFault t.jobs x f →
      Misfit t (before ++ (x ∷ later)) f
  left : (xs : List Step) (j : Job) → All (StepOk t.jobs) xs → Memᴰ j t.jobs → All (λ (x : Step). ¬ (x.id ≡ j.id)) xs → Misfit t xs Left
  late : (cs : List Chosen) → PlanOf t.jobs cs → ¬ OnTime t.deadline 0 (full_run cs) → Misfit t (steps_for cs) Late

-- "Order: the table's refusals, the plan's", then these; "a pass returns that run's last finish and busy total", and every run is then on time
pub data CheckIs (s p : List ℕ) : Checked → Type 0 where
  no_table : {f : Refusal} → TableFault s f → CheckIs s p (Err f)
  no_plan : (t : JobTable) {f : Refusal} → TableIs s (accepted t) → PlanFault p f → CheckIs s p (Err f)
  misfit : (t : JobTable) (xs : List Step) {f : Refusal} → TableIs s (accepted t) → PlanIs p (accepted xs) → Misfit t xs f → CheckIs s p (Err f)
  passes :
      (t : JobTable) (cs : List Chosen) → TableIs s (accepted t) → PlanIs p (accepted (steps_for cs)) → PlanOf t.jobs cs →
      RunsOnTime t.deadline cs → CheckIs s p (pass (last_from 0 cs) (busy cs))

-- the same in numbers: 0, last finish and busy total; 1 to 6 and a place; 8 STRANGER, 9 KEPT, 10 LEFT, 11 LATE
abbrev pub CheckSays : List ℕ → List ℕ → List ℕ → Type 0
CheckSays s p ns = (c : Checked) × CheckIs s p c × (checked_says c ≡ ns)

-- what a pass with these figures means
pub record Passed (s p figures : List ℕ) : Type 0 where
  pub t : JobTable
  pub cs : List Chosen
  pub table : TableIs s (accepted t)
  pub plan : PlanIs p (accepted (steps_for cs))
  pub exactly : PlanOf t.jobs cs
  pub runs : RunsOnTime t.deadline cs
  pub says : figures ≡ last_from 0 cs ∷ busy cs ∷ []

-- which numbers there are: of a pass; of a fault in the table or in the plan, placed in it or at its length; of a plan that does not fit its table
pub data CheckNumbers (s p : List ℕ) (ns : List ℕ) : Type 0 where
  of_pass : (last busy : ℕ) → ns ≡ 0 ∷ last ∷ busy ∷ [] → CheckNumbers s p ns
  of_table : FaultAt (length s) ns → CheckNumbers s p ns
  of_plan : FaultAt (length p) ns → CheckNumbers s p ns
  of_misfit : (n : ℕ) → 8 ≤ n → n ≤ 11 → ns ≡ n ∷ [] → CheckNumbers s p ns
