-- The readers' and the check's own contracts, in document 01's numbers: whatever they allow says ns exactly when the account of specs/ says ns.
-- Assumes nothing.
use Rattle.std.specs.Prelude.{Result, Ok}
use Prim.Native.Nat.{ℕ}
use mathlib.Core.Path.{◌≡◌, refl, sym, ap, subst, ◌∙◌}
use mathlib.Core.Logic.{◌⊎◌, inl, inr, ◌↔◌}
use mathlib.Core.List.{List, [], ◌∷◌}
use lib.ListN.{length}
use Rattle.model.specs.Lists.{All}
use Rattle.model.specs.Timetable.{Chosen}
use Rattle.model.specs.FreeOrder.{busy, last_from}
use Rattle.model.proofs.Lists.{clash}
use Rattle.records.specs.declared.refusal.Refusal.{Refusal}
use Rattle.table.specs.declared.Table.{Table}
use Rattle.records.specs.Refusals.{refusal_says, Outcome, accepted, refused}
use Rattle.table.specs.Tables.{JobTable, job_table, table_of, table_read, verdict_says, table_bytes}
use Rattle.table.proofs.Accepted.{held_table}
use Rattle.records.proofs.Refusals.{says_not_zero}
use Rattle.plan.specs.declared.Step.{Step}
use Rattle.plan.specs.Plans.{plan_read, plan_read_says, steps_for}
use Rattle.judge.specs.Check.{Checked}
use Rattle.judge.specs.Check.{checked_says}
use Rattle.faults.specs.Faults.{Byte, TableIs, PlanIs, TableSays, a_table, table_fault, PlanSays, a_plan, plan_fault, FaultAt}
use Rattle.faults.specs.Checks.{RunsOnTime, PlanOf, CheckIs, no_table, no_plan, misfit, passes, CheckSays, Passed, CheckNumbers}
use Rattle.faults.specs.Checks.{of_pass, of_table, of_plan, of_misfit}
use Rattle.faults.specs.Allows.{TableAllows, PlanAllows, CheckAllows}
use Rattle.faults.proofs.Files.{exactly}
use Rattle.faults.proofs.Tables.{table_or_fault, table_read_lem}
use Rattle.faults.proofs.Plans.{plan_or_fault, plan_read_lem}
use Rattle.faults.proofs.Checks.{Timed, on_time, too_late, timed_is, runs_full, plan_checked, check_read, check_there}
use Rattle.faults.proofs.Numbers.{table_placed, plan_placed, misfit_number}

-- The table's reader.
module _ (s : List ℕ) (r : Result Table Refusal) (allows : TableAllows s r) where
  -- what is said of what the bytes are
  says_table : (ns : List ℕ) → TableSays s ns → verdict_says r ≡ ns
  says_table ns (a_table t is) = ap verdict_says (allows ∙ ap table_read (table_read_lem s (accepted t) is))
  says_table ns (table_fault f is) = ap verdict_says (allows ∙ ap table_read (table_read_lem s (refused f) is))

  -- where the bytes are a table's, it holds the table
  pub table_held : (t : JobTable) → TableIs s (accepted t) → (u : Table) × (r ≡ Ok u) × (job_table u ≡ t)
  table_held t is = (table_of t.deadline t.jobs, allows ∙ ap table_read (table_read_lem s (accepted t) is), held_table t)

  module _ (bytes : All Byte s) where
    something : (ns : List ℕ) × TableSays s ns
    something = step (table_or_fault s bytes).0 (table_or_fault s bytes).1
      where
        step : (o : Outcome JobTable) → TableIs s o → (ns : List ℕ) × TableSays s ns
        step (accepted t) is = (0 ∷ [], a_table t is)
        step (refused f) is = (refusal_says f, table_fault f is)

    pub table_says : (ns : List ℕ) → (verdict_says r ≡ ns) ↔ TableSays s ns
    table_says = exactly (TableSays s) (verdict_says r) something says_table

    -- 0, or a number from 1 to 6 and a place in the file or its length
    pub table_number : (verdict_says r ≡ 0 ∷ []) ⊎ FaultAt (length s) (verdict_says r)
    table_number = step ((table_says (verdict_says r)).0 refl)
      where
        step : {ns : List ℕ} → TableSays s ns → (ns ≡ 0 ∷ []) ⊎ FaultAt (length s) ns
        step (a_table t is) = inl refl
        step (table_fault f is) = inr (table_placed is)

-- so two byte strings that are read as the same table are equal
pub read_injective :
    (s u : List ℕ) → All Byte s → All Byte u → (r : Result Table Refusal) → TableAllows s r → TableAllows u r → verdict_says r ≡ 0 ∷ [] → s ≡ u
read_injective s u bs bu r first second whole =
    let t = the_table s ((table_says s r first bs (0 ∷ [])).0 whole) refl in
    let v = the_table u ((table_says u r second bu (0 ∷ [])).0 whole) refl in
    let a = table_held s r first t.0 t.1 in
    let b = table_held u r second v.0 v.1 in
    let same : a.0 ≡ b.0 = let e = sym a.1 ∙ b.1 in cc in
    t.1.1 ∙ (ap table_bytes (sym a.2 ∙ ap job_table same ∙ b.2) ∙ sym v.1.1)
  where
    the_table : (l : List ℕ) {ns : List ℕ} → TableSays l ns → ns ≡ 0 ∷ [] → (t : JobTable) × TableIs l (accepted t)
    the_table l (a_table t is) e = (t, is)
    the_table l (table_fault f is) e = absurd (says_not_zero f [] e)

-- The plan's reader.
module _ (s : List ℕ) (r : Result ℕ Refusal) (allows : PlanAllows s r) where
  says_plan : (ns : List ℕ) → PlanSays s ns → plan_read_says r ≡ ns
  says_plan ns (a_plan xs is) = ap plan_read_says (allows ∙ ap plan_read (plan_read_lem s (accepted xs) is))
  says_plan ns (plan_fault f is) = ap plan_read_says (allows ∙ ap plan_read (plan_read_lem s (refused f) is))

  steps_or : (ns : List ℕ) × PlanSays s ns
  steps_or = step (plan_or_fault s).0 (plan_or_fault s).1
    where
      step : (o : Outcome (List Step)) → PlanIs s o → (ns : List ℕ) × PlanSays s ns
      step (accepted xs) is = (_, a_plan xs is)
      step (refused f) is = (refusal_says f, plan_fault f is)

  pub plan_says : (ns : List ℕ) → (plan_read_says r ≡ ns) ↔ PlanSays s ns
  plan_says = exactly (PlanSays s) (plan_read_says r) steps_or says_plan

  pub plan_number : ((n : ℕ) × (plan_read_says r ≡ 0 ∷ n ∷ [])) ⊎ FaultAt (length s) (plan_read_says r)
  plan_number = step ((plan_says (plan_read_says r)).0 refl)
    where
      step : {ns : List ℕ} → PlanSays s ns → ((n : ℕ) × (ns ≡ 0 ∷ n ∷ [])) ⊎ FaultAt (length s) ns
      step (a_plan xs is) = inl (_, refl)
      step (plan_fault f is) = inr (plan_placed is)

-- The check.
module _ (s p : List ℕ) (r : Checked) (allows : CheckAllows s p r) where
  says_checked : (ns : List ℕ) → CheckSays s p ns → checked_says r ≡ ns
  says_checked ns c = ap checked_says (allows ∙ check_read s p c.0 c.1) ∙ c.2

  module _ (bytes : All Byte s) where
    pub check_says : (ns : List ℕ) → (checked_says r ≡ ns) ↔ CheckSays s p ns
    check_says = let c = check_there s p bytes in exactly (CheckSays s p) (checked_says r) (checked_says c.0, (c.0, c.1, refl)) says_checked

    -- which numbers it can say
    pub check_number : CheckNumbers s p (checked_says r)
    check_number = let c = (check_says (checked_says r)).0 refl in subst (CheckNumbers s p) c.2 (step c.1)
      where
        step : {c : Checked} → CheckIs s p c → CheckNumbers s p (checked_says c)
        step (no_table y) = of_table (table_placed y)
        step (no_plan t table y) = of_plan (plan_placed y)
        step (misfit t xs table plan y) = let n = misfit_number y in of_misfit n.0 n.1 n.2 n.3
        step (passes t cs table plan of runs) = of_pass (last_from 0 cs) (busy cs) refl

    -- what a pass means: the plan lists exactly the table's jobs, with allowed choices, and every permitted run of it is on time
    pub pass_means : (ns : List ℕ) → checked_says r ≡ 0 ∷ ns → Passed s p ns
    pass_means ns e = let c = (check_says (0 ∷ ns)).0 e in step c.1 c.2
      where
        step : {c : Checked} → CheckIs s p c → checked_says c ≡ 0 ∷ ns → Passed s p ns
        step (no_table {f} y) e = absurd (says_not_zero f ns e)
        step (no_plan t {f} table y) e = absurd (says_not_zero f ns e)
        step (misfit t xs {f} table plan y) e = absurd (says_not_zero f ns e)
        step (passes t cs table plan of runs) e = record { t = t; cs = cs; table = table; plan = plan; exactly = of; runs = runs; says = (cc) }

  -- A well-formed plan of exactly its table's jobs, sending away only those that may go.
  module _
      (t : JobTable) (cs : List Chosen) (table : TableIs s (accepted t)) (plan : PlanIs p (accepted (steps_for cs))) (of : PlanOf t.jobs cs) where
    -- what it is told, and what that means
    abbrev OnTimeSaid : Checked → Type 0
    OnTimeSaid c = (checked_says c ≡ 0 ∷ last_from 0 cs ∷ busy cs ∷ []) × RunsOnTime t.deadline cs

    abbrev LateSaid : Checked → Type 0
    LateSaid c = (checked_says c ≡ 11 ∷ []) × ¬ RunsOnTime t.deadline cs

    one_of : OnTimeSaid r ⊎ LateSaid r
    one_of =
        subst (λ (c : Checked). OnTimeSaid c ⊎ LateSaid c) (sym (allows ∙ plan_checked s p t cs table plan of)) (step (timed_is t.deadline cs))
      where
        step : {c : Checked} → Timed t.deadline cs c → OnTimeSaid c ⊎ LateSaid c
        step (on_time runs) = inl (refl, runs)
        step (too_late out) = inr (refl, λ runs. out (runs_full t.deadline cs runs))

    -- passes exactly when every permitted run is on time
    pub pass_iff_runs : (checked_says r ≡ 0 ∷ last_from 0 cs ∷ busy cs ∷ []) ↔ RunsOnTime t.deadline cs
    pass_iff_runs = step one_of
      where
        step : OnTimeSaid r ⊎ LateSaid r → (checked_says r ≡ 0 ∷ last_from 0 cs ∷ busy cs ∷ []) ↔ RunsOnTime t.deadline cs
        step (inl h) = ((λ e. h.1), (λ k. h.0))
        step (inr h) = ((λ e. clash (cc h.0)), (λ k. absurd (h.1 k)))

    -- and is LATE exactly when not; there is no third answer
    pub late_iff : (checked_says r ≡ 11 ∷ []) ↔ ¬ RunsOnTime t.deadline cs
    late_iff = step one_of
      where
        step : OnTimeSaid r ⊎ LateSaid r → (checked_says r ≡ 11 ∷ []) ↔ ¬ RunsOnTime t.deadline cs
        step (inl h) = ((λ e. clash (cc h.0)), (λ k. absurd (k h.1)))
        step (inr h) = ((λ e. h.1), (λ k. h.0))

    pub pass_or_late : (checked_says r ≡ 0 ∷ last_from 0 cs ∷ busy cs ∷ []) ⊎ (checked_says r ≡ 11 ∷ [])
    pass_or_late = step one_of
      where
        step : OnTimeSaid r ⊎ LateSaid r → (checked_says r ≡ 0 ∷ last_from 0 cs ∷ busy cs ∷ []) ⊎ (checked_says r ≡ 11 ∷ [])
        step (inl h) = inl h.0
        step (inr h) = inr h.0
