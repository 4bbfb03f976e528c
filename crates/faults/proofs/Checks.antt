-- Every table and plan come to something: the refusal of the first fault, or a pass; and `check_plan` says of them exactly that (`check_is`).
-- proofs/Says.antt tells the same of the check's own contract, in numbers. Assumes nothing.
use Prim.Native.Nat.{ℕ, ◌+◌}
use native.Mathlib.Omega.{arith}
use mathlib.Core.Path.{◌≡◌, refl, sym, ap, subst, ◌∙◌}
use mathlib.Core.Logic.{◌⊎◌, inl, inr, ◌↔◌, ⊎_elim}
use mathlib.Core.Bool.{Bool, true, false, cond, not, ◌&&◌, ◌||◌, or-true}
use mathlib.Core.List.{List, [], ◌∷◌, ◌++◌, map, Memᴰ, append-nil}
use Rattle.std.specs.Prelude.{None, Some, Err}
use lib.Seq.{append_snoc}
use lib.Dec.{T, leb}
use borrow.Author.Tests.{leb-true, leb-false, ne_eqb}
use Rattle.model.specs.declared.Job.{Job}
use Rattle.model.specs.Lists.{All}
use Rattle.model.specs.Timetable.{Chosen, Allowed, is_either, span}
use Rattle.model.specs.FreeOrder.{Fits, busy, last_from}
use Rattle.model.specs.Laying.{chosen}
use Rattle.model.specs.Run.{OnTime}
use Rattle.model.proofs.Lists.{clash, all_map, all_append, all_of_map}
use Rattle.model.proofs.PlanOrder.{job_of as the_job}
use Rattle.model.proofs.Runs.{fits_iff_runs}
use Rattle.model.proofs.Bounds.{fits_last}
use Rattle.records.specs.declared.refusal.Refusal.{Refusal}
use Rattle.records.specs.declared.refusal.Refusal.TheVariants.{Stranger, Kept, Left, Late}
use Rattle.records.specs.Refusals.{Outcome, accepted, refused}
use Rattle.records.specs.Records.{used}
use Rattle.table.specs.Tables.{JobTable, GoodTable, job_id}
use Rattle.records.proofs.Listed.{Distinct, unused_differs, differs_unused}
use Rattle.lookup.specs.Lookup.{job_of, with_key}
use Rattle.lookup.proofs.Lookup.{with_own}
use Rattle.plan.specs.declared.Step.{Step}
use Rattle.plan.specs.Plans.{step_id, steps_for}
use Rattle.judge.specs.Check.{Checked, pass}
use Rattle.judge.specs.Check.{chosen_by, before, listed, lacks_one, timed, after_plan, after_table, check_plan}
use Rattle.judge.proofs.Jobs.{Named, perm_members, listed_from, lacks_that, none_left, all_or_left}
use Rattle.faults.specs.Faults.{Byte, TableIs, PlanIs}
use Rattle.faults.specs.Checks.{StepFault, stranger, kept, RunsOnTime, StepOk, PlanOf, full_run, Misfit, at_step, left, late, CheckIs, no_table, no_plan}
use Rattle.faults.specs.Checks.{misfit, passes}
use Rattle.faults.proofs.Files.{one_or_none, exactly, exactly_one}
use Rattle.faults.proofs.Tables.{table_or_fault, table_read_lem}
use Rattle.faults.proofs.Plans.{plan_or_fault, plan_read_lem}

-- the run at full entries is on time exactly when the jobs fit
full_iff : (D t : ℕ) (cs : List Chosen) → OnTime D t (full_run cs) ↔ Fits D t cs
full_iff D t [] = ((λ h. tt), (λ h. tt))
full_iff D t (c ∷ cs) = let r = full_iff D (t + span c) cs in ((λ h. (h.0, r.0 h.1)), (λ h. (h.0, r.1 h.1)))

-- The run at full entries decides: with it every run is on time, or it is late.
module _ (D : ℕ) (cs : List Chosen) where
  pub runs_full : RunsOnTime D cs → OnTime D 0 (full_run cs)
  runs_full runs = (full_iff D 0 cs).1 ((fits_iff_runs D cs).1 runs)

  pub data Timed : Checked → Type 0 where
    on_time : RunsOnTime D cs → Timed (pass (last_from 0 cs) (busy cs))
    too_late : ¬ OnTime D 0 (full_run cs) → Timed (Err Late)

  pub timed_is : Timed (timed D cs)
  timed_is = step (leb (last_from 0 cs) D) refl
    where
      step : (b : Bool) → leb (last_from 0 cs) D ≡ b → Timed (cond b (pass (last_from 0 cs) (busy cs)) (Err Late))
      step true e = on_time ((fits_iff_runs D cs).0 ((fits_last D 0 cs).1 (leb-true _ _ e)))
      step false e = too_late (λ h. omega (arith, (fits_last D 0 cs).0 ((full_iff D 0 cs).0 h), leb-false (last_from 0 cs) D e))

  -- so only one of the two is said
  said_late : ¬ OnTime D 0 (full_run cs) → {c : Checked} → Timed c → c ≡ Err Late
  said_late out (on_time runs) = absurd (out (runs_full runs))
  said_late out (too_late o) = refl

  said_pass : RunsOnTime D cs → {c : Checked} → Timed c → c ≡ pass (last_from 0 cs) (busy cs)
  said_pass runs (on_time r) = refl
  said_pass runs (too_late out) = absurd (out (runs_full runs))

-- steps without a fault are these jobs with these choices
steps_are :
    (js : List Job) (xs : List Step) → All (StepOk js) xs →
    (cs : List Chosen) × (steps_for cs ≡ xs) × All Allowed cs × All (λ (c : Chosen). Memᴰ c.job js) cs
steps_are js [] h = ([], refl, tt, tt)
steps_are js (x ∷ xs) h =
    let c = h.0 in
    let r = steps_are js xs h.1 in
    (c.0 ∷ r.0, (cc (c.3, r.1)), (c.2, r.2), (c.1, r.3))

-- no job has the id
job_none : (js : List Job) (id : ℕ) → All (λ (j : Job). ¬ (j.id ≡ id)) js → job_of js id ≡ None
unfolding with_key
job_none [] id h = refl
job_none (j ∷ js) id h = rw (ne_eqb j.id id h.0) (job_none js id h.1)

module _ (js : List Job) (distinct : Distinct job_id js) where
  named : (cs : List Chosen) → All (λ (c : Chosen). Memᴰ c.job js) cs → All (Named js) cs
  named cs h = all_map (λ c m. with_own job_id js c.job distinct m) cs h

  -- a step with a fault is refused for it
  step_refused : (x : Step) (f : Refusal) → StepFault js x f → chosen_by x (job_of js x.id) ≡ refused f
  step_refused x f (stranger h) = rw (job_none js x.id h)
  step_refused x f (kept j m e here away) =
      let found : job_of js x.id ≡ Some j = subst (λ (n : ℕ). job_of js n ≡ Some j) e (with_own job_id js j distinct m) in
      rw found (go x.away (is_either j) away here)
    where
      go : (w i : Bool) → w ≡ true → i ≡ false → cond (w && not i) (refused Kept) (accepted (chosen j w)) ≡ refused Kept
      go w i a h = rw (a, h)

  -- and the steps before it are passed by
  listed_until :
      (cs : List Chosen) (x : Step) (later : List Step) (f : Refusal) → All Allowed cs → All (Named js) cs → StepFault js x f →
      listed js (steps_for cs ++ (x ∷ later)) ≡ refused f
  unfolding listed
  listed_until [] x later f a h y = rw (step_refused x f y)
  listed_until (c ∷ cs) x later f a h y = rw (h.0, listed_until cs x later f a.1 h.1 y) (go c.away (is_either c.job) a.0)
    where
      go : (w i : Bool) → T (i || not w) → before (cond (w && not i) (refused Kept) (accepted (chosen c.job w))) (refused f) ≡ refused f
      go true true k = refl
      go true false k = absurd k
      go false true k = refl
      go false false k = refl

  -- a step has a fault or has none
  step_or_fault : (x : Step) → StepOk js x ⊎ ((f : Refusal) × StepFault js x f)
  step_or_fault x = step (one_or_none job_id x.id js)
    where
      choice : (j : Job) → Memᴰ j js → j.id ≡ x.id → (w i : Bool) → x.away ≡ w → is_either j ≡ i → StepOk js x ⊎ ((f : Refusal) × StepFault js x f)
      choice j m e true true a b =
          inl (chosen j x.away, m, subst (λ (i : Bool). T (i || not x.away)) (sym b) tt, (λ i. record { id = e i; away = x.away }))
      choice j m e true false a b = inr (Kept, kept j m e b a)
      choice j m e false i a b =
          inl (
            chosen j x.away,
            m,
            subst (λ (w : Bool). T (is_either j || not w)) (sym a) (subst T (sym (or-true (is_either j))) tt),
            (λ i. record { id = e i; away = x.away }),
          )

      step : ((j : Job) × Memᴰ j js × (j.id ≡ x.id)) ⊎ All (λ (j : Job). ¬ (j.id ≡ x.id)) js → StepOk js x ⊎ ((f : Refusal) × StepFault js x f)
      step (inl r) = choice r.0 r.1 r.2 x.away (is_either r.0) refl refl
      step (inr h) = inr (Stranger, stranger h)

-- the steps up to the first that has a fault, or all of them without one
abbrev Steps : JobTable → List Step → Type 0
Steps t xs = All (StepOk t.jobs) xs ⊎ ((f : Refusal) × Misfit t xs f)

steps_or_fault : (t : JobTable) → Distinct job_id t.jobs → (done xs : List Step) → All (StepOk t.jobs) done → Steps t (done ++ xs)
steps_or_fault t distinct done [] h = inl (rw append-nil h)
steps_or_fault t distinct done (x ∷ xs) h = step (step_or_fault t.jobs distinct x) (λ k. steps_or_fault t distinct (done ++ (x ∷ [])) xs k)
  where
    step :
        StepOk t.jobs x ⊎ ((f : Refusal) × StepFault t.jobs x f) →
        (All (StepOk t.jobs) (done ++ (x ∷ [])) → Steps t (done ++ (x ∷ []) ++ xs)) → Steps t (done ++ (x ∷ xs))
    step (inl ok) on = rw append_snoc at (on (all_append (StepOk t.jobs) done (x ∷ []) h (ok, tt)))
    step (inr y) on = inr (y.0, at_step done x xs h y.1)

-- the job that a plan lacks
lacks_tells : (ids : List ℕ) (js : List Job) → lacks_one js ids ≡ true → (j : Job) × Memᴰ j js × (used ids j.id ≡ false)
unfolding lacks_one
lacks_tells ids [] e = clash (cc)
lacks_tells ids (j ∷ js) e = step (used ids j.id) refl e (lacks_tells ids js)
  where
    step :
        (b : Bool) → used ids j.id ≡ b → (not b || lacks_one js ids) ≡ true →
        (lacks_one js ids ≡ true → (i : Job) × Memᴰ i js × (used ids i.id ≡ false)) → (i : Job) × Memᴰ i (j ∷ js) × (used ids i.id ≡ false)
    step true u e on = let r = on e in (r.0, Memᴰ.tail r.1, r.2)
    step false u e on = (j, Memᴰ.head refl, u)

module _ (t : JobTable) (good : GoodTable t) where
  abbrev js : List Job
  js = t.jobs

  -- a plan of the table's jobs is judged by its run at full entries
  module _ (cs : List Chosen) (plan : PlanOf js cs) where
    plan_judged : after_plan t (accepted (steps_for cs)) ≡ timed t.deadline cs
    plan_judged =
        rw (
          listed_from js cs plan.allowed (named js good.distinct cs (all_of_map the_job _ cs (perm_members plan.each))),
          none_left js cs plan.each,
        )

  misfit_read : {xs : List Step} {f : Refusal} → Misfit t xs f → after_plan t (accepted xs) ≡ Err f
  misfit_read (at_step done x later {f} ok y) =
      let r = steps_are js done ok in
      let refuses : listed js (done ++ (x ∷ later)) ≡ refused f =
      rw (← r.1) (listed_until js good.distinct r.0 x later f r.2 (named js good.distinct r.0 r.3) y) in
      rw refuses
  misfit_read (left xs j ok m d) =
      let r = steps_are js xs ok in
      let lists : listed js xs ≡ accepted r.0 = ap (listed js) (sym r.1) ∙ listed_from js r.0 r.2 (named js good.distinct r.0 r.3) in
      rw (lists, lacks_that (map step_id xs) (differs_unused step_id xs j.id d) m)
  misfit_read (late cs plan out) = plan_judged cs plan ∙ said_late t.deadline cs out (timed_is t.deadline cs)

-- a well-formed plan of its table's jobs is judged by its run at full entries
pub plan_checked :
    (s p : List ℕ) (t : JobTable) (cs : List Chosen) → TableIs s (accepted t) → PlanIs p (accepted (steps_for cs)) → PlanOf t.jobs cs →
    check_plan s p ≡ timed t.deadline cs
unfolding check_plan
plan_checked s p t cs table plan of =
    ap (after_table p) (table_read_lem s (accepted t) table) ∙
    (ap (after_plan t) (plan_read_lem p (accepted (steps_for cs)) plan) ∙ plan_judged t table.0 cs of)

-- what they come to is what the check says
pub check_read : (s p : List ℕ) (c : Checked) → CheckIs s p c → check_plan s p ≡ c
unfolding check_plan
check_read s p c (no_table {f} y) = rw (table_read_lem s (refused f) y)
check_read s p c (no_plan t {f} table y) = rw (table_read_lem s (accepted t) table, plan_read_lem p (refused f) y)
check_read s p c (misfit t xs table plan y) =
    ap (after_table p) (table_read_lem s (accepted t) table) ∙ (ap (after_plan t) (plan_read_lem p (accepted xs) plan) ∙ misfit_read t table.0 y)
check_read s p c (passes t cs table plan of runs) =
    plan_checked s p t cs table plan of ∙ said_pass t.deadline cs runs (timed_is t.deadline cs)

-- And they come to something.
module _ (s p : List ℕ) where
  abbrev Something : Type 0
  Something = (c : Checked) × CheckIs s p c

  module _ (t : JobTable) (table : TableIs s (accepted t)) where
    timely : (cs : List Chosen) → PlanIs p (accepted (steps_for cs)) → PlanOf t.jobs cs → {c : Checked} → Timed t.deadline cs c → Something
    timely cs plan of (on_time runs) = (_, passes t cs table plan of runs)
    timely cs plan of (too_late out) = (_, misfit t (steps_for cs) table plan (late cs of out))

    -- steps of jobs of the table list all of them or leave one out
    listed_or_left :
        (cs : List Chosen) → PlanIs p (accepted (steps_for cs)) → All Allowed cs → All (λ (c : Chosen). Memᴰ c.job t.jobs) cs →
        All (StepOk t.jobs) (steps_for cs) → Something
    listed_or_left cs plan allowed members ok =
        ⊎_elim
        (λ r. timely cs plan (record { each = r.1; allowed = allowed }) (timed_is t.deadline cs))
        (λ r.
        let lacks = lacks_tells (map step_id (steps_for cs)) t.jobs r.1 in
        let differs = unused_differs step_id (steps_for cs) lacks.0.id lacks.2 in
        (Err Left, misfit t (steps_for cs) table plan (left (steps_for cs) lacks.0 ok lacks.1 differs)))
        (all_or_left t.jobs cs table.0.distinct plan.0.distinct (named t.jobs table.0.distinct cs members))

    of_steps : (xs : List Step) → PlanIs p (accepted xs) → Steps t xs → Something
    of_steps xs plan (inl ok) = let r = steps_are t.jobs xs ok in listed_or_left r.0 (rw r.1 plan) r.2 r.3 (rw r.1 ok)
    of_steps xs plan (inr y) = (Err y.0, misfit t xs table plan y.1)

    of_plan : (o : Outcome (List Step)) → PlanIs p o → Something
    of_plan (accepted xs) plan = of_steps xs plan (steps_or_fault t table.0.distinct [] xs tt)
    of_plan (refused f) y = (Err f, no_plan t table y)

  of_table : (o : Outcome JobTable) → TableIs s o → Something
  of_table (accepted t) table = of_plan t table (plan_or_fault p).0 (plan_or_fault p).1
  of_table (refused f) y = (Err f, no_table y)

  pub check_there : All Byte s → Something
  check_there bytes = of_table (table_or_fault s bytes).0 (table_or_fault s bytes).1

pub check_is : (s p : List ℕ) → All Byte s → (c : Checked) → (check_plan s p ≡ c) ↔ CheckIs s p c
check_is s p bytes = exactly (CheckIs s p) (check_plan s p) (check_there s p bytes) (check_read s p)

-- exactly one of all answers is it
pub check_one : (s p : List ℕ) → All Byte s → (c : Checked) × CheckIs s p c × ((d : Checked) → CheckIs s p d → c ≡ d)
check_one s p bytes = exactly_one (CheckIs s p) (check_plan s p) (check_there s p bytes) (check_read s p)
