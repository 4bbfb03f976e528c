-- What a plan that passes the check tells of its table, position by position: each step names a job, there are as many steps as jobs,
-- and ids differ. Assumes nothing.
use Prim.Native.Nat.{ℕ, zero, suc, ◌<◌, ◌≤◌}
use native.Mathlib.Omega.{arith}
use mathlib.Core.Path.{◌≡◌, refl, sym, ◌∙◌, ap}
use mathlib.Core.Bool.{Bool, true, false, cond}
use mathlib.Core.Logic.{inl, inr}
use mathlib.Core.List.{List, [], ◌∷◌, map}
use Rattle.std.specs.Prelude.{Some, Err, Ok}
use lib.Dec.{eqb}
use lib.ListN.{length, take, get_or, length-map}
use lib.Seq.{length-take-le}
use borrow.Author.Tests.{eqb-true}
use Rattle.model.specs.declared.Job.{Job}
use Rattle.model.specs.Lists.{All, Pairwise}
use Rattle.model.specs.Positions.{no_job}
use Rattle.model.specs.Timetable.{Chosen}
use Rattle.model.proofs.Lists.{clash, all_map, map_all, all_at}
use Rattle.model.proofs.Permutations.{length_perm}
use Rattle.model.proofs.PlanOrder.{job_of as the_job}
use Rattle.records.specs.Refusals.{Outcome, accepted, refused}
use Rattle.table.specs.declared.Table.{Table}
use Rattle.table.specs.Tables.{JobTable, GoodTable, Sound, job_table}
use Rattle.records.specs.declared.refusal.Refusal.TheVariants.{Left}
use Rattle.lookup.specs.Lookup.{job_of, with_key}
use Rattle.plan.specs.declared.Step as plan
use Rattle.plan.specs.Plans.{step_id, no_step, step_at, read_plan, step_of}
use Rattle.plan.proofs.Plans.{accepted_plan, step_at_lem}
use Rattle.judge.specs.declared.Passed.{Passed}
use Rattle.judge.specs.Check.{pass}
use Rattle.judge.specs.Check.{listed, lacks_one, timed, after_listed, after_plan}
use Rattle.judge.proofs.Jobs.{ListedAs, listed_tells, all_or_left}
use Rattle.frame_begin.specs.Begin.{steps_in}

-- ---- elements by position

module _ {A : Type 0} (d : A) where
  pub pairwise_at : (R : A → A → Type 0) (xs : List A) → Pairwise R xs → (i k : ℕ) → i < k → k < length xs → R (get_or xs i d) (get_or xs k d)
  pairwise_at R [] p i k h b = absurd (omega arith)
  pairwise_at R (x ∷ xs) p i zero h b = absurd (omega arith)
  pairwise_at R (x ∷ xs) p zero (suc k) h b = all_at (R x) xs d p.0 k (omega arith)
  pairwise_at R (x ∷ xs) p (suc i) (suc k) h b = pairwise_at R xs p.1 i k (omega arith) (omega arith)

-- ---- the steps of a plan, read where they stand

step_of_lem : (s : List ℕ) (o : Outcome (List plan.Step)) → read_plan s ≡ o → (k : ℕ) → k < length (steps_in o) → step_at s k ≡ get_or (steps_in o) k no_step
step_of_lem s (accepted xs) e k h = step_at_lem s xs e k h
step_of_lem s (refused r) e k h = absurd (omega arith)

pub step_in : (s : List ℕ) (k : ℕ) → k < length (steps_in (read_plan s)) → step_at s k ≡ get_or (steps_in (read_plan s)) k no_step
step_in s k h = step_of_lem s (read_plan s) refl k h

-- ---- what passes

-- the position of the job that a step names
pub record JobFor (js : List Job) (id : ℕ) : Type 0 where
  pub at : ℕ
  pub inside : at < length js
  pub same_id : (get_or js at no_job).id ≡ id

job_for : (js : List Job) (id : ℕ) (j : Job) → job_of js id ≡ Some j → JobFor js id
unfolding with_key
job_for [] id j e = clash (cc)
job_for (x ∷ js) id j e = step (eqb x.id id) refl e (job_for js id j)
  where
    step : (b : Bool) → eqb x.id id ≡ b → cond b (Some x) (job_of js id) ≡ Some j → (job_of js id ≡ Some j → JobFor js id) → JobFor (x ∷ js) id
    step true q e on = record { at = 0; inside = omega arith; same_id = eqb-true x.id id q }
    step false q e on = let r = on e in record { at = suc r.at; inside = omega (arith, r.inside); same_id = r.same_id }

pub record PlanFits (t : JobTable) (xs : List plan.Step) : Type 0 where
  pub good : GoodTable t
  pub enough : length t.jobs ≡ length xs
  pub whole : lacks_one t.jobs (map step_id xs) ≡ false
  pub named : (k : ℕ) → k < length xs → JobFor t.jobs (get_or xs k no_step).id
  pub steps_differ : (i k : ℕ) → i < k → k < length xs → (get_or xs i no_step).id ≡ (get_or xs k no_step).id → ⊥
  pub jobs_differ : (i k : ℕ) → i < k → k < length t.jobs → (get_or t.jobs i no_job).id ≡ (get_or t.jobs k no_job).id → ⊥

module _ (t : JobTable) (good : GoodTable t) (s : List ℕ) (xs : List plan.Step) (read : read_plan s ≡ accepted xs) (last busy : ℕ) where
  abbrev js : List Job
  js = t.jobs

  enough_of : (cs : List Chosen) → ListedAs js xs cs → lacks_one js (map step_id xs) ≡ false → length js ≡ length xs
  enough_of cs l e =
      let counted : length xs ≡ length cs = ap length (sym l.steps) ∙ length-map cs step_of in
      elim (all_or_left js cs good.distinct (rw l.steps (accepted_plan s xs read).1) l.named) [
        | inl all ↦ sym (length_perm all.1) ∙ length-map cs the_job ∙ sym counted
        | inr lacks ↦ let z : lacks_one js (map step_id xs) ≡ true = rw (← l.steps) lacks.1 in clash (cc)
      ]

  named_of : (cs : List Chosen) → ListedAs js xs cs → All (λ (x : plan.Step). JobFor js x.id) xs
  named_of cs l =
      rw (← l.steps) (map_all step_of (λ (x : plan.Step). JobFor js x.id) cs (all_map (λ c e. job_for js c.job.id c.job e) cs l.named))

  passed_of :
      (cs : List Chosen) → ListedAs js xs cs → (b : Bool) → lacks_one js (map step_id xs) ≡ b →
      cond b (Err Left) (timed t.deadline cs) ≡ pass last busy → PlanFits t xs
  passed_of cs l true e p = clash (cc)
  passed_of cs l false e p = record {
    good = good;
    enough = enough_of cs l e;
    whole = e;
    named = λ k h. all_at (λ (x : plan.Step). JobFor js x.id) xs no_step (named_of cs l) k h;
    steps_differ = λ i k h b. pairwise_at no_step (λ (x y : plan.Step). ¬ (x.id ≡ y.id)) xs (accepted_plan s xs read).1 i k h b;
    jobs_differ = λ i k h b. pairwise_at no_job (λ (x y : Job). ¬ (x.id ≡ y.id)) js good.distinct i k h b;
  }

  passed_listed : (o : Outcome (List Chosen)) → listed js xs ≡ o → after_listed t xs o ≡ pass last busy → PlanFits t xs
  passed_listed (refused r) e p = clash (cc)
  passed_listed (accepted cs) e p = passed_of cs (listed_tells js xs cs e) (lacks_one js (map step_id xs)) refl p

passed_read :
    (t : JobTable) → GoodTable t → (s : List ℕ) (last busy : ℕ) (o : Outcome (List plan.Step)) → read_plan s ≡ o → after_plan t o ≡ pass last busy →
    PlanFits t (steps_in o)
passed_read t good s last busy (refused r) e p = clash (cc)
passed_read t good s last busy (accepted xs) e p = passed_listed t good s xs e last busy (listed t.jobs xs) refl p

pub passed : (t : JobTable) → GoodTable t → (s : List ℕ) (last busy : ℕ) → after_plan t (read_plan s) ≡ pass last busy → PlanFits t (steps_in (read_plan s))
passed t good s last busy p = passed_read t good s last busy (read_plan s) refl p

-- a plan that passes has a step for each job of the table
pub steps_enough :
    (t : Table) → Sound t → length t.jobs ≡ 32 → (s : List ℕ) (run : Passed) → after_plan (job_table t) (read_plan s) ≡ Ok run →
    t.count ≤ length (steps_in (read_plan s))
steps_enough t sound full s run p =
    let held : length (take t.count t.jobs) ≡ t.count = length-take-le t.count t.jobs (omega (arith, sound.few)) in
    let enough : length (take t.count t.jobs) ≡ length (steps_in (read_plan s)) = (passed (job_table t) sound.good s run.last run.busy p).enough in
    omega arith
