-- What stands in the area where a planner says 0: a plan whose jobs, back to back, are a timetable that meets the deadline, and no timetable that meets it
-- has a smaller sum of spans; for the given order it is Algorithm 1's plan. Assumes nothing.
use Prim.Native.Nat.{ℕ, ◌≤◌}
use native.Mathlib.Omega.{arith}
use mathlib.Core.Path.{◌≡◌, refl, sym, ap, subst, ◌∙◌}
use mathlib.Core.List.Permᴰ
use mathlib.Core.List.{List, [], ◌∷◌, Permᴰ}
use Rattle.std.specs.Prelude.{Some}
use lib.ListN.{length, take, drop, length-map}
use lib.Seq.{take_at}
use Rattle.model.specs.declared.Job.{Job}
use Rattle.model.specs.Lists.{All, greatest}
use Rattle.model.specs.Timetable.{Chosen, Allowed, Placed, Timetable, span, finish, Meets}
use Rattle.model.specs.FreeOrder.{Choice, laid, Fits, busy, spans, last_from}
use Rattle.model.specs.GivenOrder.{InOrder, given}
use Rattle.model.proofs.Lists.{clash, all_all, pairwise_of_map, map_pairwise}
use Rattle.model.proofs.Permutations.{all_perm, pairwise_perm, total_perm, length_perm}
use Rattle.model.proofs.PlanOrder.{job_of, jobs, perm_plan}
use Rattle.model.proofs.Timetables.{laid_spans, plan_timetable, plan_meets}
use Rattle.model.proofs.Best.{best_least}
use Rattle.model.proofs.GivenOrder.{choice_inorder, best_is_given, best_in_order_least}
use Rattle.records.specs.Limits.{longest_plan}
use Rattle.records.specs.Refusals.{accepted}
use Rattle.table.specs.Tables.{JobTable, GoodTable, read_table}
use Rattle.records.proofs.Refusals.{says_not_zero}
use Rattle.plan.specs.declared.Step.{Step}
use Rattle.plan.specs.Plans.{step_id, plan_bytes, step_of, steps_for}
use Rattle.plan.proofs.Steps.{plan_length, steps_length}
use Rattle.planner.specs.Answers.{Planned}
use Rattle.planner.specs.Answers.{planned_says, Writes, PlanAnswer, no_room, bad_table, no_plan, planned, FreePlan, GivenPlan}
use Rattle.faults.specs.Faults.{Byte, TableIs, GoodPlan, PlanIs}
use Rattle.faults.specs.Checks.{PlanOf}
use Rattle.faults.proofs.Tables.{table_is}
use Rattle.accord.specs.Allows.{FreeAllows, GivenAllows}
use Rattle.accord.specs.Exact.{PlanStands}

-- the plan behind an answer that says 0
pub record Behind (IsPlan : JobTable → List Chosen → Type 0) (s before : List ℕ) (r : Planned) (after : List ℕ) : Type 0 where
  pub t : JobTable
  pub table : TableIs s (accepted t)
  pub xs : List Chosen
  pub is : IsPlan t xs
  pub writes : Writes t xs before r after

pub behind :
    {CanMeet : JobTable → Type 0} {IsPlan : JobTable → List Chosen → Type 0} {before : List ℕ} {r : Planned} {after ns : List ℕ} →
    (s : List ℕ) → All Byte s → PlanAnswer CanMeet IsPlan (read_table s) before r after → planned_says r ≡ 0 ∷ ns → Behind IsPlan s before r after
behind s bytes (no_room short h) e = clash (cc h.says)
behind {ns = ns} s bytes (bad_table m f d h) e = absurd (says_not_zero f ns (sym h.says ∙ e))
behind s bytes (no_plan m t d n h) e = clash (cc h.says)
behind s bytes (planned m t d xs p h) e = record { t = t; table = (table_is s bytes (accepted t)).0 d; xs = xs; is = p; writes = h }

-- it is of the table's jobs
plan_of : (js : List Job) (xs cs : List Chosen) → Choice js cs → Permᴰ xs cs → PlanOf js xs
plan_of js xs cs choice d =
    record {
      each = subst (Permᴰ (jobs xs)) choice.each (Permᴰ.map job_of d);
      allowed = all_perm Allowed (Permᴰ.symm d) choice.allowed;
    }

pub free_of : (t : JobTable) (xs : List Chosen) → FreePlan t xs → PlanOf t.jobs xs × Fits t.deadline 0 xs
free_of t xs p =
    let cs = p.0 in
    let choice = p.1.choice in (
      plan_of t.jobs xs cs choice (subst (λ (l : List Chosen). Permᴰ l cs) (sym p.2) (perm_plan cs choice.allowed)),
      subst (Fits t.deadline 0) (sym p.2) p.1.workable,
    )

pub given_of : (t : JobTable) (xs : List Chosen) → GivenPlan t xs → PlanOf t.jobs xs × Fits t.deadline 0 xs
given_of t xs p = (plan_of t.jobs xs xs p.choice (Permᴰ.refl xs), p.fits)

-- so its steps are a good plan
module _ (t : JobTable) (good : GoodTable t) (xs : List Chosen) (of : PlanOf t.jobs xs) where
  as_many : length (steps_for xs) ≡ length t.jobs
  as_many = steps_length xs ∙ (sym (length-map xs job_of) ∙ length_perm of.each)

  good_plan : GoodPlan (steps_for xs)
  good_plan =
      record {
        few = omega (arith, as_many, good.few);
        distinct =
            map_pairwise step_of (λ (x y : Step). ¬ (step_id x ≡ step_id y)) xs
            (pairwise_of_map job_of (λ (i j : Job). ¬ (i.id ≡ j.id)) xs
            (pairwise_perm (λ (i j : Job). ¬ (i.id ≡ j.id)) (λ i j n e. n (sym e)) (Permᴰ.symm of.each) good.distinct));
        each = all_all (λ x. tt) (steps_for xs);
      }

  -- and stands at the front of the area
  module _ (before : List ℕ) (r : Planned) (after : List ℕ) (w : Writes t xs before r after) where
    abbrev bytes : List ℕ
    bytes = plan_bytes (steps_for xs)

    pub front : take (length bytes) after ≡ bytes
    front = ap (take (length bytes)) w.front ∙ take_at bytes (drop (length bytes) before) (length bytes) refl

    pub reads : PlanIs (take (length bytes) after) (accepted (steps_for xs))
    reads = (good_plan, front)

    size_short : length bytes ≤ longest_plan
    size_short = omega (arith, plan_length (steps_for xs), as_many, good.few)

    -- with its jobs' timetable, where that has the plan's figures
    stands :
        (Kind : List Job → List Placed → Type 0) (n b l : ℕ) → planned_says r ≡ 0 ∷ n ∷ b ∷ l ∷ [] →
        (ps : List Placed) → Permᴰ (laid 0 xs) ps → Kind t.jobs ps → Meets t.deadline ps →
        spans ps ≡ busy xs → greatest finish ps ≡ last_from 0 xs →
        ((qs : List Placed) → Kind t.jobs qs → Meets t.deadline qs → busy xs ≤ spans qs) → PlanStands Kind t xs before after n b l
    stands Kind n b l e ps same is meets sum latest least =
        let size : n ≡ length bytes = cc (w.says, e) in
        let total : b ≡ busy xs = cc (w.says, e) in
        let finishes : l ≡ last_from 0 xs = cc (w.says, e) in
        record {
          bytes = size;
          front = rw size w.front;
          plan = rw size reads;
          short = rw size size_short;
          ps = ps;
          same = same;
          timetable = is;
          meets = meets;
          sum = total ∙ sym sum;
          latest = finishes ∙ sym latest;
          least = λ qs k m. rw total (least qs k m);
        }

module _ (s : List ℕ) (bytes : All Byte s) (before : List ℕ) (r : Planned) (after : List ℕ) (n b l : ℕ) (says : planned_says r ≡ 0 ∷ n ∷ b ∷ l ∷ []) where
  -- The free order: and it is the plan of the best choice, so the tie rule holds.
  pub free_writes : FreeAllows s before r after →
      (t : JobTable) × (xs : List Chosen) × TableIs s (accepted t) × PlanStands Timetable t xs before after n b l × FreePlan t xs
  free_writes allows = let p = behind s bytes allows says in (p.t, p.xs, p.table, go p.t p.table.0 p.xs p.is p.writes, p.is)
    where
      go : (t : JobTable) → GoodTable t → (xs : List Chosen) → FreePlan t xs → Writes t xs before r after →
          PlanStands Timetable t xs before after n b l
      go t good xs p w =
          let D = t.deadline in
          let js = t.jobs in
          let cs = p.0 in
          let best = p.1 in
          let made = plan_timetable js cs best.choice in
          let as_busy : busy xs ≡ busy cs = ap busy p.2 ∙ total_perm span (perm_plan cs best.choice.allowed) in
          stands t good xs (free_of t xs p).0 before r after w Timetable n b l says made.0
          (subst (λ (l : List Chosen). Permᴰ (laid 0 l) made.0) (sym p.2) made.1.same) made.1.timetable
          (plan_meets D js cs made.0 made.1 best.workable) (made.1.spans ∙ sym as_busy) (made.1.last ∙ ap (last_from 0) (sym p.2))
          (λ qs k m. rw as_busy (best_least D js cs best qs k m))

  -- The given order: and it is Algorithm 1's plan.
  pub given_writes : GivenAllows s before r after →
      (t : JobTable) × (xs : List Chosen) × TableIs s (accepted t) × PlanStands InOrder t xs before after n b l × (given t.deadline 0 t.jobs ≡ Some xs)
  given_writes allows =
      let p = behind s bytes allows says in
      let D = p.t.deadline in
      let js = p.t.jobs in
      let xs = p.xs in
      let i = choice_inorder D js xs p.is.choice p.is.fits in (
        p.t,
        xs,
        p.table,
        stands p.t p.table.0 xs (given_of p.t xs p.is).0 before r after p.writes InOrder n b l says (laid 0 xs) (Permᴰ.refl (laid 0 xs))
            i.0 i.1 (laid_spans 0 xs) refl (best_in_order_least D js xs p.is),
        best_is_given D js xs p.is,
      )
