-- What each order finds for a table, and the law of an order: that this is the plan which it has to write.
-- Assumes nothing.
use mathlib.Core.Path.{sym, ap, ◌∙◌}
use lib.ListN.{length-map}
use Rattle.std.specs.Prelude.{◌≡◌, List, ◌≤◌, length, Option, None, Some}
use Rattle.model.specs.declared.Job.{Job}
use Rattle.model.specs.Timetable.{Chosen, Timetable}
use Rattle.model.specs.FreeOrder.{Choice, plan}
use Rattle.model.specs.GivenOrder.{InOrder, given}
use Rattle.model.specs.Positions.{free}
use Rattle.model.proofs.Timetables.{timetable_iff_workable}
use Rattle.model.proofs.Best.{best_unique}
use Rattle.model.proofs.Free.{free_best, free_none_iff}
use Rattle.model.proofs.GivenOrder.{given_best, given_none_iff, best_in_order_iff, best_in_order_unique}
use Rattle.records.specs.Limits.{most_jobs}
use Rattle.table.specs.Tables.{JobTable}
use Rattle.free.proofs.Plans.{plan_many}
use Rattle.planner.specs.Answers.{Possible, FreePlan, GivenPlan}

abbrev pub free_of : JobTable → Option (List Chosen)
free_of t = free most_jobs t.deadline t.jobs

abbrev pub given_of : JobTable → Option (List Chosen)
given_of t = given t.deadline 0 t.jobs

-- What is found is the plan, it has as many jobs as the table, and where nothing is found no timetable of the kind is on time;
-- where there is a plan some timetable of the kind is on time, and there is one plan only.
pub record Finds (CanMeet : JobTable → Type 0) (IsPlan : JobTable → List Chosen → Type 0) (found : JobTable → Option (List Chosen)) : Type 0 where
  pub plan : (t : JobTable) → length t.jobs ≤ most_jobs → (xs : List Chosen) → found t ≡ Some xs → IsPlan t xs
  pub none : (t : JobTable) → length t.jobs ≤ most_jobs → found t ≡ None → ¬ (CanMeet t)
  pub as_many : (t : JobTable) (xs : List Chosen) → IsPlan t xs → length xs ≡ length t.jobs
  pub possible : (t : JobTable) (xs : List Chosen) → IsPlan t xs → CanMeet t
  pub unique : (t : JobTable) (xs ys : List Chosen) → IsPlan t xs → IsPlan t ys → xs ≡ ys

-- Both orders meet it.

choice_many : (js : List Job) (cs : List Chosen) → Choice js cs → length cs ≡ length js
choice_many js cs c = sym (length-map cs (λ (x : Chosen). x.job)) ∙ ap length c.each

pub free_many : (t : JobTable) (xs : List Chosen) → FreePlan t xs → length xs ≡ length t.jobs
free_many t xs b = ap length b.2 ∙ (plan_many b.0 t.jobs b.1.choice ∙ choice_many t.jobs b.0 b.1.choice)

-- a free-order plan tells that some timetable meets its deadline, and there is one only
pub best_meets : (t : JobTable) (xs : List Chosen) → FreePlan t xs → Possible Timetable t
best_meets t xs p = (timetable_iff_workable t.deadline t.jobs).1 (p.0, p.1.choice, p.1.workable)

pub one_best : (t : JobTable) (xs ys : List Chosen) → FreePlan t xs → FreePlan t ys → xs ≡ ys
one_best t xs ys p o = p.2 ∙ (ap plan (best_unique t.deadline t.jobs p.0 o.0 p.1 o.1) ∙ sym o.2)

pub free_finds : Finds (Possible Timetable) FreePlan free_of
free_finds =
    record {
      plan = λ t few xs e. free_best most_jobs t.jobs few t.deadline xs e;
      none = λ t few e. (free_none_iff most_jobs t.jobs few t.deadline).0 e;
      as_many = free_many;
      possible = best_meets;
      unique = one_best;
    }

pub given_many : (t : JobTable) (xs : List Chosen) → GivenPlan t xs → length xs ≡ length t.jobs
given_many t xs b = choice_many t.jobs xs b.choice

-- and so of a given-order plan
pub given_meets : (t : JobTable) (xs : List Chosen) → GivenPlan t xs → Possible InOrder t
given_meets t xs p = (best_in_order_iff t.deadline t.jobs).0 (xs, p)

pub one_given : (t : JobTable) (xs ys : List Chosen) → GivenPlan t xs → GivenPlan t ys → xs ≡ ys
one_given t xs ys p o = best_in_order_unique t.deadline t.jobs xs ys p o

pub given_finds : Finds (Possible InOrder) GivenPlan given_of
given_finds =
    record {
      plan = λ t few xs e. given_best t.deadline t.jobs xs e;
      none = λ t few e. (given_none_iff t.deadline t.jobs).0 e;
      as_many = given_many;
      possible = given_meets;
      unique = one_given;
    }
