-- How a case is shown: the definitions compute, and the contract allows nothing else.
-- Assumes nothing.
use mathlib.Core.Path.{◌≡◌, refl, sym, ap, ◌∙◌}
use mathlib.Core.List.{List, [], ◌∷◌, ◌++◌}
use Rattle.std.specs.Prelude.{None, Some}
use Prim.Native.Nat.{ℕ, suc, ◌≤◌, ◌<◌}
use native.Mathlib.Omega.{arith}
use lib.ListN.{length, drop}
use Rattle.model.specs.Timetable.{Chosen}
use Rattle.model.specs.FreeOrder.{plan, busy, last_from, LeastDeadline}
use Rattle.model.specs.GivenOrder.{given, BestInOrder}
use Rattle.model.specs.Positions.{free}
use Rattle.model.proofs.Lists.{clash}
use Rattle.model.proofs.Timetables.{timetable_iff_workable}
use Rattle.model.proofs.Best.{best_unique}
use Rattle.model.proofs.GivenOrder.{given_none_iff, given_best, best_in_order_iff, best_in_order_unique}
use Rattle.model.proofs.LeastDeadline.{turn_least, least_unique, met_mono}
use Rattle.model.proofs.Free.{free_best, free_none_iff}
use Rattle.records.specs.declared.refusal.Refusal.TheVariants as R
use Rattle.records.specs.Limits.{most_jobs, largest_time, longest_plan}
use Rattle.records.specs.Refusals.{accepted}
use Rattle.table.specs.Tables.{JobTable, read_table}
use Rattle.table.proofs.Accepted.{accepted_good}
use Rattle.plan.specs.Plans.{plan_bytes, steps_for}
use Rattle.planner.specs.Answers.{Planned}
use Rattle.planner.specs.Answers as A
use Rattle.planner.specs.Answers.{BestPlan, FreeAnswer, GivenAnswer, LeastAnswer}
use Rattle.marked.specs.Marked.{Claimed, plan_is, no_plan, no_given, least_is}

-- the answer has the numbers of the plan of xs, whose bytes stand at the front of the area
abbrev Written : List Chosen → List ℕ → Planned → List ℕ → Type 0
Written xs before r after =
    (A.planned_says r ≡ 0 ∷ length (plan_bytes (steps_for xs)) ∷ busy xs ∷ last_from 0 xs ∷ []) ×
    (after ≡ plan_bytes (steps_for xs) ++ drop (length (plan_bytes (steps_for xs))) before)

module _ (s : List ℕ) (t : JobTable) (e : read_table s ≡ accepted t) where
  few : length t.jobs ≤ most_jobs
  few = (accepted_good s t e).few

  same : (u : JobTable) → read_table s ≡ accepted u → u ≡ t
  same u h = cc

  -- a plan that the free-order definition finds is the one that every answer has
  pub plan_case : (xs : List Chosen) → free most_jobs t.deadline t.jobs ≡ Some xs → Claimed s (plan_is (plan_bytes (steps_for xs)) (busy xs) (last_from 0 xs))
  plan_case xs f before r after room a = step a
    where
      best : BestPlan t.deadline t.jobs xs
      best = free_best most_jobs t.jobs few t.deadline xs f

      step : FreeAnswer s before r after → Written xs before r after
      step (A.no_room l h) = absurd (omega arith)
      step (A.bad_table l g q h) = clash (cc)
      step (A.no_plan l u q n h) = absurd (n (rw (same u q) ((timetable_iff_workable t.deadline t.jobs).1 (best.0, best.1.choice, best.1.workable))))
      step (A.planned l u q ys p h) =
          let p' = rw (same u q) at p in
          let y : ys ≡ xs = p'.2 ∙ (ap plan (best_unique t.deadline t.jobs p'.0 best.0 p'.1 best.1) ∙ sym best.2) in
          (rw y at h.says, rw y at h.front)

  pub none_case : free most_jobs t.deadline t.jobs ≡ None → Claimed s no_plan
  none_case f before r after room a = step a
    where
      step : FreeAnswer s before r after → A.Refuses R.None before r after
      step (A.no_room l h) = absurd (omega arith)
      step (A.bad_table l g q h) = clash (cc)
      step (A.no_plan l u q n h) = h
      step (A.planned l u q ys p h) =
          let p' = rw (same u q) at p in
          let meets = (timetable_iff_workable t.deadline t.jobs).1 (p'.0, p'.1.choice, p'.1.workable) in
          absurd ((free_none_iff most_jobs t.jobs few t.deadline).0 f meets)

  pub given_case : given t.deadline 0 t.jobs ≡ None → Claimed s no_given
  given_case f before r after room a = step a
    where
      step : GivenAnswer s before r after → A.Refuses R.None before r after
      step (A.no_room l h) = absurd (omega arith)
      step (A.bad_table l g q h) = clash (cc)
      step (A.no_plan l u q n h) = h
      step (A.planned l u q ys p h) =
          absurd ((given_none_iff t.deadline t.jobs).0 f ((best_in_order_iff t.deadline t.jobs).0 (ys, rw (same u q) at p)))

  -- a plan that Algorithm 1 finds is the one that every answer in the given order has
  pub given_plan_case : (xs : List Chosen) → given t.deadline 0 t.jobs ≡ Some xs
      → (before : List ℕ) (r : Planned) (after : List ℕ) → longest_plan ≤ length before → GivenAnswer s before r after
      → Written xs before r after
  given_plan_case xs f before r after room a = step a
    where
      best : BestInOrder t.deadline t.jobs xs
      best = given_best t.deadline t.jobs xs f

      step : GivenAnswer s before r after → Written xs before r after
      step (A.no_room l h) = absurd (omega arith)
      step (A.bad_table l g q h) = clash (cc)
      step (A.no_plan l u q n h) = absurd (n (rw (same u q) ((best_in_order_iff t.deadline t.jobs).0 (xs, best))))
      step (A.planned l u q ys p h) =
          let y : ys ≡ xs = best_in_order_unique t.deadline t.jobs ys xs (rw (same u q) at p) best in
          (rw y at h.says, rw y at h.front)

  -- met at d + 1, and not at d unless d is 0
  pub least_case :
      (d : ℕ) → d < largest_time → (xs : List Chosen) → free most_jobs (suc d) t.jobs ≡ Some xs → (1 ≤ d → free most_jobs d t.jobs ≡ None) →
      Claimed s (least_is (suc d))
  least_case d l xs f g r a = step a
    where
      best : BestPlan (suc d) t.jobs xs
      best = free_best most_jobs t.jobs few (suc d) xs f

      least : LeastDeadline largest_time t.jobs (suc d)
      least =
          turn_least t.jobs largest_time d l (λ h. (free_none_iff most_jobs t.jobs few d).0 (g h))
          ((timetable_iff_workable (suc d) t.jobs).1 (best.0, best.1.choice, best.1.workable))

      step : LeastAnswer s r → A.least_says r ≡ 0 ∷ suc d ∷ []
      step (A.bad_table h q k) = clash (cc)
      step (A.never_met u q n k) = absurd (n (rw (same u q) (met_mono t.jobs (suc d) largest_time l least.met)))
      step (A.met_from u q m h k) =
          let x : m ≡ suc d = least_unique t.jobs largest_time m (suc d) (rw (same u q) at h) least in
          k ∙ rw x refl
