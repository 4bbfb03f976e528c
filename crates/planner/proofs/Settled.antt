-- Two answers and areas that a planner's contract allows coincide: the contract settles the call.
-- Assumes nothing.
use Rattle.std.specs.Prelude.{Ok, Err}
use mathlib.Core.Path.{◌≡◌, refl, sym, ap, subst, ◌∙◌}
use mathlib.Core.List.{List}
use Prim.Native.Nat.{ℕ}
use native.Mathlib.Omega.{arith}
use Rattle.model.specs.Timetable.{Chosen, Timetable}
use Rattle.model.specs.GivenOrder.{InOrder}
use Rattle.model.proofs.Lists.{clash}
use Rattle.model.proofs.LeastDeadline.{least_unique, met_mono}
use Rattle.records.specs.declared.refusal.Refusal.{Refusal}
use Rattle.records.specs.declared.refusal.Refusal.TheVariants as R
use Rattle.records.specs.Limits.{largest_time}
use Rattle.records.specs.Refusals.{refusal_says, Outcome, accepted}
use Rattle.table.specs.Tables.{JobTable}
use Rattle.records.proofs.Refusals.{says_injective, says_not_zero}
use Rattle.planner.specs.Orders.{best_meets, one_best, given_meets, one_given}
use Rattle.planner.specs.Answers.{Planned, Least, planned_says, least_says, Refuses, Writes, PlanAnswer, no_room, bad_table, no_plan, planned}
use Rattle.planner.specs.Answers.{Possible, FreePlan, FreeRead, GivenPlan, GivenRead, LeastRead, never_met, met_from}

-- what is said tells the answer
pub planned_says_injective : (r q : Planned) → planned_says r ≡ planned_says q → r ≡ q
planned_says_injective (Ok p) (Ok q) e =
    let bytes : p.bytes ≡ q.bytes = cc in
    let busy : p.busy ≡ q.busy = cc in
    let last : p.last ≡ q.last = cc in
    λ i. Ok (record { bytes = bytes i; busy = busy i; last = last i })
planned_says_injective (Ok p) (Err g) e = absurd (says_not_zero g _ (sym e))
planned_says_injective (Err f) (Ok q) e = absurd (says_not_zero f _ e)
planned_says_injective (Err f) (Err g) e = ap Err (says_injective f g e)

pub least_says_injective : (r q : Least) → least_says r ≡ least_says q → r ≡ q
least_says_injective (Ok d) (Ok e) h = let x : d ≡ e = cc in ap Ok x
least_says_injective (Ok d) (Err g) h = absurd (says_not_zero g _ (sym h))
least_says_injective (Err f) (Ok e) h = absurd (says_not_zero f _ h)
least_says_injective (Err f) (Err g) h = ap Err (says_injective f g h)

-- the same answer, and the same area afterwards
abbrev pub Same : Planned → List ℕ → Planned → List ℕ → Type 0
Same r a q b = (r ≡ q) × (a ≡ b)

module _ (read : Outcome JobTable) (before : List ℕ) (r : Planned) (a : List ℕ) (q : Planned) (b : List ℕ) where
  both_refuse : (f g : Refusal) → f ≡ g → Refuses f before r a → Refuses g before q b → Same r a q b
  both_refuse f g e h k = (planned_says_injective r q (h.says ∙ (ap refusal_says e ∙ sym k.says)), h.left ∙ sym k.left)

  both_write : (t : JobTable) (xs ys : List Chosen) → xs ≡ ys → Writes t xs before r a → Writes t ys before q b → Same r a q b
  both_write t xs ys e h k = (planned_says_injective r q (h.says ∙ (rw e (sym k.says))), h.front ∙ (rw e (sym k.front)))

  same_table : (t u : JobTable) → read ≡ accepted t → read ≡ accepted u → t ≡ u
  same_table t u e h = cc

  module _
      (CanMeet : JobTable → Type 0)
      (IsPlan : JobTable → List Chosen → Type 0)
      (possible : (t : JobTable) (xs : List Chosen) → IsPlan t xs → CanMeet t)
      (unique : (t : JobTable) (xs ys : List Chosen) → IsPlan t xs → IsPlan t ys → xs ≡ ys)
    where
      pub planner_settled : PlanAnswer CanMeet IsPlan read before r a → PlanAnswer CanMeet IsPlan read before q b → Same r a q b
      planner_settled (no_room l h) (no_room m k) = both_refuse R.Room R.Room refl h k
      planner_settled (no_room l h) (bad_table m g e k) = absurd (omega arith)
      planner_settled (no_room l h) (no_plan m t e n k) = absurd (omega arith)
      planner_settled (no_room l h) (planned m t e ys p k) = absurd (omega arith)
      planner_settled (bad_table l f d h) (no_room m k) = absurd (omega arith)
      planner_settled (bad_table l f d h) (bad_table m g e k) = let x : f ≡ g = cc in both_refuse f g x h k
      planner_settled (bad_table l f d h) (no_plan m t e n k) = clash (cc)
      planner_settled (bad_table l f d h) (planned m t e ys p k) = clash (cc)
      planner_settled (no_plan l t d n h) (no_room m k) = absurd (omega arith)
      planner_settled (no_plan l t d n h) (bad_table m g e k) = clash (cc)
      planner_settled (no_plan l t d n h) (no_plan m u e o k) = both_refuse R.None R.None refl h k
      planner_settled (no_plan l t d n h) (planned m u e ys p k) = absurd (n (rw (same_table t u d e) (possible u ys p)))
      planner_settled (planned l t d xs p h) (no_room m k) = absurd (omega arith)
      planner_settled (planned l t d xs p h) (bad_table m g e k) = clash (cc)
      planner_settled (planned l t d xs p h) (no_plan m u e n k) = absurd (n (rw (same_table u t e d) (possible t xs p)))
      planner_settled (planned l t d xs p h) (planned m u e ys o k) =
          let same = same_table t u d e in
          both_write u xs ys (unique u xs ys (subst (λ (v : JobTable). IsPlan v xs) same p) o) (subst (λ (v : JobTable). Writes v xs before r a) same h) k

  pub free_settled : FreeRead read before r a → FreeRead read before q b → Same r a q b
  free_settled = planner_settled (Possible Timetable) FreePlan best_meets one_best

  pub given_settled : GivenRead read before r a → GivenRead read before q b → Same r a q b
  given_settled = planner_settled (Possible InOrder) GivenPlan given_meets one_given

pub least_settled : (read : Outcome JobTable) (r q : Least) → LeastRead read r → LeastRead read q → r ≡ q
least_settled read r q x y = least_says_injective r q (says x y)
  where
    says : LeastRead read r → LeastRead read q → least_says r ≡ least_says q
    says (bad_table f d h) (bad_table g e k) = let x : f ≡ g = cc in h ∙ (ap refusal_says x ∙ sym k)
    says (bad_table f d h) (never_met t e n k) = clash (cc)
    says (bad_table f d h) (met_from t e m l k) = clash (cc)
    says (never_met t d n h) (bad_table g e k) = clash (cc)
    says (never_met t d n h) (never_met u e o k) = h ∙ sym k
    says (never_met t d n h) (met_from u e m l k) =
        let same : t ≡ u = cc in
        absurd (n (rw same (met_mono u.jobs m largest_time l.high l.met)))
    says (met_from t d m l h) (bad_table g e k) = clash (cc)
    says (met_from t d m l h) (never_met u e n k) =
        let same : u ≡ t = cc in
        absurd (n (rw same (met_mono t.jobs m largest_time l.high l.met)))
    says (met_from t d m l h) (met_from u e n o k) =
        let same : t ≡ u = cc in
        let x : m ≡ n = least_unique u.jobs largest_time m n (rw same at l) o in
        h ∙ (rw x (sym k))
