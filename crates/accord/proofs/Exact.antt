-- Whatever the planners' own contracts allow says 7 exactly when the bytes are a table that no timetable meets, 1 to 6 exactly when they have that fault,
-- 18 exactly when the area is too short, and 0 otherwise. Assumes nothing.
use Prim.Native.Nat.{ℕ, ◌≤◌, ◌<◌}
use native.Mathlib.Omega.{arith}
use mathlib.Core.Path.{◌≡◌, sym, ap, subst, ◌∙◌}
use mathlib.Core.Logic.{◌⊎◌, inl, inr, ◌↔◌}
use mathlib.Core.List.{List, [], ◌∷◌}
use lib.ListN.{length}
use Rattle.model.specs.declared.Job.{Job}
use Rattle.model.specs.Lists.{All}
use Rattle.model.specs.Timetable.{Chosen, Placed, Timetable}
use Rattle.model.specs.FreeOrder.{LeastDeadline}
use Rattle.model.specs.GivenOrder.{InOrder}
use Rattle.model.proofs.Lists.{clash}
use Rattle.model.proofs.GivenOrder.{best_in_order_iff}
use Rattle.model.proofs.LeastDeadline.{met_mono, least_unique}
use Rattle.records.specs.declared.refusal.Refusal.{Refusal}
use Rattle.records.specs.Limits.{largest_time, longest_plan}
use Rattle.records.specs.Refusals.{refusal_says, accepted, refused}
use Rattle.table.specs.Tables.{JobTable, read_table}
use Rattle.records.proofs.Refusals.{says_not_zero}
use Rattle.planner.specs.Answers.{Planned, Least}
use Rattle.planner.specs.Orders.{best_meets}
use Rattle.planner.specs.Answers.{planned_says, least_says, PlanAnswer, no_room, bad_table, no_plan, planned}
use Rattle.planner.specs.Answers.{Possible, FreePlan, GivenPlan, LeastAnswer, never_met, met_from}
use Rattle.faults.specs.Faults.{Byte, TableFault, TableIs}
use Rattle.faults.proofs.Tables.{table_read_lem, table_is}
use Rattle.faults.proofs.Numbers.{table_placed}
use Rattle.accord.specs.Allows.{FreeAllows, GivenAllows, LeastAllows}
use Rattle.accord.specs.Exact.{SaysWhen, MetByLargest, PlansWhen}

-- a number from 1 up is not 0
above : {P : Type 0} {n : ℕ} {ns ms : List ℕ} → 1 ≤ n → n ∷ ns ≡ 0 ∷ ms → P
above {n = n} low q =
    let z : n ≡ 0 = cc in
    absurd (omega arith)

module _ (s : List ℕ) (bytes : All Byte s) where
  -- a table is one table, and has no fault
  pub same_table : {t u : JobTable} → read_table s ≡ accepted t → TableIs s (accepted u) → u ≡ t
  same_table {t} {u} e is = let f = table_read_lem s (accepted u) is in cc

  no_fault : {P : Type 0} {t : JobTable} {f : Refusal} → read_table s ≡ accepted t → TableFault s f → P
  no_fault {f = f} e y = clash (cc (table_read_lem s (refused f) y))

  no_table : {P : Type 0} {t : JobTable} {f : Refusal} → read_table s ≡ refused f → TableIs s (accepted t) → P
  no_table {t = t} e is = clash (cc (table_read_lem s (accepted t) is))

  same_fault : {f g : Refusal} → read_table s ≡ refused f → TableFault s g → f ≡ g
  same_fault {f} {g} e y = let q = table_read_lem s (refused g) y in cc

  -- a table's refusal has a place, so it is no number alone
  not_alone : {P : Type 0} (f : Refusal) (n : ℕ) → read_table s ≡ refused f → refusal_says f ≡ n ∷ [] → P
  not_alone f n e q = let p = table_placed ((table_is s bytes (refused f)).0 e) in clash (cc p.says)

  -- what is said by the rules
  module _ (CanMeet : JobTable → Type 0) (says : List ℕ) where
    data Told : Type 0 where
      refuses : (f : Refusal) → read_table s ≡ refused f → says ≡ refusal_says f → Told
      misses : (t : JobTable) → read_table s ≡ accepted t → ¬ (CanMeet t) → says ≡ 7 ∷ [] → Told
      finds : (t : JobTable) → read_table s ≡ accepted t → CanMeet t → (values : List ℕ) → says ≡ 0 ∷ values → Told

    says_when : Told → SaysWhen s CanMeet says
    says_when (refuses f e h) =
        let y : TableFault s f = (table_is s bytes (refused f)).0 e in
        record {
          fault = λ n place low. (
            (λ q. (f, y, sym h ∙ q)),
            (λ r. let same : f ≡ r.0 = same_fault e r.1 in h ∙ (ap refusal_says same ∙ r.2)),
          );
          seven = ((λ q. not_alone f 7 e (sym h ∙ q)), (λ r. no_table e r.1));
          zero = ((λ q. let p = table_placed y in above p.low (sym p.says ∙ (sym h ∙ q.1))), (λ r. no_table e r.1));
        }
    says_when (misses t e never h) =
        record {
          fault = λ n place low. ((λ q. clash (cc (h, q))), (λ r. no_fault e r.1));
          seven = ((λ q. (t, (table_is s bytes (accepted t)).0 e, never)), (λ r. h));
          zero = ((λ q. clash (cc (h, q.1))), (λ r. absurd (never (subst CanMeet (same_table e r.1) r.2))));
        }
    says_when (finds t e met values h) =
        record {
          fault = λ n place low. ((λ q. above low (sym q ∙ h)), (λ r. no_fault e r.1));
          seven = ((λ q. clash (cc (h, q))), (λ r. absurd (r.2 (subst CanMeet (sym (same_table e r.1)) met))));
          zero = ((λ q. (t, (table_is s bytes (accepted t)).0 e, met)), (λ r. (values, h)));
        }

  -- The planners.
  module _
      (Kind : List Job → List Placed → Type 0) (IsPlan : JobTable → List Chosen → Type 0)
      (possible : (t : JobTable) (xs : List Chosen) → IsPlan t xs → Possible Kind t) where
    abbrev Answer : List ℕ → Planned → List ℕ → Type 0
    Answer = PlanAnswer (Possible Kind) IsPlan (read_table s)

    plans_told : (before : List ℕ) (r : Planned) (after : List ℕ) → longest_plan ≤ length before →
        Answer before r after → Told (Possible Kind) (planned_says r)
    plans_told before r after room (no_room short h) = absurd (omega arith)
    plans_told before r after room (bad_table m f e h) = refuses f e h.says
    plans_told before r after room (no_plan m t e never h) = misses t e never h.says
    plans_told before r after room (planned m t e xs p h) = finds t e (possible t xs p) _ h.says

    plans_when : (before : List ℕ) (r : Planned) (after : List ℕ) → Answer before r after → PlansWhen Kind s before r after
    plans_when before r after a =
        record { room = short a; says = λ room. says_when (Possible Kind) (planned_says r) (plans_told before r after room a); left = left a }
      where
        short : Answer before r after → (planned_says r ≡ 18 ∷ []) ↔ (length before < longest_plan)
        short (no_room h w) = ((λ q. h), (λ k. w.says))
        short (bad_table m f e w) = ((λ q. not_alone f 18 e (sym w.says ∙ q)), (λ k. absurd (omega arith)))
        short (no_plan m t e never w) = ((λ q. clash (cc w.says)), (λ k. absurd (omega arith)))
        short (planned m t e xs p w) = ((λ q. clash (cc w.says)), (λ k. absurd (omega arith)))

        left : Answer before r after → ((n b l : ℕ) × (planned_says r ≡ 0 ∷ n ∷ b ∷ l ∷ [])) ⊎ (after ≡ before)
        left (no_room h w) = inr w.left
        left (bad_table m f e w) = inr w.left
        left (no_plan m t e never w) = inr w.left
        left (planned m t e xs p w) = inl (_, _, _, w.says)

  pub free_says : (before : List ℕ) (r : Planned) (after : List ℕ) → FreeAllows s before r after → PlansWhen Timetable s before r after
  free_says =
      plans_when Timetable FreePlan best_meets

  pub given_says : (before : List ℕ) (r : Planned) (after : List ℕ) → GivenAllows s before r after → PlansWhen InOrder s before r after
  given_says =
      plans_when InOrder GivenPlan (λ t xs p. (best_in_order_iff t.deadline t.jobs).0 (xs, p))

  -- The least deadline.
  module _ (r : Least) (allows : LeastAllows s r) where
    pub least_says_lem : SaysWhen s MetByLargest (least_says r)
    least_says_lem = says_when MetByLargest (least_says r) (told allows)
      where
        told : LeastAnswer s r → Told MetByLargest (least_says r)
        told (bad_table f e h) = refuses f e h
        told (never_met t e never h) = misses t e never h
        told (met_from t e d l h) = finds t e (met_mono t.jobs d largest_time l.high l.met) _ h

    -- and the deadline that it says is the least
    pub least_is : (d : ℕ) → (least_says r ≡ 0 ∷ d ∷ []) ↔ ((t : JobTable) × TableIs s (accepted t) × LeastDeadline largest_time t.jobs d)
    least_is d = go allows
      where
        go : LeastAnswer s r → (least_says r ≡ 0 ∷ d ∷ []) ↔ ((t : JobTable) × TableIs s (accepted t) × LeastDeadline largest_time t.jobs d)
        go (bad_table f e h) = ((λ q. absurd (says_not_zero f (d ∷ []) (sym h ∙ q))), (λ l. no_table e l.1))
        go (never_met t e never h) = (
          (λ q. clash (cc (h, q))),
          (λ l. absurd (never (subst MetByLargest (same_table e l.1) (met_mono l.0.jobs d largest_time l.2.high l.2.met)))),
        )
        go (met_from t e c m h) = (
          (λ q. let same : c ≡ d = cc (h, q) in (t, (table_is s bytes (accepted t)).0 e, subst (LeastDeadline largest_time t.jobs) same m)),
          (λ l.
              let other : LeastDeadline largest_time t.jobs d = subst (λ (u : JobTable). LeastDeadline largest_time u.jobs d)
              (same_table e l.1) l.2 in
              h ∙ ap (λ (n : ℕ). 0 ∷ n ∷ []) (least_unique t.jobs largest_time c d m other)),
        )
