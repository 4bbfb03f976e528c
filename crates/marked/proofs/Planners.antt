-- No planner that meets its contract says NONE to all, writes one fixed plan or nothing, or has other figures than its plan's; so for both orders.
-- Nor is the least deadline NONE for all, or one for all. Assumes nothing.
use mathlib.Core.Path.{◌≡◌, sym, ap, ◌∙◌}
use mathlib.Core.List.{List, [], ◌∷◌, ◌++◌}
use Prim.Native.Nat.{ℕ, ◌≤◌}
use native.Mathlib.Omega.{arith}
use lib.ListN.{length, get_or, drop, replicate}
use Rattle.model.specs.Timetable.{Chosen, Timetable}
use Rattle.model.specs.FreeOrder.{busy, last_from}
use Rattle.model.specs.GivenOrder.{InOrder, BestInOrder}
use Rattle.records.specs.declared.refusal.Refusal.TheVariants.{None, Room}
use Rattle.records.specs.Limits.{longest_plan}
use Rattle.records.specs.Refusals.{accepted}
use Rattle.table.specs.Tables.{JobTable, read_table}
use Rattle.records.proofs.Refusals.{says_not_zero}
use Rattle.plan.specs.Plans.{plan_bytes, steps_for}
use Rattle.planner.specs.Answers.{Least}
use Rattle.planner.specs.Answers as A
use Rattle.planner.specs.Answers.{PlanAnswer, Possible, BestPlan, FreePlan, GivenPlan}
use Rattle.marked.specs.Marked.{E, plan_e, marked, AllHold}
use Rattle.accord.specs.Allows.{FreeAllows, GivenAllows, LeastAllows}
use Rattle.marked.specs.Versions.{Planner, Plans, NoneToAll, OneFixedPlan, NothingWritten, LastIsBusy, NotEmpty, TrueFigures, NeverMet, OneDeadline}
use Rattle.marked.proofs.Examples.{table_e, read_e, table6, plan6, table7, table_no, read_no, given_E, given_6, given_7}
use Rattle.marked.proofs.Marked.{marked_hold}

-- an area of 65 zeros
unfoldable pub blank : List ℕ
blank = replicate 65 0

pub blank_room : longest_plan ≤ length blank
unfolding blank
blank_room = omega arith

-- what a planner of either order answers for three tables: E, that of case 6, that of case 7
record Shown (p : Planner) : Type 0 where
  first : Plans p E blank 7 40 45 × (p.area E blank ≡ plan_e ++ drop 7 blank)
  sixth : Plans p table6 blank 5 20 20 × (p.area table6 blank ≡ plan6 ++ drop 5 blank)
  seventh : Plans p table7 blank 5 14 16

module _ (p : Planner) (shown : Shown p) where
  none_to_all : ¬ (NoneToAll p)
  none_to_all n = says_not_zero None _ (sym (n E table_e read_e blank blank_room) ∙ shown.first.0)

  nothing_written : ¬ (NothingWritten p)
  unfolding blank
  nothing_written n =
      let z : ◌≡◌ {A = ℕ} 0x21 0 = ap (λ (l : List ℕ). get_or l 0 0) (sym shown.first.1 ∙ n E blank) in
      omega arith

  one_fixed_plan : (fixed : List ℕ) → ¬ (OneFixedPlan p fixed)
  unfolding blank
  one_fixed_plan fixed n =
      let z : ◌≡◌ {A = ℕ} 0x21 0x20 =
      ap (λ (l : List ℕ). get_or l 0 0)
      (sym shown.first.1 ∙ (n E blank 7 40 45 shown.first.0 ∙ (sym (n table6 blank 5 20 20 shown.sixth.0) ∙ shown.sixth.1))) in
      omega arith

  last_is_busy : ¬ (LastIsBusy p)
  last_is_busy n = let z : ◌≡◌ {A = ℕ} 16 14 = n table7 blank 5 14 16 shown.seventh in omega arith

  shown_not_empty : NotEmpty p
  shown_not_empty = record {
    not_none_to_all = none_to_all;
    not_one_fixed_plan = one_fixed_plan;
    not_nothing_written = nothing_written;
    not_last_is_busy = last_is_busy;
  }

module _
    (CanMeet : JobTable → Type 0) (IsPlan : JobTable → List Chosen → Type 0) (p : Planner) (s before : List ℕ) (n b l : ℕ)
    (plans : Plans p s before n b l) where
  -- what is said of a plan are its own figures
  pub figures_of : PlanAnswer CanMeet IsPlan (read_table s) before (p.answer s before) (p.area s before)
      → (t : JobTable) × (xs : List Chosen) × (read_table s ≡ accepted t) × IsPlan t xs × TrueFigures xs n b l before (p.area s before)
  figures_of (A.no_room w h) = absurd (says_not_zero Room _ (sym h.says ∙ plans))
  figures_of (A.bad_table w f e h) = absurd (says_not_zero f _ (sym h.says ∙ plans))
  figures_of (A.no_plan w t e m h) = absurd (says_not_zero None _ (sym h.says ∙ plans))
  figures_of (A.planned w t e xs q h) =
      let said : 0 ∷ n ∷ b ∷ l ∷ [] ≡ 0 ∷ length (plan_bytes (steps_for xs)) ∷ busy xs ∷ last_from 0 xs ∷ [] = sym plans ∙ h.says in
      let size : length (plan_bytes (steps_for xs)) ≡ n = sym (ap (λ (ns : List ℕ). get_or ns 1 0) said) in (
        t,
        xs,
        e,
        q,
        record {
          written = rw size at h.front;
          sum = ap (λ (ns : List ℕ). get_or ns 2 0) said;
          greatest_finish = ap (λ (ns : List ℕ). get_or ns 3 0) said;
        },
      )

-- The free-order planner.
module _ (p : Planner) (meets : (s before : List ℕ) → FreeAllows s before (p.answer s before) (p.area s before)) where
  free_shown : Shown p
  unfolding AllHold marked
  free_shown = record {
    first = marked_hold.0 blank _ _ blank_room (meets E blank);
    sixth = marked_hold.1.1.1.1.1.0 blank _ _ blank_room (meets table6 blank);
    seventh = (marked_hold.1.1.1.1.1.1.0 blank _ _ blank_room (meets table7 blank)).0;
  }

  pub free_not_empty : NotEmpty p
  free_not_empty = shown_not_empty p free_shown

  pub free_figures : (s before : List ℕ) (n b l : ℕ) → Plans p s before n b l
      → (t : JobTable) × (xs : List Chosen) × (read_table s ≡ accepted t) × BestPlan t.deadline t.jobs xs × TrueFigures xs n b l before (p.area s before)
  free_figures s before n b l plans = figures_of (Possible Timetable) FreePlan p s before n b l plans (meets s before)

-- The given-order planner.
module _ (p : Planner) (meets : (s before : List ℕ) → GivenAllows s before (p.answer s before) (p.area s before)) where
  given_shown : Shown p
  given_shown = record {
    first = given_E blank _ _ blank_room (meets E blank);
    sixth = given_6 blank _ _ blank_room (meets table6 blank);
    seventh = (given_7 blank _ _ blank_room (meets table7 blank)).0;
  }

  pub given_not_empty : NotEmpty p
  given_not_empty = shown_not_empty p given_shown

  pub given_figures : (s before : List ℕ) (n b l : ℕ) → Plans p s before n b l
      → (t : JobTable) × (xs : List Chosen) × (read_table s ≡ accepted t) × BestInOrder t.deadline t.jobs xs ×
      TrueFigures xs n b l before (p.area s before)
  given_figures s before n b l plans = figures_of (Possible InOrder) GivenPlan p s before n b l plans (meets s before)

-- The least deadline.
module _ (least : List ℕ → Least) (meets : (s : List ℕ) → LeastAllows s (least s)) where
  third : A.least_says (least E) ≡ 0 ∷ 45 ∷ []
  unfolding AllHold marked
  third = marked_hold.1.1.0 (least E) (meets E)

  tenth : A.least_says (least table_no) ≡ 0 ∷ 1 ∷ []
  unfolding AllHold marked
  tenth = marked_hold.1.1.1.1.1.1.1.1.1.1.1.0 (least table_no) (meets table_no)

  pub not_never_met : ¬ (NeverMet least)
  not_never_met n = says_not_zero None _ (sym (n E table_e read_e) ∙ third)

  pub not_one_deadline : (d : ℕ) → ¬ (OneDeadline least d)
  not_one_deadline d n =
      let x : d ≡ 45 = ap (λ (ns : List ℕ). get_or ns 1 0) (sym (n E table_e read_e) ∙ third) in
      let y : d ≡ 1 = ap (λ (ns : List ℕ). get_or ns 1 0) (sym (n table_no _ read_no) ∙ tenth) in
      omega arith
