-- Answers that the contracts of the C functions rule out: figures exchanged, a refusal that reads as accepted, a place lost, another deadline.
-- Shown of Table E, of no bytes at all, and of a table with a wrong kind at byte 3. Assumes nothing.
use mathlib.Core.Path.{◌≡◌, refl, ap, ◌∙◌}
use mathlib.Core.List.{List, [], ◌∷◌}
use Prim.Native.Nat.{ℕ}
use native.Mathlib.Omega.{arith}
use Rattle.model.specs.Timetable.{Chosen}
use Rattle.model.proofs.Lists.{clash}
use Rattle.records.specs.declared.refusal.Refusal.{Refusal}
use Rattle.records.specs.Records.{form_of, judged, used, list_from}
use Rattle.records.specs.Refusals.{refusal_says, refused}
use Rattle.table.specs.Tables.{JobTable, frame_at, job_at, jobs_read, read_table}
use Rattle.planner.specs.Answers.{Planned, Least}
use Rattle.planner.specs.Answers as A
use Rattle.planner.specs.Answers.{PlanAnswer, planned_says, least_says}
use Rattle.faults.specs.Allows.{to, to_mut}
use Rattle.panel.specs.declared.PlannedNumbers.{PlannedNumbers}
use Rattle.panel.specs.declared.LeastNumbers.{LeastNumbers}
use Rattle.panel.specs.declared.CheckedNumbers.{CheckedNumbers}
use Rattle.panel.specs.Numbers.{planned_record, least_record, checked_record}
use Rattle.panel.proofs as panel
use Rattle.panel.specs.contracts as panel_contracts
use Rattle.marked.specs.Marked.{E, plan_e}
use Rattle.marked.proofs.Cases as case
use Rattle.marked.proofs.Checks.{passes_45, late_44}
use Rattle.marked.proofs.Examples.{table_e, read_e, chosen_e, bytes44}
use Rattle.marked.proofs.Planners.{blank, blank_room}
use Rattle.settled.specs.Settled.{RulesOut}

-- a refused table is refused by number and place, where there is room
module _ (CanMeet : JobTable → Type 0) (IsPlan : JobTable → List Chosen → Type 0) (s after : List ℕ) (f : Refusal) (bad : read_table s ≡ refused f) where
  said_bad : (p : Planned) → PlanAnswer CanMeet IsPlan (read_table s) blank p after → planned_says p ≡ refusal_says f
  said_bad p (A.no_room w h) = absurd (omega (arith, blank_room))
  said_bad p (A.bad_table w g e h) = let same : g ≡ f = cc in h.says ∙ ap refusal_says same
  said_bad p (A.no_plan w t e n h) = clash (cc)
  said_bad p (A.planned w t e xs q h) = clash (cc)

abbrev PlanNot : List ℕ → PlannedNumbers → Type 0
PlanNot s r = RulesOut panel_contracts.zb_plan_free.ended panel.zb_plan_free.Reads.Learnt ([], ([], tt)) (to s, (to_mut blank, tt)) r

abbrev planned : ℕ → ℕ → ℕ → ℕ → ℕ → PlannedNumbers
planned number place length busy last = record { number = number; place = place; length = length; busy = busy; last = last }

-- E's busy total and last finish exchanged; no table, and no refusal; a wrong kind, its place lost
pub zb_plan_free : PlanNot E (planned 0 0 7 45 40) × PlanNot [] (planned 0 0 0 0 0) × PlanNot (0x10 ∷ 0x2D ∷ 0x00 ∷ 0x21 ∷ []) (planned 2 0 0 0 0)
unfolding read_table frame_at jobs_read job_at judged form_of list_from used
zb_plan_free = (
  (λ m e.
      let said = (case.plan_case E table_e read_e chosen_e refl blank e.0 _ blank_room e.1).0 in
      let z : ◌≡◌ {A = ℕ} 45 40 = ap (λ (p : PlannedNumbers). p.busy) (e.2 ∙ ap planned_record said) in
      omega arith),
  (λ m e.
      let said = said_bad _ _ [] _ _ refl e.0 e.1 in
      let z : ◌≡◌ {A = ℕ} 0 1 = ap (λ (p : PlannedNumbers). p.number) (e.2 ∙ ap planned_record said) in
      omega arith),
  (λ m e.
      let said = said_bad _ _ (0x10 ∷ 0x2D ∷ 0x00 ∷ 0x21 ∷ []) _ _ refl e.0 e.1 in
      let z : ◌≡◌ {A = ℕ} 0 3 = ap (λ (p : PlannedNumbers). p.place) (e.2 ∙ ap planned_record said) in
      omega arith),
)

-- E's busy total and last finish exchanged, in the given order too; its least deadline one too high, or in the place's stead
abbrev GivenNot : List ℕ → PlannedNumbers → Type 0
GivenNot s r = RulesOut panel_contracts.zb_plan_given.ended panel.zb_plan_given.Reads.Learnt ([], ([], tt)) (to s, (to_mut blank, tt)) r

pub zb_plan_given : GivenNot E (planned 0 0 7 45 40) × GivenNot [] (planned 0 0 0 0 0)
unfolding read_table frame_at judged
zb_plan_given = (
  (λ m e.
      let said = (case.given_plan_case E table_e read_e chosen_e refl blank e.0 _ blank_room e.1).0 in
      let z : ◌≡◌ {A = ℕ} 45 40 = ap (λ (p : PlannedNumbers). p.busy) (e.2 ∙ ap planned_record said) in
      omega arith),
  (λ m e.
      let said = said_bad _ _ [] _ _ refl e.0 e.1 in
      let z : ◌≡◌ {A = ℕ} 0 1 = ap (λ (p : PlannedNumbers). p.number) (e.2 ∙ ap planned_record said) in
      omega arith),
)

abbrev LeastNot : LeastNumbers → Type 0
LeastNot r = RulesOut panel_contracts.zb_least_deadline.ended panel.zb_least_deadline.Reads.Learnt ([], tt) (to E, tt) r

pub zb_least_deadline : LeastNot (record { number = 0; place = 0; deadline = 46 }) × LeastNot (record { number = 0; place = 45; deadline = 45 })
zb_least_deadline = (
  (λ m e.
      let z : ◌≡◌ {A = ℕ} 46 45 = ap (λ (p : LeastNumbers). p.deadline) (e.2 ∙ ap least_record (said_least e.0 e.1)) in
      omega arith),
  (λ m e.
      let z : ◌≡◌ {A = ℕ} 45 0 = ap (λ (p : LeastNumbers). p.place) (e.2 ∙ ap least_record (said_least e.0 e.1)) in
      omega arith),
)
  where
    said_least : (r : Least) → A.LeastAnswer E r → least_says r ≡ 0 ∷ 45 ∷ []
    said_least r a = case.least_case E table_e read_e 44 (omega arith) chosen_e refl (λ h. refl) r a

-- LATE that reads as a pass; last finish and busy total exchanged
abbrev CheckNot : List ℕ → CheckedNumbers → Type 0
CheckNot s r = RulesOut panel_contracts.zb_check_plan.ended panel.zb_check_plan.Reads.Learnt ([], ([], tt)) (to s, (to plan_e, tt)) r

pub zb_check_plan :
    CheckNot bytes44 (record { number = 0; place = 0; last = 0; busy = 0 }) × CheckNot E (record { number = 0; place = 0; last = 40; busy = 45 })
zb_check_plan = (
  (λ m e. let z : ◌≡◌ {A = ℕ} 0 11 = ap (λ (p : CheckedNumbers). p.number) (e ∙ ap checked_record late_44) in omega arith),
  (λ m e. let z : ◌≡◌ {A = ℕ} 40 45 = ap (λ (p : CheckedNumbers). p.last) (e ∙ ap checked_record passes_45) in omega arith),
)
