-- What the own contracts of the C functions allow, and what it is that a record is handed out of an answer. Assumes nothing.
use Rattle.std.specs.Prelude.{ℕ, List, [], ◌≡◌}
use Rattle.planner.specs.Answers.{Planned, Least}
use Rattle.planner.specs.Answers.{planned_says, least_says}
use Rattle.faults.specs.Allows.{to, to_mut}
use Rattle.judge.specs.Check.{Checked}
use Rattle.judge.specs.Check.{checked_says}
use Rattle.panel.specs.declared.PlannedNumbers.{PlannedNumbers}
use Rattle.panel.specs.declared.LeastNumbers.{LeastNumbers}
use Rattle.panel.specs.declared.CheckedNumbers.{CheckedNumbers}
use Rattle.panel.specs.Numbers.{planned_record, least_record, checked_record}
use Rattle.panel.proofs as panel

abbrev pub ZbFree : List ℕ → List ℕ → PlannedNumbers → List ℕ → Type 0
ZbFree s before r after = panel.zb_plan_free.Reads.Learnt ([], ([], tt)) (to s, (to_mut before, tt)) r (to s, (to_mut after, tt))

abbrev pub ZbGiven : List ℕ → List ℕ → PlannedNumbers → List ℕ → Type 0
ZbGiven s before r after = panel.zb_plan_given.Reads.Learnt ([], ([], tt)) (to s, (to_mut before, tt)) r (to s, (to_mut after, tt))

abbrev pub ZbLeast : List ℕ → LeastNumbers → Type 0
ZbLeast s r = panel.zb_least_deadline.Reads.Learnt ([], tt) (to s, tt) r (to s, tt)

abbrev pub ZbCheck : List ℕ → List ℕ → CheckedNumbers → Type 0
ZbCheck s p r = panel.zb_check_plan.Reads.Learnt ([], ([], tt)) (to s, (to p, tt)) r (to s, (to p, tt))

-- A record is handed out of an answer that may be given, by the numbers that the answer says: so every promise of that answer is one of the record.
pub record HandsOut {A R : Type 0} (May : A → Type 0) (record_of : A → R) (r : R) : Type 0 where
  pub answer : A
  pub allowed : May answer
  pub numbers : r ≡ record_of answer

abbrev pub HandsPlan : (Planned → Type 0) → PlannedNumbers → Type 0
HandsPlan May = HandsOut May (λ (a : Planned). planned_record (planned_says a))

abbrev pub HandsLeast : (Least → Type 0) → LeastNumbers → Type 0
HandsLeast May = HandsOut May (λ (a : Least). least_record (least_says a))

abbrev pub HandsChecked : (Checked → Type 0) → CheckedNumbers → Type 0
HandsChecked May = HandsOut May (λ (a : Checked). checked_record (checked_says a))
