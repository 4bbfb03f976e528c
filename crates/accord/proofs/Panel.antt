-- The C functions hand out records of answers that the planners' and the check's own contracts allow, made of the numbers that the answers say.
-- Assumes nothing.
use Prim.Native.Nat.{ℕ}
use mathlib.Core.Path.{refl}
use mathlib.Core.List.{List}
use Rattle.planner.specs.Answers.{Planned}
use Rattle.judge.specs.Check.{check_plan}
use Rattle.faults.specs.Allows.{CheckAllows}
use Rattle.panel.specs.declared.PlannedNumbers.{PlannedNumbers}
use Rattle.panel.specs.declared.LeastNumbers.{LeastNumbers}
use Rattle.panel.specs.declared.CheckedNumbers.{CheckedNumbers}
use Rattle.accord.specs.Allows.{FreeAllows, GivenAllows, LeastAllows}
use Rattle.accord.specs.Panel.{ZbFree, ZbGiven, ZbLeast, ZbCheck, HandsPlan, HandsLeast, HandsChecked}

module _ (s before : List ℕ) (r : PlannedNumbers) (after : List ℕ) where
  pub zb_free : ZbFree s before r after → HandsPlan (λ (a : Planned). FreeAllows s before a after) r
  zb_free e = record { answer = e.0; allowed = e.1; numbers = e.2 }

  pub zb_given : ZbGiven s before r after → HandsPlan (λ (a : Planned). GivenAllows s before a after) r
  zb_given e = record { answer = e.0; allowed = e.1; numbers = e.2 }

pub zb_least : (s : List ℕ) (r : LeastNumbers) → ZbLeast s r → HandsLeast (LeastAllows s) r
zb_least s r e = record { answer = e.0; allowed = e.1; numbers = e.2 }

pub zb_check : (s p : List ℕ) (r : CheckedNumbers) → ZbCheck s p r → HandsChecked (CheckAllows s p) r
zb_check s p r e = record { answer = check_plan s p; allowed = refl; numbers = e }
