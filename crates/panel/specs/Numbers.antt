-- The answers as records of plain numbers. Each is made of the list of numbers that the answer says by document 01, and of nothing else:
-- where that begins with 0, of the values behind it; else of the refusal's number and place. A field that an answer does not have is 0. Assumes nothing.
use Rattle.std.specs.Prelude.{ℕ, cond, List, get_or, eqb, unwrap_or}
use Rattle.records.specs.Refusals.{said_by}
use Rattle.planner.specs.Answers.{Planned, Least, planned_says, least_says}
use Rattle.judge.specs.Check.{Checked, checked_says}
use Rattle.panel.specs.declared.PlannedNumbers.{PlannedNumbers}
use Rattle.panel.specs.declared.LeastNumbers.{LeastNumbers}
use Rattle.panel.specs.declared.CheckedNumbers.{CheckedNumbers}

-- one of two records, by the first number
abbrev pub by_first : {R : Type 0} → List ℕ → R → R → R
by_first ns values refusal = cond (eqb (get_or ns 0 0) 0) values refusal

abbrev pub planned_record : List ℕ → PlannedNumbers
planned_record ns =
    by_first ns (record { number = 0; place = 0; length = get_or ns 1 0; busy = get_or ns 2 0; last = get_or ns 3 0 })
    (record { number = (said_by ns).number; place = unwrap_or (said_by ns).place 0; length = 0; busy = 0; last = 0 })

abbrev pub least_record : List ℕ → LeastNumbers
least_record ns =
    by_first ns (record { number = 0; place = 0; deadline = get_or ns 1 0 }) (record { number = (said_by ns).number; place = unwrap_or (said_by ns).place 0; deadline = 0 })

abbrev pub checked_record : List ℕ → CheckedNumbers
checked_record ns =
    by_first ns (record { number = 0; place = 0; last = get_or ns 1 0; busy = get_or ns 2 0 })
    (record { number = (said_by ns).number; place = unwrap_or (said_by ns).place 0; last = 0; busy = 0 })

-- what is handed out of an answer
abbrev pub planned_numbers : Planned → PlannedNumbers
planned_numbers p = planned_record (planned_says p)

abbrev pub least_numbers : Least → LeastNumbers
least_numbers r = least_record (least_says r)

abbrev pub checked_numbers : Checked → CheckedNumbers
checked_numbers r = checked_record (checked_says r)
