-- From what `earliest` answers to the least deadline of what was read.
-- Assumes nothing.
use mathlib.Core.Path.{◌≡◌, refl, ap}
use Rattle.std.specs.Prelude.{Option, None, Some, Result, Ok, Err, ok_or}
use Prim.Native.Nat.{ℕ}
use Rattle.records.specs.declared.refusal.Refusal.{Refusal}
use Rattle.records.specs.declared.refusal.Refusal.TheVariants as R
use Rattle.records.specs.Limits.{largest_time}
use Rattle.table.specs.declared.Table.{Table}
use Rattle.table.specs.Tables.{job_table}
use Rattle.choice.specs.Choices.{IsEarliest}
use Rattle.planner.specs.Answers.{was_read, LeastRead, bad_table, never_met, met_from}

pub least_refused : (x : Result Table Refusal) (f : Refusal) → x ≡ Err f → LeastRead (was_read x) (Err f)
least_refused x f h = bad_table f (ap was_read h) refl

module _ (x : Result Table Refusal) (t : Table) (is : x ≡ Ok t) where
  pub least_answered : (q : Option ℕ) → IsEarliest largest_time (job_table t).jobs q → LeastRead (was_read x) (ok_or q R.None)
  least_answered (Some d) e = met_from (job_table t) (ap was_read is) d e refl
  least_answered None e = never_met (job_table t) (ap was_read is) e refl
