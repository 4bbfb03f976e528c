-- `table::jobs_from` meets its contract. The invariant is `SoFar` of crate records: the jobs read so far, and that what is still to
-- do gives the same as the whole. Each way out of a turn is one of its laws; the measure is how many records may still come. Assumes nothing.
use Prim.Native.Nat.{ℕ, suc, ◌-◌}
use mathlib.Core.Path.{◌≡◌}
use mathlib.Core.Bool.{Bool}
use mathlib.Core.List.{List}
use lib.ListN.{length}
use Rattle.model.specs.declared.Job.{Job}
use Rattle.records.specs.declared.refusal.Place.{Place}
use Rattle.table.specs.declared.Table.{Table}
use Rattle.records.specs.Limits.{most_jobs}
use Rattle.table.specs.Tables.{job_id, table_of}
use Rattle.records.proofs.Listed.{SoFar}
use Rattle.table.proofs.Tables.{row_parsed}
use Rattle.table.proofs.jobs_from.Given as goal

-- what the loop keeps: the jobs read so far, held as a table
pub record Kept (s : List ℕ) (first : Place) (D : ℕ) (t : Table) (seen : List Bool) (p : Place) : Type 0 where
  pub js : List Job
  pub held : t ≡ table_of D js
  pub so : SoFar job_id (row_parsed s) (length s) first js t.count seen p

abbrev pub invariant-loop-job : goal.invariant-loop-job
invariant-loop-job l = Kept l.s l.fn.first l.deadline l.t l.seen l.p

abbrev pub decreases-loop-job : goal.decreases-loop-job
decreases-loop-job l = suc most_jobs - l.t.count
