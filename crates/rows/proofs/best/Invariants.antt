-- `rows::best` gives the best of all columns. The loop's invariant: what was found is the best of the columns passed.
-- Assumes nothing.
use mathlib.Core.Path.{◌≡◌}
use mathlib.Core.List.{List}
use Prim.Native.Nat.{◌+◌, ◌-◌, ◌≤◌}
use lib.ListN.{length}
use Rattle.model.specs.declared.Job.{Job}
use Rattle.model.specs.Recurrence.{Holds, best_below}
use Rattle.records.specs.Limits.{most_jobs}
use Rattle.rows.specs.Rows.{nothing}
use Rattle.rows.specs.Columns.{Rows, Single}
use Rattle.rows.proofs.best.Given as goal

abbrev pub invariant-loop-t : goal.invariant-loop-t
invariant-loop-t l =
    (l.t-end ≡ l.d + 1)
    × (l.t ≤ l.d + 1)
    × Single l.found
    × ((os : List Job) → Rows l.d os l.totals l.masks → length os ≤ most_jobs → Holds nothing l.found.total l.found.mask (best_below l.d os l.base l.t))

abbrev pub decreases-loop-t : goal.decreases-loop-t
decreases-loop-t l = l.t-end - l.t
