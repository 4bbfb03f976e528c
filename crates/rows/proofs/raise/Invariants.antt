-- `rows::raise` adds the same in each column of a range. The loop's invariant: the columns passed are changed, and no other.
-- Assumes nothing.
use Prim.Native.Nat.{◌-◌, ◌≤◌}
use Rattle.rows.specs.Columns.{Raised}
use Rattle.rows.proofs.raise.Given as goal

abbrev pub invariant-loop-t : goal.invariant-loop-t
invariant-loop-t l = (l.from ≤ l.t) × (l.t ≤ l.to) × Raised l.from l.t l.by l.initial.totals l.totals

abbrev pub decreases-loop-t : goal.decreases-loop-t
decreases-loop-t l = l.to - l.t
