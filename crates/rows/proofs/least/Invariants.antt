-- `rows::least` adds the jobs one after another, and takes the best of all columns. The loop's invariant: the rows hold the jobs added so far.
-- Assumes nothing.
use mathlib.Core.List.{reverse}
use lib.ListN.{take}
use Rattle.rows.specs.Columns.{Rows}
use Rattle.rows.proofs.least.Given as goal

abbrev pub invariant-loop-k : goal.invariant-loop-k
invariant-loop-k l = Rows l.d (reverse (take l.k l.jobs)) l.totals l.masks
