-- `rows::send` goes from the highest column down, and each takes the lower of two. The loop's invariant: the columns passed are changed, and no other.
-- Assumes nothing.
use Prim.Native.Nat.{◌≤◌}
use Rattle.rows.specs.Columns.{Sent}
use Rattle.rows.proofs.send.Given as goal

abbrev pub invariant-loop-t : goal.invariant-loop-t
invariant-loop-t l =
    (l.room.setup ≤ l.t) × (l.t ≤ l.room.end) × Sent l.t l.room.end l.room.setup l.local l.bit l.initial.totals l.initial.masks l.totals l.masks
