-- `input::fill` meets its contract. The invariant: what stands at the front of the area is what was taken from the input.
-- The measure is the room that is left. Assumes nothing.
use Rattle.std.proofs.Common.{◌≡◌, ◌≤◌, ◌-◌, length, take}
use Rattle.std.specs.Io.KnownBytes.{Consumes}
use Rattle.input.proofs.fill.Given as goal

abbrev pub invariant-loop-n : goal.invariant-loop-n
invariant-loop-n g l =
    (length l.area ≡ length l.initial.area)
    × (l.n ≤ length l.area)
    × Consumes (g.R.Read.remaining l.initial.from) (g.R.Read.remaining l.from) (take l.n l.area)

abbrev pub decreases-loop-n : goal.decreases-loop-n
decreases-loop-n g l = length l.area - l.n
