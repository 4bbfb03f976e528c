-- `choice::earliest` keeps the least deadline between `low` and `high`, the loop's invariant, until the two are next to each other.
-- The measure is their distance. Assumes nothing.
use Prim.Native.Nat.{◌-◌}
use Rattle.choice.proofs.Answers.{Between}
use Rattle.choice.proofs.earliest.Given as goal

abbrev pub invariant-loop-high : goal.invariant-loop-high
invariant-loop-high l = Between l.p l.low l.high

abbrev pub decreases-loop-high : goal.decreases-loop-high
decreases-loop-high l = l.high - l.low
