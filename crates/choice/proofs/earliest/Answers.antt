-- `choice::earliest` meets its contract; what its loop keeps stands in Invariants.antt. Assumes nothing.
use Rattle.choice.proofs.Answers.{closed}
use Rattle.choice.proofs.earliest.Goals as goal

pub returns : goal.returns
returns c = closed _ _ _ c.loop-high.invariant c.loop-high-test.false
