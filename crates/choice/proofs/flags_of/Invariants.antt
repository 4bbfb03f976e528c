-- `choice::flags_of` marks the positions one after another. The loop's invariant: what is left of the mask marks the rest as the whole mask does.
-- Assumes nothing.
use Rattle.choice.proofs.Loops.{Marking}
use Rattle.choice.proofs.flags_of.Given as goal

abbrev pub invariant-loop-position : goal.invariant-loop-position
invariant-loop-position l = Marking l.position-items l.mask l.flags l.left l.position-index
