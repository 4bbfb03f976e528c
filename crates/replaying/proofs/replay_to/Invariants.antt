-- `replaying::replay_to` meets its contract: `Going` of proofs/Handed.antt is kept. The measure is what is left of the log. Assumes nothing.
use lib.ListN.{length}
use Rattle.replaying.proofs.Handed.{Going}
use Rattle.replaying.proofs.replay_to.Given as goal

abbrev pub invariant-loop-rest : goal.invariant-loop-rest
invariant-loop-rest g l = Going l.log (g.W.Write.contents l.fn.to) l.frame l.rest l.written (g.W.Write.contents l.to)

abbrev pub decreases-loop-rest : goal.decreases-loop-rest
decreases-loop-rest g l = length l.rest
