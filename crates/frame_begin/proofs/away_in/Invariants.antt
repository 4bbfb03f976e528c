-- `frame_begin::away_in` meets its contract: what is still to look at gives the same as the whole. Assumes nothing.
use Rattle.frame_begin.proofs.Looked.{Looked}
use Rattle.frame_begin.proofs.away_in.Given as goal

abbrev pub invariant-loop-k : goal.invariant-loop-k
invariant-loop-k l = Looked l.plan l.count l.id l.k
