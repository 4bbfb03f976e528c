-- `lookup::index_of` meets its contract. The invariant: the jobs from the i-th on are indexed (`Tail` of proofs/Lookup.antt). Assumes nothing.
use Rattle.lookup.proofs.Lookup.{Tail}
use Rattle.lookup.proofs.index_of.Given as goal

abbrev pub invariant-loop-i : goal.invariant-loop-i
invariant-loop-i l = Tail l.jobs l.i l.index
