-- `given::given_plan` goes through the jobs in table order. The invariant is `Going` of proofs/Going.antt.
-- Assumes nothing.
use lib.ListN.{take}
use Rattle.given.proofs.Going.{Going}
use Rattle.given.proofs.given_plan.Given as goal

abbrev pub invariant-loop-job : goal.invariant-loop-job
invariant-loop-job l = Going l.d (take l.t.count l.t.jobs) l.draft l.job-index
