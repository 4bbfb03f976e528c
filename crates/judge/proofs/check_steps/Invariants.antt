-- `judge::check_steps` meets its contract. The invariant is `Walked` of proofs/Walk.antt: the steps passed so far are listed and laid.
-- Each way out of a turn is one of its laws. Assumes nothing.
use Rattle.table.specs.Tables.{job_table}
use Rattle.judge.proofs.Walk.{Walked}
use Rattle.judge.proofs.check_steps.Given as goal

abbrev pub invariant-loop-k : goal.invariant-loop-k
invariant-loop-k l = Walked (job_table l.t) l.plan l.steps l.laid l.k
