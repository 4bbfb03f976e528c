-- `listing::put_lines` meets its contract. The invariant: the lines that are left, written where they belong, give all of them written;
-- a span has at most 65,535 ticks, so no start wraps. Assumes nothing.
use Rattle.table.specs.Tables.{job_table}
use Rattle.plan.specs.Plans.{steps_of}
use Rattle.listing.proofs.Lines.{Kept}
use Rattle.listing.proofs.put_lines.Given as goal

abbrev pub invariant-loop-step : goal.invariant-loop-step
invariant-loop-step l = Kept (job_table l.t).jobs (steps_of l.plan) l.initial.out l.from l.out l.step-index l.at l.start
