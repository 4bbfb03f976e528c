-- `choice::best_choice` asks the work rows, which are ready for what is prepared, and tests their least total against the deadline.
-- Assumes nothing.
use native.Mathlib.Omega.{arith}
use Rattle.choice.proofs.Held.{ready_few, ready_rows}
use Rattle.choice.proofs.Answers.{answer_mask, answer_nothing}
use Rattle.choice.proofs.best_choice.Goals as goal

pub away_jobs-requires : goal.away_jobs-requires
away_jobs-requires c = ready_few _ c.requires.1

pub least-least-requires : goal.least-least-requires
least-least-requires c = rw c.away_jobs.ensures (ready_rows _ c.requires.1 _ c.requires.0)

pub returns-then-least-d : goal.returns-then-least-d
returns-then-least-d c js held =
    answer_mask _ _ _ _ js _ held c.away_jobs.ensures c.least-least.ensures.1 c.requires.0 (omega arith)

pub returns-else-least-d : goal.returns-else-least-d
returns-else-least-d c js held = answer_nothing c.args.d c.least-least.result.total _ _ js _ held c.away_jobs.ensures c.least-least.ensures.1 (omega arith)
