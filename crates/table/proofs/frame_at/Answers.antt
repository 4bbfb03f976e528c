-- `table::frame_at` meets its contract: the record's refusal, or the deadline's. Assumes nothing.
use Rattle.std.proofs.Common.{rules}
use native.Mathlib.Omega.{arith}
use Rattle.table.proofs.Tables.{frame_opened}
use Rattle.table.proofs.frame_at.Goals as goal

pub returns-in_err-frame : goal.returns-in_err-frame
returns-in_err-frame c = search (rules, (frame_opened _ _ c.opened.ensures).out _ c.in_err-frame.was)

pub time_at-requires : goal.time_at-requires
time_at-requires c = omega (arith, (frame_opened _ _ c.opened.ensures).long _ c.in_ok-frame.was)

pub returns-in_err-deadline : goal.returns-in_err-deadline
returns-in_err-deadline c = search (rules, (frame_opened _ _ c.opened.ensures).in_it _ c.in_ok-frame.was)

pub returns-then-deadline-eq0 : goal.returns-then-deadline-eq0
returns-then-deadline-eq0 c = search (rules, (frame_opened _ _ c.opened.ensures).in_it _ c.in_ok-frame.was)

pub returns : goal.returns
returns c = search (rules, (frame_opened _ _ c.opened.ensures).in_it _ c.in_ok-frame.was)
