-- `rows::lower_of` gives what goes with the lower total, and with the kept one where both are equal.
-- Assumes nothing.
use borrow.Author.Tests.{lt-ltb, le-ltb}
use Rattle.rows.specs.Columns.{lower}
use Rattle.rows.proofs.lower_of.Goals as goal

pub returns-then-sent-kept : goal.returns-then-sent-kept
unfolding lower
returns-then-sent-kept c = rw (lt-ltb _ _ c.if-sent-kept.true)

pub returns-else-sent-kept : goal.returns-else-sent-kept
unfolding lower
returns-else-sent-kept c = rw (le-ltb _ _ c.if-sent-kept.false)
