-- `judge::check_plan` meets its contract: a table that does not read is answered with its reader's refusal, and one that reads is
-- sound and is the table that its bytes mean. Assumes nothing.
use mathlib.Core.Path.{sym, ap, ◌∙◌}
use Rattle.std.proofs.Common.{rules}
use Rattle.table.proofs.Reading.{read_refused, read_whole}
use Rattle.judge.specs.Check.{after_table, check_plan}
use Rattle.judge.proofs.check_plan.Goals as goal

pub returns-in_err-read_table : goal.returns-in_err-read_table
unfolding check_plan
returns-in_err-read_table c =
    search (rules, ap (after_table c.args.plan.now) (read_refused c.args.table.now _ c.read_table.ensures _ c.in_err-read_table.was))

pub check_read-requires : goal.check_read-requires
check_read-requires c = (read_whole _ _ c.read_table.ensures _ c.in_ok-read_table.was).sound

pub returns : goal.returns
unfolding check_plan
returns c =
    c.check_read.ensures ∙
    ap (after_table c.args.plan.now) (sym (read_whole c.args.table.now _ c.read_table.ensures _ c.in_ok-read_table.was).is)
