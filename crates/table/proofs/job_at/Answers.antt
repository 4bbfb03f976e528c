-- `table::job_at` meets its contract: the record's refusal, or what its row's body is. Assumes nothing.
use Rattle.std.proofs.Common.{rules}
use Rattle.table.proofs.Tables.{row_opened}
use Rattle.table.proofs.job_at.Goals as goal

pub returns-in_err-row : goal.returns-in_err-row
returns-in_err-row c = search (rules, (row_opened _ _ c.args.count c.opened.ensures).out _ c.in_err-row.was)

pub here_job-requires : goal.here_job-requires
here_job-requires c = search (rules, (row_opened _ _ c.args.count c.opened.ensures).long _ c.in_ok-row.was)

pub either_job-requires : goal.either_job-requires
either_job-requires c = search (rules, (row_opened _ _ c.args.count c.opened.ensures).long _ c.in_ok-row.was)

pub returns-in_default : goal.returns-in_default
returns-in_default c = search (rules, (row_opened _ _ c.args.count c.opened.ensures).in_it _ c.in_ok-row.was)

pub returns-in-HereRow : goal.returns-in-HereRow
returns-in-HereRow c = search (rules, (row_opened _ _ c.args.count c.opened.ensures).in_it _ c.in_ok-row.was)

pub returns-in-EitherRow : goal.returns-in-EitherRow
returns-in-EitherRow c = search (rules, (row_opened _ _ c.args.count c.opened.ensures).in_it _ c.in_ok-row.was)

pub returns-in-EndRow : goal.returns-in-EndRow
returns-in-EndRow c = search (rules, (row_opened _ _ c.args.count c.opened.ensures).in_it _ c.in_ok-row.was)
