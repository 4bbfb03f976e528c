-- `table::read_table` meets its contract: the first record stands at the start, and leads to the jobs or to its refusal. Assumes nothing.
use mathlib.Core.Path.{sym, ap, ◌∙◌}
use Rattle.std.proofs.Common.{rules}
use Rattle.table.specs.Tables.{frame_at, after_frame, read_table, table_read}
use Rattle.table.proofs.read_table.Goals as goal

pub returns-in_err-deadline : goal.returns-in_err-deadline
unfolding read_table
returns-in_err-deadline c =
    let first = sym (c.frame_at.ensures ∙ ap (frame_at c.args.s.now) c.start.ensures) ∙ c.in_err-deadline.was in
    search (rules, ap (λ a. table_read (after_frame c.args.s.now a)) first)

pub returns : goal.returns
unfolding read_table
returns c =
    let first = sym (c.frame_at.ensures ∙ ap (frame_at c.args.s.now) c.start.ensures) ∙ c.in_ok-deadline.was in
    c.jobs_from.ensures ∙ sym (ap (λ a. table_read (after_frame c.args.s.now a)) first)
