-- `table::jobs_from` meets its contract; what its loop keeps stands in Invariants.antt. Assumes nothing.
use Prim.Native.Nat.{◌<◌}
use native.Mathlib.Omega.{arith}
use mathlib.Core.Path.{◌≡◌, sym, ap, ◌∙◌}
use mathlib.Core.List.{[], ◌∷◌, ◌++◌}
use Rattle.std.proofs.Common.{rules}
use Rattle.std.specs.Prelude.{Ok}
use Rattle.records.specs.Limits.{most_jobs}
use Rattle.records.specs.Records.{one, parsed}
use Rattle.table.specs.Tables.{job_id, jobs_read, with_deadline, table_read}
use Rattle.records.proofs.Listed.{so_far_begin, so_far_refused, so_far_ended, so_far_twice, so_far_more}
use Rattle.table.proofs.Tables.{row_parsed, row_is, row_few, table_more, end_read}
use Rattle.table.proofs.jobs_from.Goals.{After-struct_known-1}
use Rattle.table.proofs.jobs_from.Goals as goal

-- a job was read at the place
listed : (c : After-struct_known-1) → row_parsed c.args.s.now c.loop-job.p c.loop-job.t.count ≡ one c.in-Listed.job c.in-Listed.next
listed c = ap parsed (sym c.job_at.ensures ∙ (c.in_ok-job.was ∙ ap Ok c.in-Listed.is))

-- where a job was read there is room for it
room : (c : After-struct_known-1) → c.loop-job.t.count < most_jobs
room c = row_few (row_is _ _ _ (listed c))

pub loop-job-init : goal.loop-job-init
loop-job-init c = record { js = []; held = rw c.empty-t.ensures; so = rw c.empty-t.ensures (so_far_begin job_id _ _ _) }

pub returns-in_err-job : goal.returns-in_err-job
unfolding jobs_read
returns-in_err-job c =
    let out = so_far_refused _ _ _ c.loop-job.invariant.so (ap parsed (sym c.job_at.ensures ∙ c.in_err-job.was)) in
    search (rules, ap (λ o. table_read (with_deadline c.args.deadline o)) out)

pub returns-then-seen-id : goal.returns-then-seen-id
unfolding jobs_read
returns-then-seen-id c =
    let s = (goal.at.returns-then-seen-id c).After-struct_known-1 in
    ap (λ o. table_read (with_deadline c.args.deadline o)) (so_far_twice _ _ _ c.loop-job.invariant.so (listed s) (omega arith) c.if-seen-id.true)

pub bounds-t-t : goal.bounds-t-t
bounds-t-t c = room (goal.at.bounds-t-t c).After-struct_known-1

pub loop-job-preserved : goal.loop-job-preserved
loop-job-preserved c =
    let s = (goal.at.loop-job-preserved c).After-struct_known-1 in
    record {
      js = c.loop-job.invariant.js ++ (c.in-Listed.job ∷ []);
      held = table_more c.loop-job.t _ c.loop-job.invariant.js c.in-Listed.job c.loop-job.invariant.held (rw (← c.loop-job.invariant.so.counted) (room s));
      so = so_far_more _ _ _ c.loop-job.invariant.so (listed s) (omega arith) (room s) c.if-seen-id.false;
    }

pub returns-in_err-ended_at-in-Last : goal.returns-in_err-ended_at-in-Last
unfolding jobs_read
returns-in_err-ended_at-in-Last c =
    let ended = so_far_ended _ _ _ c.loop-job.invariant.so (ap parsed (sym c.job_at.ensures ∙ (c.in_ok-job.was ∙ ap Ok c.in-Last.is))) in
    let out = (end_read _ c.loop-job.invariant.js c.args.s.now _ c.loop-job.invariant.held ended).out _ (sym c.ended_at.ensures ∙ c.in_err-ended_at-in-Last.was) in
    search (rules, out)

pub returns-in-Last : goal.returns-in-Last
unfolding jobs_read
returns-in-Last c =
    let ended = so_far_ended _ _ _ c.loop-job.invariant.so (ap parsed (sym c.job_at.ensures ∙ (c.in_ok-job.was ∙ ap Ok c.in-Last.is))) in
    (end_read _ c.loop-job.invariant.js c.args.s.now _ c.loop-job.invariant.held ended).in_it _ (sym c.ended_at.ensures ∙ c.in_ok-ended_at-in-Last.was)
