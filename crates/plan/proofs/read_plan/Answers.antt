-- `plan::read_plan` meets its contract; what its loop keeps stands in Invariants.antt. Assumes nothing.
use Prim.Native.Nat.{◌<◌}
use native.Mathlib.Omega.{arith}
use mathlib.Core.Path.{◌≡◌, sym, ap, ◌∙◌}
use mathlib.Core.List.{[], ◌∷◌, ◌++◌}
use Rattle.records.specs.Limits.{most_jobs}
use Rattle.records.specs.Refusals.{start}
use Rattle.std.proofs.Common.{rules}
use Rattle.std.specs.Prelude.{Ok}
use Rattle.records.specs.Records.{one, parsed}
use Rattle.records.proofs.Listed.{so_far_begin, so_far_refused, so_far_ended, so_far_twice, so_far_more}
use Rattle.plan.specs.Plans.{read_plan, plan_read}
use Rattle.plan.proofs.Steps.{plan_entry, step_read, ended_count}
use Rattle.plan.proofs.read_plan.Goals.{After-struct_known-1}
use Rattle.plan.proofs.read_plan.Goals as goal

-- a step was read at the place
listed :
    (c : After-struct_known-1) →
    plan_entry c.args.s.now c.loop-record.p c.loop-record.count ≡ one c.in-Listed.step c.in-Listed.next
listed c = ap parsed (sym c.record_at-answer.ensures ∙ (c.in-Ok.is ∙ ap Ok c.in-Listed.is))

-- where a step was read there is room for it
room : (c : After-struct_known-1) → c.loop-record.count < most_jobs
room c = (step_read _ _ _ _ _ (listed c)).0

pub loop-record-init : goal.loop-record-init
loop-record-init c = record { xs = []; so = rw c.start-p.ensures (so_far_begin _ _ _ start) }

pub returns-in_default : goal.returns-in_default
unfolding read_plan
returns-in_default c =
    search (rules, ap plan_read (so_far_refused _ _ _ c.loop-record.invariant.so (ap parsed (sym c.record_at-answer.ensures ∙ c.in_default.is))))

pub returns-then-seen-id : goal.returns-then-seen-id
unfolding read_plan
returns-then-seen-id c =
    let s = (goal.at.returns-then-seen-id c).After-struct_known-1 in
    ap plan_read (so_far_twice _ _ _ c.loop-record.invariant.so (listed s) (omega arith) c.if-seen-id.true)

pub loop-record-preserved : goal.loop-record-preserved
loop-record-preserved c =
    let s = (goal.at.loop-record-preserved c).After-struct_known-1 in
    record {
      xs = c.loop-record.invariant.xs ++ (c.in-Listed.step ∷ []);
      so = so_far_more _ _ _ c.loop-record.invariant.so (listed s) (omega arith) (room s) c.if-seen-id.false;
    }

pub returns-in-Last : goal.returns-in-Last
unfolding read_plan
returns-in-Last c =
    let read = ap parsed (sym c.record_at-answer.ensures ∙ (c.in-Ok.is ∙ ap Ok c.in-Last.is)) in
    let ended = ended_count c.args.s.now c.loop-record.invariant.xs c.in-Last.next ∙ ap plan_read (so_far_ended _ _ _ c.loop-record.invariant.so read) in
    search (rules, ended, c.loop-record.invariant.so.counted)
