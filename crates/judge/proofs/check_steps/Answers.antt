-- `judge::check_steps` meets its contract; what its loop keeps stands in Invariants.antt. Assumes nothing.
use Prim.Native.Nat.{ℕ, ◌≤◌, ◌<◌}
use native.Mathlib.Omega.{arith}
use mathlib.Core.Path.{◌≡◌, sym, ◌∙◌}
use mathlib.Core.List.{List}
use Rattle.std.specs.Prelude.{None, Some}
use lib.ListN.{length, get_or}
use lib.Seq.{get_or-take, length-take-le}
use borrow.Author.Rules.{rules}
use Rattle.model.specs.Positions.{no_job}
use Rattle.table.specs.declared.Table.{Table}
use Rattle.records.specs.Limits.{most_jobs}
use Rattle.table.specs.Tables.{job_table}
use Rattle.lookup.specs.Lookup.{job_of, Indexes}
use Rattle.lookup.proofs.Lookup.{index_tells, index_none}
use Rattle.plan.specs.Plans.{step_at}
use Rattle.judge.proofs.Walk.{walk_begin, walk_room, walk_stranger, walk_kept, walk_more, walk_left, walk_passes, walk_late}
use Rattle.judge.proofs.check_steps.Goals.{After-job-1}
use Rattle.judge.proofs.check_steps.Goals as goal

-- the table has as many jobs as it counts
counted : (t : Table) → length t.jobs ≡ 32 → t.count ≤ most_jobs → length (job_table t).jobs ≡ t.count
counted t full few = length-take-le t.count t.jobs (omega (arith, few))

-- what the index says of an id: the table has no such job, or it stands there
module _
    (t : Table) (index : List ℕ) (is : Indexes (job_table t).jobs index) (size : length (job_table t).jobs ≡ t.count) (few : t.count ≤ most_jobs)
    (id : ℕ) (byte : id < 256) where
  lacks : t.count ≤ get_or index id 0 → job_of (job_table t).jobs id ≡ None
  lacks h = index_none _ index is (omega (arith, size)) id byte (omega (arith, size))

  has : get_or index id 0 < t.count → job_of (job_table t).jobs id ≡ Some (get_or t.jobs (get_or index id 0) no_job)
  has h = rw (← get_or-take t.count t.jobs (get_or index id 0) no_job h) (index_tells _ index is (omega (arith, size)) id byte (omega (arith, size)))

-- the job that the step names
found :
    (c : After-job-1) →
    let id = (step_at c.args.plan.now c.loop-k.k).id in
    let i = get_or c.index_of-index.result id 0 in
    job_of (job_table c.args.t.now).jobs id ≡ Some (get_or c.args.t.now.jobs i no_job)
found c =
    let full : length c.args.t.now.jobs ≡ 32 = search rules in
    let e = has c.args.t.now _ c.index_of-index.ensures (counted c.args.t.now full c.requires.0.few) c.requires.0.few _ (search rules) c.if-t-i.false in
    rw c.step_at-step.ensures at e

pub loop-k-init : goal.loop-k-init
loop-k-init c = walk_begin _ _ _ c.requires.1

pub returns-then-t-i : goal.returns-then-t-i
returns-then-t-i c =
    let e = lacks c.args.t.now _ c.index_of-index.ensures (counted c.args.t.now (search rules) c.requires.0.few) c.requires.0.few _ (search rules) c.if-t-i.true in
    walk_stranger _ _ _ c.loop-k.invariant c.loop-k-test.true (rw c.step_at-step.ensures at e)

pub returns-then-is_kept : goal.returns-then-is_kept
returns-then-is_kept c =
    let e = sym c.is_kept.ensures ∙ c.if-is_kept.true in
    walk_kept _ _ _ c.loop-k.invariant c.loop-k-test.true _ (found (goal.at.returns-then-is_kept c).After-job-1) (rw c.step_at-step.ensures at e)

pub with-laid-requires : goal.with-laid-requires
with-laid-requires c = walk_room _ _ _ c.loop-k.invariant c.requires.0.good

pub loop-k-preserved : goal.loop-k-preserved
loop-k-preserved c =
    let s = (goal.at.loop-k-preserved c).After-job-1 in
    let e = sym c.is_kept.ensures ∙ c.if-is_kept.false in
    rw (c.with-laid.ensures, c.step_at-step.ensures) (walk_more _ _ _ c.loop-k.invariant c.loop-k-test.true _ (found s) (rw c.step_at-step.ensures at e))

pub returns-then-steps-t : goal.returns-then-steps-t
returns-then-steps-t c =
    walk_left _ _ _ c.loop-k.invariant (omega arith) c.requires.0.good (omega (arith, counted c.args.t.now (search rules) c.requires.0.few))

pub returns-then-from-last : goal.returns-then-from-last
returns-then-from-last c =
    walk_late _ _ _ c.loop-k.invariant (omega arith) c.requires.0.good (omega (arith, counted c.args.t.now (search rules) c.requires.0.few)) (omega arith)

pub returns : goal.returns
returns c =
    walk_passes _ _ _ c.loop-k.invariant (omega arith) c.requires.0.good (omega (arith, counted c.args.t.now (search rules) c.requires.0.few)) (omega arith)
