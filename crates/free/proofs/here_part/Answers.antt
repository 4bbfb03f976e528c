-- `free::here_part` meets its contract; what its loop keeps stands in Invariants.antt. Assumes nothing.
use Rattle.std.proofs.Common.{◌≤◌, length, true, false, not, refl, ap, inl, inr, arith}
use Rattle.std.proofs.lemmas.List.{length_push}
use Rattle.free.proofs.Parts.{here_room, here_more, here_end}
use Rattle.free.proofs.here_part.Goals as goal

pub push-requires : goal.push-requires
push-requires c =
    let room = c.requires.1 in
    let s = c.in-Some.ensures.steps in
    here_room _ _ _ room room.before room.held _ _ _ _ (c.loop-job.invariant room.before room.held) _ _ _ _ s.0 s.1 (ap not c.if-not-away.true)

pub loop-job-preserved-then-not-away : goal.loop-job-preserved-then-not-away
loop-job-preserved-then-not-away c before held =
    let s = c.in-Some.ensures.steps in
    rw length_push
    (here_more _ _ _ c.requires.1 before held _ _ _ _ (c.loop-job.invariant before held) _ _ _ _ s.0 s.1 true (ap not c.if-not-away.true) _ c.push.ensures)

pub loop-job-preserved : goal.loop-job-preserved
loop-job-preserved c before held =
    let s = c.in-Some.ensures.steps in
    rw length_push
    (here_more _ _ _ c.requires.1 before held _ _ _ _ (c.loop-job.invariant before held) _ _ _ _ s.0 s.1 false (ap not c.if-not-away.false) _ refl)

pub returns : goal.returns
returns c before room held =
    let long : length c.args.jobs.now ≤ length c.args.flags.now = omega arith in
    here_end _ _ _ room before held long _ _ _ _ (c.loop-job.invariant before held)
    (elim c.in-None.ensures.steps [ inl r ↦ inl r.1.0 | inr r ↦ inr r.1.0 ])
