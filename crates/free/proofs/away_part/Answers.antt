-- `free::away_part` meets its contract; what its loop keeps stands in Invariants.antt. Assumes nothing.
use Rattle.std.proofs.Common.{rules, ◌≡◌, true, false, refl, inl, inr}
use Rattle.std.proofs.lemmas.List.{length_push}
use Rattle.choice.proofs.Held.{ready_few, held_positions, held_jobs}
use Rattle.free.proofs.Parts.{away_start, away_here, away_room, away_more, away_end}
use Rattle.free.proofs.away_part.Goals as goal

pub as_slice-requires : goal.as_slice-requires
as_slice-requires c = ready_few _ c.requires

pub away_jobs-requires : goal.away_jobs-requires
away_jobs-requires c = ready_few _ c.requires

pub loop-position-init : goal.loop-position-init
loop-position-init c js held sound =
    let at : c.into_iter-position-iterator.result.a.rest.now ≡ c.as_slice.result.now = search rules in
    let jobs : c.into_iter-position-iterator.result.b.rest.now ≡ c.away_jobs.result.now = search rules in
    rw (at, jobs, c.as_slice.ensures, c.away_jobs.ensures, held_positions _ js held, held_jobs _ js held)
    (away_start js sound c.args.flags.now _ c.empty-draft.ensures)

pub bounds-flags-position : goal.bounds-flags-position
bounds-flags-position c =
    let r = c.requires in
    let s = c.in-Some.ensures.steps in
    away_here r.js r.sound c.args.flags.now _ _ _ _ (c.loop-position.invariant r.js r.held r.sound) _ _ _ _ s.0 s.1

pub push-requires : goal.push-requires
push-requires c =
    let r = c.requires in
    let s = c.in-Some.ensures.steps in
    away_room r.js r.sound c.args.flags.now _ _ _ _ (c.loop-position.invariant r.js r.held r.sound) _ _ _ _ s.0 s.1 c.if-flags-position.true

pub loop-position-preserved-then-flags-position : goal.loop-position-preserved-then-flags-position
loop-position-preserved-then-flags-position c js held sound =
    let s = c.in-Some.ensures.steps in
    rw length_push
    (away_more js sound c.args.flags.now _ _ _ _ (c.loop-position.invariant js held sound) _ _ _ _ s.0 s.1 true c.if-flags-position.true _ c.push.ensures)

pub loop-position-preserved : goal.loop-position-preserved
loop-position-preserved c js held sound =
    let s = c.in-Some.ensures.steps in
    rw length_push
    (away_more js sound c.args.flags.now _ _ _ _ (c.loop-position.invariant js held sound) _ _ _ _ s.0 s.1 false c.if-flags-position.false _ refl)

pub returns : goal.returns
returns c js held sound =
    away_end js sound c.args.flags.now _ _ _ _ (c.loop-position.invariant js held sound)
    (elim c.in-None.ensures.steps [ inl r ↦ inl r.1.0 | inr r ↦ inr r.1.0 ])
