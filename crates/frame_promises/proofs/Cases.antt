-- One principle for the runner's calls: what holds where a call is refused, where it only asks, where a span has ended, where a job came back,
-- where the frame was closed and where one was begun, each with what is known there, holds of every call. Assumes nothing.
use Rattle.std.specs.Prelude.{Option, None, Some, Result, Err, Ok}
use Prim.Native.Nat.{ℕ, ◌+◌, ◌<◌}
use native.Mathlib.Omega.{arith}
use mathlib.Core.Path.{◌≡◌, refl}
use mathlib.Core.Bool.{Bool, true, false}
use mathlib.Core.List.{List}
use borrow.Author.Tests.{ltb-true}
use lib.Dec.{ltb, eqb}
use lib.Ieee.{Float}
use Rattle.records.specs.declared.refusal.Refusal.{Refusal}
use Rattle.records.specs.declared.refusal.Refusal.TheVariants as R
use Rattle.records.specs.Refusals as outcome
use Rattle.records.specs.Refusals.{Outcome, accepted}
use Rattle.table.specs.Tables.{JobTable, read_table}
use Rattle.table.proofs.Accepted.{accepted_good}
use Rattle.plan.specs.declared.Step as plan
use Rattle.plan.specs.Plans.{read_plan}
use Rattle.judge.specs.Check.{Checked, pass}
use Rattle.judge.specs.Check.{after_plan}
use Rattle.frame_record.specs.Finite.{finite?}
use Rattle.frame_record.specs.Sound.{none, entry_at, entry_id, open?, ready?}
use Rattle.frame_record.specs.Answers.{refused, done}
use Rattle.frame_record.specs.Sound.{where_is, panel_position, panel_entry}
use Rattle.frame_reports.specs.Reports.{judge, moved, on_panel, span_at, span_step, return_at, back_to}
use Rattle.frame_calls.specs.Calls.{asked}
use Rattle.frame_reports.specs.Reports.{back_step}
use Rattle.frame_calls.specs.Calls.{closed, close_step, next_of, read_of, event_step}
use Rattle.frame_begin.specs.Begin.{steps_in, begun, may_open, begin_checked, begin_read, begin_step}
use Rattle.frame_promises.specs.Call.{Call, begin, event, called_of}
use Rattle.frame_record.specs.declared.Standing.{Standing}
use Rattle.frame_record.specs.declared.Standing.TheVariants.{Waiting, Out, Held, Late}
use Rattle.frame_record.specs.declared.Frame.{Frame}
use Rattle.frame_record.specs.declared.Answer.{Answer}
use Rattle.frame_record.specs.declared.Event.{Event}
use Rattle.frame_record.specs.declared.Event.TheVariants as E
use Rattle.frame_record.specs.declared.Called.{Called}
use Rattle.lookup.proofs.Lookup.{first_below}
use Rattle.model.proofs.Tests.{and_left, cond_all}
use Rattle.frame_begin.proofs.Passed.{PlanFits, passed}

module _ (f : Frame) (Q : Called → Type 0) where
  pub record Cases : Type 0 where
    pub refuses : (r : Refusal) → Q (refused r f)
    pub asks : (a : Result Answer Refusal) → Q (asked f a)
    -- the span of the job on the panel ends: it is out; it has its value, or is late
    pub goes_out :
        open? f ≡ true → f.next < f.count → (panel_entry f).away ≡ true →
        (t : ℕ) → Q (done (moved f (panel_position f) t (f.next + 1) Out))
    pub has_value :
        open? f ≡ true → f.next < f.count → (t : ℕ) (v : Float) → finite? v ≡ true →
        Q (done (moved f (panel_position f) t (f.next + 1) (judge v f.number t f.deadline)))
    pub comes_back :
        open? f ≡ true → (i : ℕ) → i < f.count → (entry_at f.entries i).standing ≡ Out → (t : ℕ) (v : Float) → finite? v ≡ true →
        Q (done (moved f i t f.next (judge v f.number t f.deadline)))
    pub closes : open? f ≡ true → (t : ℕ) → Q (done (closed f t))
    pub begins : (n : ℕ) (t : JobTable) (xs : List plan.Step) → PlanFits t xs → Q (done (begun n t xs))

  module _ (k : Cases) where
    span_at_lem : open? f ≡ true → f.next < f.count → (t : ℕ) (v : Float) (away : Bool) → (panel_entry f).away ≡ away → Q (span_at f t v away)
    span_at_lem o h t v true e = k.goes_out o h e t
    span_at_lem o h t v false e = cond_all Q (finite? v) (λ num. k.has_value o h t v num) (λ _. k.refuses R.Value)

    span_end : (id t : ℕ) (v : Float) → Q (span_step f id t v)
    unfolding span_step
    span_end id t v =
        cond_all Q (open? f)
        (λ o. cond_all Q (ltb t f.clock) (λ _. k.refuses R.Clock)
        (λ _. cond_all Q (on_panel f id) (λ on. span_at_lem o (ltb-true _ _ (and_left _ _ on)) t v (panel_entry f).away refl) (λ _. k.refuses R.Who)))
        (λ _. k.refuses R.Phase)

    back_at : open? f ≡ true → (i : ℕ) → i < f.count → (t : ℕ) (v : Float) (s : Standing) → (entry_at f.entries i).standing ≡ s → Q (return_at f i t v s)
    back_at o i h t v Waiting e = k.refuses R.Who
    back_at o i h t v Out e = cond_all Q (finite? v) (λ num. k.comes_back o i h e t v num) (λ _. k.refuses R.Value)
    back_at o i h t v (Held x) e = k.refuses R.Who
    back_at o i h t v Late e = k.refuses R.Who

    back_to_lem : open? f ≡ true → (id t : ℕ) (v : Float) (w : Option ℕ) → where_is f id ≡ w → Q (back_to f t v w)
    unfolding where_is
    back_to_lem o id t v (Some i) e =
        back_at o i (omega (arith, first_below entry_id none f.entries id 0 f.count i e)) t v (entry_at f.entries i).standing refl
    back_to_lem o id t v None e = k.refuses R.Who

    back : (n id t : ℕ) (v : Float) → Q (back_step f n id t v)
    unfolding back_step
    back n id t v =
        cond_all Q (open? f)
        (λ o. cond_all Q (eqb n f.number)
        (λ _. cond_all Q (ltb t f.clock) (λ _. k.refuses R.Clock) (λ _. back_to_lem o id t v (where_is f id) refl))
        (λ _. k.refuses R.Number))
        (λ _. k.refuses R.Phase)

    close : (t : ℕ) → Q (close_step f t)
    unfolding close_step
    close t =
        cond_all Q (open? f)
        (λ o. cond_all Q (ltb t f.clock) (λ _. k.refuses R.Clock)
        (λ _. cond_all Q (ltb t f.deadline) (λ _. k.refuses R.Early) (λ _. k.closes o t)))
        (λ _. k.refuses R.Phase)

    checked : (n : ℕ) (s : List ℕ) (t : JobTable) (c : Checked) →
        ((last busy : ℕ) → c ≡ pass last busy → PlanFits t (steps_in (read_plan s))) → Q (begin_checked f n (begun n t (steps_in (read_plan s))) c)
    checked n s t (Ok run) p =
        cond_all Q (may_open f n) (λ _. k.begins n t (steps_in (read_plan s)) (p run.last run.busy refl)) (λ _. k.refuses R.Number)
    checked n s t (Err r) p = k.refuses r

    begin_read_lem : (n : ℕ) (table s : List ℕ) (o : Outcome JobTable) → read_table table ≡ o → Q (begin_read f n s o)
    begin_read_lem n table s (accepted t) e = checked n s t (after_plan t (read_plan s)) (passed t (accepted_good table t e) s)
    begin_read_lem n table s (outcome.refused r) e = k.refuses r

    begins_with : (table s : List ℕ) (n : ℕ) → Q (begin_step f table s n)
    unfolding begin_step
    begins_with table s n = cond_all Q (ready? f) (λ _. begin_read_lem n table s (read_table table) refl) (λ _. k.refuses R.Phase)

    any_event : (e : Event) → Q (event_step f e)
    any_event E.Next = k.asks (next_of f)
    any_event (E.SpanEnd id t v) = span_end id t v
    any_event (E.Return n id t v) = back n id t v
    any_event (E.Close t) = close t
    any_event (E.Read id) = k.asks (read_of f id)

    pub every_call : (c : Call) → Q (called_of c f)
    every_call (begin table s n) = begins_with table s n
    every_call (event e) = any_event e
