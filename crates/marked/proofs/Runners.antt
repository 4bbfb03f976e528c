-- No runner that meets its contract handles the first event and then only nods, or keeps the last frame's value until a new one comes.
-- Both are shown by Table E with its plan. Assumes nothing.
use Rattle.std.specs.Prelude.{Result, Ok}
use mathlib.Core.Path.{◌≡◌, refl, sym, ap, ◌∙◌}
use mathlib.Core.Bool.{true, false}
use mathlib.Core.List.{List, [], ◌∷◌}
use Prim.Native.Nat.{ℕ}
use Rattle.model.proofs.Lists.{clash}
use Rattle.records.specs.Records.{form_of, judged, used, list_from}
use Rattle.table.specs.Tables.{frame_at, job_at, jobs_read, read_table}
use Rattle.lookup.specs.Lookup.{with_key}
use Rattle.plan.specs.Plans.{read_plan, record_at}
use Rattle.judge.specs.Check.{listed, lacks_one}
use Rattle.records.specs.declared.refusal.Refusal.{Refusal}
use Rattle.frame_record.specs.declared.Frame.{Frame}
use Rattle.frame_record.specs.declared.Sample.{Sample}
use Rattle.frame_record.specs.declared.Reading.TheVariants.{Fresh, Pending}
use Rattle.frame_record.specs.declared.Answer.{Answer}
use Rattle.frame_record.specs.declared.Answer.TheVariants.{Done, Panel, Read}
use Rattle.frame_record.specs.declared.Event.{Event}
use Rattle.frame_record.specs.declared.Event.TheVariants as E
use Rattle.lookup.specs.Lookup.{first}
use Rattle.frame_record.specs.Sound.{sound?, open?, begun?, ready?, ok_begun, ok_from, ok_at, ok_order, ok_id}
use Rattle.frame_record.specs.Sound.{where_is}
use Rattle.frame_record.specs.Answers.{idle}
use Rattle.frame_reports.specs.Reports.{span_step, back_step}
use Rattle.frame_calls.specs.Calls.{event_step, close_step, next_of, read_of}
use Rattle.frame_begin.specs.Begin.{begin_step, begun, entries_of, positions_of, away_in, filled}
use Rattle.marked.specs.Marked as marked
use Rattle.marked.specs.Marked.{plan_e, one}
use Rattle.frame_promises.specs.Call.{begin, event}
use Rattle.frame_promises.specs.Runs.{Allows}
use Rattle.marked.specs.Versions.{Runner, runs, OnlyNods, KeepsValues}

-- the contracts of begin and of every other call
pub record Meets (r : Runner) : Type 0 where
  pub begins : (f : Frame) (s p : List ℕ) (n : ℕ) → Allows f (begin s p n) (r.begin f s p n)
  pub steps : (f : Frame) (e : Event) → Allows f (event e) (r.step f e)

-- the runner that the definitions are
abbrev rules : Runner
rules = record { begin = begin_step; step = event_step }

-- frame 1 of E: begun; after the first event; after all of them, the last a return of job 1 at 45; closed; and frame 2 begun
abbrev opened : Frame
opened = (begin_step idle marked.E plan_e 1).frame

abbrev span_one : Event
span_one = E.SpanEnd 1 5 one

abbrev later : List Event
later = E.SpanEnd 2 15 one ∷ E.Return 1 2 25 one ∷ E.SpanEnd 3 40 one ∷ E.Return 1 1 45 one ∷ []

abbrev own : Sample
own = record { value = one; frame = 1 }

abbrev handled : Frame
handled = (event_step opened span_one).frame

abbrev closed : Frame
closed = (event_step (runs rules handled later) (E.Close 45)).frame

unfoldable reads : Frame → ℕ → Result Answer Refusal
reads f id = (event_step f (E.Read id)).answer

pending_first : reads handled 1 ≡ Ok (Read Pending)
unfolding reads marked.E read_table frame_at jobs_read job_at judged form_of list_from used read_plan record_at with_key listed lacks_one begin_step begun
    entries_of positions_of away_in filled first sound? open? begun? ready? ok_begun ok_from ok_at ok_order ok_id span_step read_of where_is
pending_first = refl

fresh_later : reads (runs rules handled later) 1 ≡ Ok (Read (Fresh own))
unfolding reads marked.E read_table frame_at jobs_read job_at judged form_of list_from used read_plan record_at with_key listed lacks_one begin_step begun
    entries_of positions_of away_in filled first sound? open? begun? ready? ok_begun ok_from ok_at ok_order ok_id span_step back_step read_of where_is
fresh_later = refl

fresh_closed : reads closed 1 ≡ Ok (Read (Fresh own))
unfolding reads marked.E read_table frame_at jobs_read job_at judged form_of list_from used read_plan record_at with_key listed lacks_one begin_step begun
    entries_of positions_of away_in filled first sound? open? begun? ready? ok_begun ok_from ok_at ok_order ok_id span_step back_step close_step read_of
    where_is
fresh_closed = refl

begun_next : (begin_step closed marked.E plan_e 2).answer ≡ Ok Done
unfolding marked.E read_table frame_at jobs_read job_at judged form_of list_from used read_plan record_at with_key listed lacks_one begin_step begun
    entries_of positions_of away_in filled first sound? open? begun? ready? ok_begun ok_from ok_at ok_order ok_id span_step back_step close_step read_of
    where_is
begun_next = refl

pending_next : reads (begin_step closed marked.E plan_e 2).frame 1 ≡ Ok (Read Pending)
unfolding reads marked.E read_table frame_at jobs_read job_at judged form_of list_from used read_plan record_at with_key listed lacks_one begin_step begun
    entries_of positions_of away_in filled first sound? open? begun? ready? ok_begun ok_from ok_at ok_order ok_id span_step back_step close_step read_of
    where_is
pending_next = refl

panel_first : (event_step opened E.Next).answer ≡ Ok (Panel 1 true)
unfolding marked.E read_table frame_at jobs_read job_at judged form_of list_from used read_plan record_at with_key listed lacks_one begin_step begun
    entries_of positions_of away_in filled first sound? open? ready? ok_begun ok_from ok_at ok_order ok_id next_of
panel_first = refl

not_both : (x : Sample) → ◌≡◌ {A = Result Answer Refusal} (Ok (Read (Fresh x))) (Ok (Read Pending)) → ⊥
not_both x e = clash (cc)

module _ (r : Runner) (meets : Meets r) where
  same_runs : (f : Frame) (es : List Event) → runs r f es ≡ runs rules f es
  same_runs f [] = refl
  same_runs f (e ∷ es) = rw (meets.steps f e) (same_runs (event_step f e).frame es)

  same_handled : (r.step (r.begin idle marked.E plan_e 1).frame span_one).frame ≡ handled
  same_handled = rw (meets.begins idle marked.E plan_e 1) (ap (λ s. s.frame) (meets.steps opened span_one))

  -- at the start of E's frame the job on the panel is job 1, to be sent away: not the job after it, and not kept here
  pub not_another_job : ¬ ((r.step opened E.Next).answer ≡ Ok (Panel 2 true)) × ¬ ((r.step opened E.Next).answer ≡ Ok (Panel 1 false))
  not_another_job =
      let first : (r.step opened E.Next).answer ≡ Ok (Panel 1 true) = rw (meets.steps opened E.Next) panel_first in
      ((λ e. clash (cc (sym first ∙ e))), (λ e. clash (cc (sym first ∙ e))))

  pub not_only_nods : ¬ (OnlyNods r)
  not_only_nods n =
      let stays : runs rules handled later ≡ handled = sym (same_runs handled later) ∙ (rw same_handled at (n marked.E plan_e 1 span_one later)) in
      not_both own (sym fresh_later ∙ (ap (λ (f : Frame). reads f 1) stays ∙ pending_first))

  pub not_keeps_values : ¬ (KeepsValues r)
  unfolding reads
  not_keeps_values k =
      let fresh : (r.step closed (E.Read 1)).answer ≡ Ok (Read (Fresh own)) = rw (meets.steps closed (E.Read 1)) fresh_closed in
      let done : (r.begin closed marked.E plan_e 2).answer ≡ Ok Done = rw (meets.begins closed marked.E plan_e 2) begun_next in
      let kept = k closed 1 own fresh marked.E plan_e 2 done in
      let here : reads (begin_step closed marked.E plan_e 2).frame 1 ≡ Ok (Read (Fresh own)) =
      rw (meets.begins closed marked.E plan_e 2, meets.steps (begin_step closed marked.E plan_e 2).frame (E.Read 1)) at kept in
      not_both own (sym here ∙ pending_next)
