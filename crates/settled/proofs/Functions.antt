-- For every public function of every crate but `input`, whose answer is the reader's: two outcomes that its contract allows coincide. The contract is the
-- function's own, not a copy: an `ensures` that came to allow two would fail here. i are the inputs, r and s two answers, m and n what is left in lent
-- memory with each, p and q that the contract allows the one and the other. Assumes nothing.
use mathlib.Core.Path.{refl, sym, ap, ◌∙◌}
use mathlib.Core.List.{reverse}
use Prim.Native.Nat.{suc}
use Rattle.model.specs.Recurrence.{best_below}
use Rattle.model.proofs as model
use Rattle.model.specs.contracts as model_contracts
use Rattle.records.proofs as records
use Rattle.records.specs.contracts as records_contracts
use Rattle.table.proofs as table
use Rattle.table.specs.contracts as table_contracts
use Rattle.records.specs.Limits.{largest_time}
use Rattle.octets.proofs as octets
use Rattle.octets.specs.contracts as octets_contracts
use Rattle.lookup.proofs as lookup
use Rattle.lookup.specs.contracts as lookup_contracts
use Rattle.lines.proofs as lines
use Rattle.lines.specs.contracts as lines_contracts
use Rattle.plan.proofs as plan
use Rattle.plan.specs.contracts as plan_contracts
use Rattle.order.proofs as order
use Rattle.order.specs.contracts as order_contracts
use Rattle.rows.proofs as rows
use Rattle.rows.specs.contracts as rows_contracts
use Rattle.choice.proofs as choice
use Rattle.choice.specs.contracts as choice_contracts
use Rattle.draft.proofs as draft
use Rattle.draft.specs.contracts as draft_contracts
use Rattle.given.proofs as given
use Rattle.given.specs.contracts as given_contracts
use Rattle.free.proofs as free
use Rattle.free.specs.contracts as free_contracts
use Rattle.planner.proofs as planner
use Rattle.planner.specs.contracts as planner_contracts
use Rattle.judge.proofs as judge
use Rattle.judge.specs.contracts as judge_contracts
use Rattle.frame_record.proofs as frame_record
use Rattle.frame_record.specs.contracts as frame_record_contracts
use Rattle.frame_begin.proofs as frame_begin
use Rattle.frame_begin.specs.contracts as frame_begin_contracts
use Rattle.frame_reports.proofs as frame_reports
use Rattle.frame_reports.specs.contracts as frame_reports_contracts
use Rattle.frame_calls.proofs as frame_calls
use Rattle.frame_calls.specs.contracts as frame_calls_contracts
use Rattle.listing.proofs as listing
use Rattle.listing.specs.contracts as listing_contracts
use Rattle.frame_log.proofs as frame_log
use Rattle.frame_log.specs.contracts as frame_log_contracts
use Rattle.replaying.proofs as replaying
use Rattle.replaying.specs.contracts as replaying_contracts
use Rattle.panel.proofs as panel
use Rattle.panel.specs.contracts as panel_contracts
use Rattle.frame_lent.specs.contracts as frame_lent_contracts
use Rattle.panel.specs.Numbers.{planned_numbers, least_numbers}
use Rattle.frame_record.specs.declared.Called.{Called}
use Rattle.settled.specs.Settled.{Settles, SettlesAsked, SettlesPart, SettlesOnly}
use Rattle.std.specs.declared.io.Print
use Rattle.planner.specs.declared.orders.Order
use Rattle.records.specs.declared.kind.Allowed
use Rattle.planner.specs.Answers.{Possible, FreePlan, GivenPlan}
use Rattle.planner.specs.Orders.{Finds, free_of, given_of, free_finds, given_finds}
use Rattle.model.specs.Timetable.{Timetable}
use Rattle.model.specs.GivenOrder.{InOrder}
use Rattle.std.specs.declared.io.Write
use denote.RattleType.{RattleType}
use denote.Param.Laws.{Laws}
use mir.Syntax.{Dict}
use Rattle.frame_promises.specs.Lent.{BeginIn, CallIn}

-- ---- model

pub may_go : Settles model_contracts.Job.may_go.ended model.Job.may_go.Reads.Learnt
may_go κs i r s m n p q = (p ∙ sym q, refl)

pub setup_time : Settles model_contracts.Job.setup_time.ended model.Job.setup_time.Reads.Learnt
setup_time κs i r s m n p q = (p ∙ sym q, refl)

pub return_time : Settles model_contracts.Job.return_time.ended model.Job.return_time.Reads.Learnt
return_time κs i r s m n p q = (p ∙ sym q, refl)

pub span_of : Settles model_contracts.span_of.ended model.span_of.Reads.Learnt
span_of κs i r s m n p q = (p.0 ∙ sym q.0, refl)

pub wait_of : Settles model_contracts.wait_of.ended model.wait_of.Reads.Learnt
wait_of κs i r s m n p q = (p.0 ∙ sym q.0, refl)

pub laid_with : Settles model_contracts.Laid.with.ended model.Laid.with.Reads.Learnt
laid_with κs i r s m n p q = (p ∙ sym q, refl)

-- ---- table

pub table_empty : Settles table_contracts.Table.empty.ended table.Table.empty.Reads.Learnt
table_empty κs i r s m n p q = (p ∙ sym q, refl)

pub most_jobs_lem : Settles table_contracts.Table.most_jobs.ended table.Table.most_jobs.Reads.Learnt
most_jobs_lem κs i r s m n p q = (p ∙ sym q, refl)

pub largest_time_lem : Settles table_contracts.Table.largest_time.ended table.Table.largest_time.Reads.Learnt
largest_time_lem κs i r s m n p q = (p ∙ sym q, refl)

pub longest_table : Settles table_contracts.Table.longest_table.ended table.Table.longest_table.Reads.Learnt
longest_table κs i r s m n p q = (p ∙ sym q, refl)

pub longest_plan : Settles table_contracts.Table.longest_plan.ended table.Table.longest_plan.Reads.Learnt
longest_plan κs i r s m n p q = (p ∙ sym q, refl)

pub form_of_lem : Settles records_contracts.kind.form_of.ended records.kind.form_of.Reads.Learnt
form_of_lem κs i r s m n p q = (p ∙ sym q, refl)

pub place_start : Settles records_contracts.refusal.Place.start.ended records.refusal.Place.start.Reads.Learnt
place_start κs i r s m n p q = (p ∙ sym q, refl)

pub place_past : Settles records_contracts.refusal.Place.past.ended records.refusal.Place.past.Reads.Learnt
place_past κs i r s m n p q = (p ∙ sym q, refl)

-- of whatever kinds may stand there
module _ (T : RattleType) (L : Laws T) (P : Allowed.Ghosts T.Denot) (d e : Dict) where
  pub opened : Settles (records_contracts.record.opened.ended T P d e) (records.record.opened.Reads.Learnt T L P d e)
  opened κs i r s m n p q = (p ∙ sym q, refl)

pub frame_kind_of : Settles records_contracts.kind.FrameKindAllowed.of.ended records.kind.FrameKindAllowed.of.Reads.Learnt
frame_kind_of κs i r s m n p q = (p ∙ sym q, refl)

pub row_kind_of : Settles records_contracts.kind.RowKindAllowed.of.ended records.kind.RowKindAllowed.of.Reads.Learnt
row_kind_of κs i r s m n p q = (p ∙ sym q, refl)

pub step_kind_of : Settles records_contracts.kind.StepKindAllowed.of.ended records.kind.StepKindAllowed.of.Reads.Learnt
step_kind_of κs i r s m n p q = (p ∙ sym q, refl)

pub ended_at : Settles records_contracts.record.ended_at.ended records.record.ended_at.Reads.Learnt
ended_at κs i r s m n p q = (p ∙ sym q, refl)

pub numbers_of : Settles records_contracts.refusal.numbers_of.ended records.refusal.numbers_of.Reads.Learnt
numbers_of κs i r s m n p q = (p ∙ sym q, refl)

pub read_table : Settles table_contracts.read_table.ended table.read_table.Reads.Learnt
read_table κs i r s m n p q = (p ∙ sym q, refl)

-- ---- bytes, lines

pub put : Settles octets_contracts.put.ended octets.put.Reads.Learnt
put κs i r s m n p q = (p.place ∙ sym q.place, λ k. ((p.area ∙ sym q.area) k, m.1))

pub put_number : Settles octets_contracts.put_number.ended octets.put_number.Reads.Learnt
put_number κs i r s m n p q = (p.place ∙ sym q.place, λ k. ((p.area ∙ sym q.area) k, m.1))

pub put_two : Settles octets_contracts.put_two.ended octets.put_two.Reads.Learnt
put_two κs i r s m n p q = (p.place ∙ sym q.place, λ k. ((p.area ∙ sym q.area) k, m.1))

pub put_four : Settles octets_contracts.put_four.ended octets.put_four.Reads.Learnt
put_four κs i r s m n p q = (p.place ∙ sym q.place, λ k. ((p.area ∙ sym q.area) k, m.1))

pub put_hex : Settles octets_contracts.put_hex.ended octets.put_hex.Reads.Learnt
put_hex κs i r s m n p q = (p.place ∙ sym q.place, λ k. ((p.area ∙ sym q.area) k, m.1))

pub two_at : Settles octets_contracts.two_at.ended octets.two_at.Reads.Learnt
two_at κs i r s m n p q = (p ∙ sym q, refl)

pub four_at_lem : Settles octets_contracts.four_at.ended octets.four_at.Reads.Learnt
four_at_lem κs i r s m n p q = (p ∙ sym q, refl)

pub put_field : Settles lines_contracts.put_field.ended lines.put_field.Reads.Learnt
put_field κs i r s m n p q = (p.place ∙ sym q.place, λ k. ((p.area ∙ sym q.area) k, m.1))

pub put_pair : Settles lines_contracts.put_pair.ended lines.put_pair.Reads.Learnt
put_pair κs i r s m n p q = (p.place ∙ sym q.place, λ k. ((p.area ∙ sym q.area) k, m.1))

pub put_refused : Settles lines_contracts.put_refused.ended lines.put_refused.Reads.Learnt
put_refused κs i r s m n p q = (p.place ∙ sym q.place, λ k. ((p.area ∙ sym q.area) k, m.1))

-- ---- lookup

pub index_of : Settles lookup_contracts.index_of.ended lookup.index_of.Reads.Learnt
index_of κs i r s m n p q = (lookup.Lookup.indexes_one _ r s p q, refl)

-- ---- plan

pub plan_empty : Settles plan_contracts.Plan.empty.ended plan.Plan.empty.Reads.Learnt
plan_empty κs i r s m n p q = (p ∙ sym q, refl)

pub plan_push : Settles plan_contracts.Plan.push.ended plan.Plan.push.Reads.Learnt
plan_push κs i r s m n p q = (refl, λ k. ((p ∙ sym q) k, m.1))

pub read_plan_lem : Settles plan_contracts.read_plan.ended plan.read_plan.Reads.Learnt
read_plan_lem κs i r s m n p q = (p ∙ sym q, refl)

pub step_at_lem : Settles plan_contracts.step_at.ended plan.step_at.Reads.Learnt
step_at_lem κs i r s m n p q = (p ∙ sym q, refl)

pub write_plan : Settles plan_contracts.write_plan.ended plan.write_plan.Reads.Learnt
write_plan κs i r s m n p q = (p.0 ∙ sym q.0, λ k. ((p.1 ∙ sym q.1) k, m.1))

-- ---- order, rows, choice

pub away_order : Settles order_contracts.away_order.ended order.away_order.Reads.Learnt
away_order κs i r s m n p q = (p ∙ sym q, refl)

-- of a lent part what it holds is settled
pub as_slice : SettlesPart order_contracts.AwayOrder.as_slice.ended (λ κs r. r.now) order.AwayOrder.as_slice.Reads.Learnt
as_slice κs i r s m n p q = (p ∙ sym q, refl)

pub least : Settles rows_contracts.least.ended rows.least.Reads.Learnt
least κs i r s m n p q = (rows.Bests.least_settled (best_below i.0 (reverse i.1.1.0.now) i.1.0 (suc i.0)) r s p q, refl)

pub away_jobs : SettlesPart choice_contracts.Prepared.away_jobs.ended (λ κs r. r.now) choice.Prepared.away_jobs.Reads.Learnt
away_jobs κs i r s m n p q = (p ∙ sym q, refl)

pub prepare : Settles choice_contracts.prepare.ended choice.prepare.Reads.Learnt
prepare κs i r s m n p q = (p ∙ sym q, refl)

pub best_choice : SettlesAsked choice_contracts.best_choice.ended choice.best_choice.Reads.Pre choice.best_choice.Reads.Learnt
best_choice κs i pre r s m n p q = (p pre.1.js pre.1.held ∙ sym (q pre.1.js pre.1.held), refl)

pub flags_of : SettlesAsked choice_contracts.flags_of.ended choice.flags_of.Reads.Pre choice.flags_of.Reads.Learnt
flags_of κs i pre r s m n p q = (p pre.js pre.held ∙ sym (q pre.js pre.held), refl)

pub earliest : SettlesAsked choice_contracts.earliest.ended choice.earliest.Reads.Pre choice.earliest.Reads.Learnt
earliest κs i pre r s m n p q = (choice.Answers.earliest_settled largest_time pre.js r s (p pre.js pre.held) (q pre.js pre.held), refl)

-- ---- draft, given, free

pub draft_empty : Settles draft_contracts.Draft.empty.ended draft.Draft.empty.Reads.Learnt
draft_empty κs i r s m n p q = (p ∙ sym q, refl)

pub draft_push : Settles draft_contracts.Draft.push.ended draft.Draft.push.Reads.Learnt
draft_push κs i r s m n p q = (refl, λ k. ((p ∙ sym q) k, m.1))

pub given_plan : Settles given_contracts.given_plan.ended given.given_plan.Reads.Learnt
given_plan κs i r s m n p q = (p ∙ sym q, refl)

pub free_plan : Settles free_contracts.free_plan.ended free.free_plan.Reads.Learnt
free_plan κs i r s m n p q = (p ∙ sym q, refl)

-- ---- planner

-- in whatever order: its laws say that its plan is one, and that where there is a plan some timetable of its kind is on time
module _ (T : RattleType) (L : Laws T) (P : Order.Ghosts T.Denot) (d : Dict) (finds : Finds P.can_meet P.is_plan P.found) where
  pub plan_read : Settles (planner_contracts.plan_read.ended T P d) (planner.plan_read.Reads.Learnt T L P d)
  plan_read κs i r s m n p q =
      let same = planner.Settled.planner_settled _ _ r m.1.0 s n.1.0 P.can_meet P.is_plan finds.possible finds.unique p q in
      (same.0, λ k. (tt, (same.1 k, tt)))

-- so in both orders
module _ (T : RattleType) (L : Laws T) (d : Dict) where
  abbrev free_order : Order.Ghosts T.Denot
  free_order = record { can_meet = Possible Timetable; is_plan = FreePlan; found = free_of }

  abbrev given_order : Order.Ghosts T.Denot
  given_order = record { can_meet = Possible InOrder; is_plan = GivenPlan; found = given_of }

  pub plan_read_free : Settles (planner_contracts.plan_read.ended T free_order d) (planner.plan_read.Reads.Learnt T L free_order d)
  plan_read_free = plan_read T L free_order d free_finds

  pub plan_read_given : Settles (planner_contracts.plan_read.ended T given_order d) (planner.plan_read.Reads.Learnt T L given_order d)
  plan_read_given = plan_read T L given_order d given_finds

pub free_order_plan : Settles planner_contracts.orders.FreeOrderOrder.plan.ended planner.orders.FreeOrderOrder.plan.Reads.Learnt
free_order_plan κs i r s m n p q = (p ∙ sym q, refl)

pub given_order_plan : Settles planner_contracts.orders.GivenOrderOrder.plan.ended planner.orders.GivenOrderOrder.plan.Reads.Learnt
given_order_plan κs i r s m n p q = (p ∙ sym q, refl)

pub least_deadline_read : Settles planner_contracts.least_deadline_read.ended planner.least_deadline_read.Reads.Learnt
least_deadline_read κs i r s m n p q = (planner.Settled.least_settled _ r s p q, refl)

pub plan_free : Settles planner_contracts.plan_free.ended planner.plan_free.Reads.Learnt
plan_free κs i r s m n p q = let same = planner.Settled.free_settled _ _ r m.1.0 s n.1.0 p q in (same.0, λ k. (tt, (same.1 k, tt)))

pub plan_given : Settles planner_contracts.plan_given.ended planner.plan_given.Reads.Learnt
plan_given κs i r s m n p q = let same = planner.Settled.given_settled _ _ r m.1.0 s n.1.0 p q in (same.0, λ k. (tt, (same.1 k, tt)))

pub least_deadline : Settles planner_contracts.least_deadline.ended planner.least_deadline.Reads.Learnt
least_deadline κs i r s m n p q = (planner.Settled.least_settled _ r s p q, refl)

-- ---- judge

pub check_read : Settles judge_contracts.check_read.ended judge.check_read.Reads.Learnt
check_read κs i r s m n p q = (p ∙ sym q, refl)

pub check_plan : Settles judge_contracts.check_plan.ended judge.check_plan.Reads.Learnt
check_plan κs i r s m n p q = (p ∙ sym q, refl)

-- ---- the frame runner

pub finite : Settles frame_record_contracts.finite.ended frame_record.finite.Reads.Learnt
finite κs i r s m n p q = (p ∙ sym q, refl)

pub frame_idle : Settles frame_record_contracts.Frame.idle.ended frame_record.Frame.idle.Reads.Learnt
frame_idle κs i r s m n p q = (p ∙ sym q, refl)

pub sound : Settles frame_record_contracts.Frame.sound.ended frame_record.Frame.sound.Reads.Learnt
sound κs i r s m n p q = (p ∙ sym q, refl)

pub is_open : Settles frame_record_contracts.Frame.is_open.ended frame_record.Frame.is_open.Reads.Learnt
is_open κs i r s m n p q = (p ∙ sym q, refl)

pub has_begun : Settles frame_record_contracts.Frame.has_begun.ended frame_record.Frame.has_begun.Reads.Learnt
has_begun κs i r s m n p q = (p ∙ sym q, refl)

pub is_ready : Settles frame_record_contracts.Frame.is_ready.ended frame_record.Frame.is_ready.Reads.Learnt
is_ready κs i r s m n p q = (p ∙ sym q, refl)

pub answered : Settles frame_record_contracts.Frame.answered.ended frame_record.Frame.answered.Reads.Learnt
answered κs i r s m n p q = (p ∙ sym q, refl)

pub position_of : Settles frame_record_contracts.Frame.position_of.ended frame_record.Frame.position_of.Reads.Learnt
position_of κs i r s m n p q = (p ∙ sym q, refl)

pub begin : Settles frame_begin_contracts.begin.ended frame_begin.begin.Reads.Learnt
begin κs i r s m n p q = (p ∙ sym q, refl)

pub panel_job : Settles frame_calls_contracts.panel_job.ended frame_calls.panel_job.Reads.Learnt
panel_job κs i r s m n p q = (p ∙ sym q, refl)

pub span_end : Settles frame_reports_contracts.span_end.ended frame_reports.span_end.Reads.Learnt
span_end κs i r s m n p q = (p ∙ sym q, refl)

pub give_back : Settles frame_reports_contracts.give_back.ended frame_reports.give_back.Reads.Learnt
give_back κs i r s m n p q = (p ∙ sym q, refl)

pub close : Settles frame_calls_contracts.close.ended frame_calls.close.Reads.Learnt
close κs i r s m n p q = (p ∙ sym q, refl)

pub read : Settles frame_calls_contracts.read.ended frame_calls.read.Reads.Learnt
read κs i r s m n p q = (p ∙ sym q, refl)

pub step : Settles frame_calls_contracts.step.ended frame_calls.step.Reads.Learnt
step κs i r s m n p q = (p ∙ sym q, refl)

pub begin_in : Settles frame_lent_contracts.begin_in.ended BeginIn
begin_in κs i r s m n p q = let same = p ∙ sym q in (ap (λ (x : Called). x.answer) same, λ k. ((same k).frame, m.1))

pub call_in : Settles frame_lent_contracts.call_in.ended CallIn
call_in κs i r s m n p q = let same = p ∙ sym q in (ap (λ (x : Called). x.answer) same, λ k. ((same k).frame, m.1))

-- ---- listing, log, replaying

pub list_plan : Settles listing_contracts.list_plan.ended listing.list_plan.Reads.Learnt
list_plan κs i r s m n p q = let same = listing.Texts.lists_settled _ _ r s m.1.0 n.1.0 p q in (same.0, λ k. (tt, (same.1 k, tt)))

pub log_record_at : Settles frame_log_contracts.record_at.ended frame_log.record_at.Reads.Learnt
log_record_at κs i r s m n p q = (p ∙ sym q, refl)

pub log_called : Settles frame_log_contracts.called.ended frame_log.called.Reads.Learnt
log_called κs i r s m n p q = (p ∙ sym q, refl)

-- whatever it prints to: the frame's record, as whether the lines could be written is not its own
module _ (T : RattleType) (L : Laws T) (P : Print.Ghosts T.Denot) (d : Dict) where
  pub replay : SettlesPart (replaying_contracts.replay.ended T P d) (λ κs r. r.frame) (replaying.replay.Reads.Learnt T L P d)
  replay κs i r s m n p q = (p ∙ sym q, refl)

-- whatever it is handed to: the frame's record
module _ (T : RattleType) (L : Laws T) (P : Write.Ghosts T.Denot) (d : Dict) where
  pub replay_to : SettlesOnly (replaying_contracts.replay_to.ended T P d) (λ κs r. r.frame) (replaying.replay_to.Reads.Learnt T L P d)
  replay_to κs i r s m n p q = p.0 ∙ sym q.0

-- ---- panel

pub planned_from : Settles panel_contracts.PlannedNumbersFromResultWrittenRefusal.from.ended panel.PlannedNumbersFromResultWrittenRefusal.from.Reads.Learnt
planned_from κs i r s m n p q = (p ∙ sym q, refl)

pub least_from : Settles panel_contracts.LeastNumbersFromResultU16Refusal.from.ended panel.LeastNumbersFromResultU16Refusal.from.Reads.Learnt
least_from κs i r s m n p q = (p ∙ sym q, refl)

pub checked_from : Settles panel_contracts.CheckedNumbersFromResultPassedRefusal.from.ended panel.CheckedNumbersFromResultPassedRefusal.from.Reads.Learnt
checked_from κs i r s m n p q = (p ∙ sym q, refl)

pub zb_plan_free : Settles panel_contracts.zb_plan_free.ended panel.zb_plan_free.Reads.Learnt
zb_plan_free κs i r s m n p q =
    let same = planner.Settled.free_settled _ _ p.0 m.1.0 q.0 n.1.0 p.1 q.1 in
    (p.2 ∙ (ap planned_numbers same.0 ∙ sym q.2), λ k. (tt, (same.1 k, tt)))

pub zb_plan_given : Settles panel_contracts.zb_plan_given.ended panel.zb_plan_given.Reads.Learnt
zb_plan_given κs i r s m n p q =
    let same = planner.Settled.given_settled _ _ p.0 m.1.0 q.0 n.1.0 p.1 q.1 in
    (p.2 ∙ (ap planned_numbers same.0 ∙ sym q.2), λ k. (tt, (same.1 k, tt)))

pub zb_least_deadline : Settles panel_contracts.zb_least_deadline.ended panel.zb_least_deadline.Reads.Learnt
zb_least_deadline κs i r s m n p q = (p.2 ∙ (ap least_numbers (planner.Settled.least_settled _ p.0 q.0 p.1 q.1) ∙ sym q.2), refl)

pub zb_check_plan : Settles panel_contracts.zb_check_plan.ended panel.zb_check_plan.Reads.Learnt
zb_check_plan κs i r s m n p q = (p ∙ sym q, refl)
