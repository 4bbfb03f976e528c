-- "No public entry point has a `requires`", as a statement: every entry point that docs/FUNCTIONS.md lists may be called with all inputs (the C functions
-- as those of crate panel, whose clauses they have). A `requires` that asked something would fail here. Assumes nothing.
use Rattle.records.proofs as records
use Rattle.records.specs.contracts as records_contracts
use Rattle.table.proofs as table
use Rattle.table.specs.contracts as table_contracts
use Rattle.plan.proofs as plan
use Rattle.plan.specs.contracts as plan_contracts
use Rattle.planner.proofs as planner
use Rattle.planner.specs.contracts as planner_contracts
use Rattle.judge.proofs as judge
use Rattle.judge.specs.contracts as judge_contracts
use Rattle.frame_record.proofs as frame_record
use Rattle.frame_record.specs.contracts as frame_record_contracts
use Rattle.frame_begin.proofs as frame_begin
use Rattle.frame_begin.specs.contracts as frame_begin_contracts
use Rattle.frame_reports.proofs as frame_reports
use Rattle.frame_reports.specs.contracts as frame_reports_contracts
use Rattle.frame_calls.proofs as frame_calls
use Rattle.frame_calls.specs.contracts as frame_calls_contracts
use Rattle.frame_lent.proofs as frame_lent
use Rattle.frame_lent.specs.contracts as frame_lent_contracts
use Rattle.frame_log.proofs as frame_log
use Rattle.frame_log.specs.contracts as frame_log_contracts
use Rattle.listing.proofs as listing
use Rattle.listing.specs.contracts as listing_contracts
use Rattle.replaying.proofs as replaying
use Rattle.replaying.specs.contracts as replaying_contracts
use Rattle.panel.proofs as panel
use Rattle.panel.specs.contracts as panel_contracts
use Rattle.input.proofs as input
use Rattle.input.specs.contracts as input_contracts
use Rattle.records.specs.declared.kind.Allowed
use Rattle.std.specs.declared.io.Read
use Rattle.std.specs.declared.io.Write
use Rattle.settled.specs.Settled.{AsksNothing, AsksOnly}
use Prim.Native.Nat.{ℕ}
use mathlib.Core.List.{Mem}
use Rattle.std.specs.declared.io.Print
use denote.RattleType.{RattleType}
use denote.Param.Laws.{Laws}
use mir.Syntax.{Dict}

pub read_table : AsksNothing table_contracts.read_table.ended table.read_table.Reads.Pre
read_table κs i = tt

pub table_empty : AsksNothing table_contracts.Table.empty.ended table.Table.empty.Reads.Pre
table_empty κs i = tt

pub most_jobs_lem : AsksNothing table_contracts.Table.most_jobs.ended table.Table.most_jobs.Reads.Pre
most_jobs_lem κs i = tt

pub largest_time_lem : AsksNothing table_contracts.Table.largest_time.ended table.Table.largest_time.Reads.Pre
largest_time_lem κs i = tt

pub longest_table : AsksNothing table_contracts.Table.longest_table.ended table.Table.longest_table.Reads.Pre
longest_table κs i = tt

pub longest_plan : AsksNothing table_contracts.Table.longest_plan.ended table.Table.longest_plan.Reads.Pre
longest_plan κs i = tt

pub form_of_lem : AsksNothing records_contracts.kind.form_of.ended records.kind.form_of.Reads.Pre
form_of_lem κs i = tt

pub place_start : AsksNothing records_contracts.refusal.Place.start.ended records.refusal.Place.start.Reads.Pre
place_start κs i = tt

pub numbers_of : AsksNothing records_contracts.refusal.numbers_of.ended records.refusal.numbers_of.Reads.Pre
numbers_of κs i = tt

module _ (T : RattleType) (L : Laws T) (P : Allowed.Ghosts T.Denot) (d e : Dict) where
  -- whatever kinds may stand there, as long as the kind lives, which its type says
  pub opened :
      AsksOnly (records_contracts.record.opened.ended T P d e) (λ κs i. (a : ℕ) → Mem a T.lives → Mem a κs.1.0) (records.record.opened.Reads.Pre T L P d e)
  opened κs i lives = lives

pub ended_at : AsksNothing records_contracts.record.ended_at.ended records.record.ended_at.Reads.Pre
ended_at κs i = tt

pub plan_empty : AsksNothing plan_contracts.Plan.empty.ended plan.Plan.empty.Reads.Pre
plan_empty κs i = tt

pub read_plan_lem : AsksNothing plan_contracts.read_plan.ended plan.read_plan.Reads.Pre
read_plan_lem κs i = tt

pub step_at_lem : AsksNothing plan_contracts.step_at.ended plan.step_at.Reads.Pre
step_at_lem κs i = tt

pub plan_free : AsksNothing planner_contracts.plan_free.ended planner.plan_free.Reads.Pre
plan_free κs i = tt

pub plan_given : AsksNothing planner_contracts.plan_given.ended planner.plan_given.Reads.Pre
plan_given κs i = tt

pub least_deadline : AsksNothing planner_contracts.least_deadline.ended planner.least_deadline.Reads.Pre
least_deadline κs i = tt

pub check_plan : AsksNothing judge_contracts.check_plan.ended judge.check_plan.Reads.Pre
check_plan κs i = tt

pub finite : AsksNothing frame_record_contracts.finite.ended frame_record.finite.Reads.Pre
finite κs i = tt

pub idle : AsksNothing frame_record_contracts.Frame.idle.ended frame_record.Frame.idle.Reads.Pre
idle κs i = tt

pub sound : AsksNothing frame_record_contracts.Frame.sound.ended frame_record.Frame.sound.Reads.Pre
sound κs i = tt

pub is_open : AsksNothing frame_record_contracts.Frame.is_open.ended frame_record.Frame.is_open.Reads.Pre
is_open κs i = tt

pub has_begun : AsksNothing frame_record_contracts.Frame.has_begun.ended frame_record.Frame.has_begun.Reads.Pre
has_begun κs i = tt

pub is_ready : AsksNothing frame_record_contracts.Frame.is_ready.ended frame_record.Frame.is_ready.Reads.Pre
is_ready κs i = tt

pub answered : AsksNothing frame_record_contracts.Frame.answered.ended frame_record.Frame.answered.Reads.Pre
answered κs i = tt

pub begin : AsksNothing frame_begin_contracts.begin.ended frame_begin.begin.Reads.Pre
begin κs i = tt

pub step : AsksNothing frame_calls_contracts.step.ended frame_calls.step.Reads.Pre
step κs i = tt

pub panel_job : AsksNothing frame_calls_contracts.panel_job.ended frame_calls.panel_job.Reads.Pre
panel_job κs i = tt

pub span_end : AsksNothing frame_reports_contracts.span_end.ended frame_reports.span_end.Reads.Pre
span_end κs i = tt

pub give_back : AsksNothing frame_reports_contracts.give_back.ended frame_reports.give_back.Reads.Pre
give_back κs i = tt

pub close : AsksNothing frame_calls_contracts.close.ended frame_calls.close.Reads.Pre
close κs i = tt

pub read : AsksNothing frame_calls_contracts.read.ended frame_calls.read.Reads.Pre
read κs i = tt

pub begin_in : AsksNothing frame_lent_contracts.begin_in.ended frame_lent.begin_in.Reads.Pre
begin_in κs i = tt

pub call_in : AsksNothing frame_lent_contracts.call_in.ended frame_lent.call_in.Reads.Pre
call_in κs i = tt

pub record_at : AsksNothing frame_log_contracts.record_at.ended frame_log.record_at.Reads.Pre
record_at κs i = tt

pub list_plan : AsksNothing listing_contracts.list_plan.ended listing.list_plan.Reads.Pre
list_plan κs i = tt

module _ (T : RattleType) (L : Laws T) (P : Print.Ghosts T.Denot) (d : Dict) where
  -- whatever it prints to, as long as that lives, which its type says
  pub replay : AsksOnly (replaying_contracts.replay.ended T P d) (λ κs i. (a : ℕ) → Mem a T.lives → Mem a κs.1.1.0) (replaying.replay.Reads.Pre T L P d)
  replay κs i lives = lives

module _ (T : RattleType) (L : Laws T) (P : Write.Ghosts T.Denot) (d : Dict) where
  -- whatever it is handed to, likewise
  pub replay_to :
      AsksOnly (replaying_contracts.replay_to.ended T P d) (λ κs i. (a : ℕ) → Mem a T.lives → Mem a κs.1.1.0) (replaying.replay_to.Reads.Pre T L P d)
  replay_to κs i lives = lives

pub zb_plan_free : AsksNothing panel_contracts.zb_plan_free.ended panel.zb_plan_free.Reads.Pre
zb_plan_free κs i = tt

pub zb_plan_given : AsksNothing panel_contracts.zb_plan_given.ended panel.zb_plan_given.Reads.Pre
zb_plan_given κs i = tt

pub zb_least_deadline : AsksNothing panel_contracts.zb_least_deadline.ended panel.zb_least_deadline.Reads.Pre
zb_least_deadline κs i = tt

pub zb_check_plan : AsksNothing panel_contracts.zb_check_plan.ended panel.zb_check_plan.Reads.Pre
zb_check_plan κs i = tt

module _ (T : RattleType) (L : Laws T) (P : Read.Ghosts T.Denot) (d : Dict) where
  -- whatever it reads from, likewise
  pub fill : AsksOnly (input_contracts.fill.ended T P d) (λ κs i. (a : ℕ) → Mem a T.lives → Mem a κs.1.1.0) (input.fill.Reads.Pre T L P d)
  fill κs i lives = lives
