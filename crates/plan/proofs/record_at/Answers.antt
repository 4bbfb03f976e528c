-- `plan::record_at` meets its contract: the record's refusal, or what its step's body is. Assumes nothing.
use Rattle.std.proofs.Common.{rules}
use Rattle.plan.proofs.Steps.{step_opened}
use Rattle.plan.proofs.record_at.Goals as goal

pub returns-in_err-step : goal.returns-in_err-step
returns-in_err-step c = search (rules, (step_opened _ _ c.args.count c.opened.ensures).out _ c.in_err-step.was)

pub listed_at-requires : goal.listed_at-requires
listed_at-requires c = search (rules, (step_opened _ _ c.args.count c.opened.ensures).long _ c.in_ok-step.was)

pub listed_at-requires-in-AwayStep : goal.listed_at-requires-in-AwayStep
listed_at-requires-in-AwayStep c = search (rules, (step_opened _ _ c.args.count c.opened.ensures).long _ c.in_ok-step.was)

pub returns-in-HereStep : goal.returns-in-HereStep
returns-in-HereStep c = search (rules, (step_opened _ _ c.args.count c.opened.ensures).in_it _ c.in_ok-step.was)

pub returns-in-AwayStep : goal.returns-in-AwayStep
returns-in-AwayStep c = search (rules, (step_opened _ _ c.args.count c.opened.ensures).in_it _ c.in_ok-step.was)

pub returns-in-EndStep : goal.returns-in-EndStep
returns-in-EndStep c = search (rules, (step_opened _ _ c.args.count c.opened.ensures).in_it _ c.in_ok-step.was)
