-- `kind::form_of` meets its contract: each arm of the match is one line of `form_of`, and the last one is the rest. Assumes nothing.
use Rattle.std.proofs.Common.{rules}
use Rattle.records.specs.Records.{form_of}
use Rattle.records.proofs.kind.form_of.Goals as goal

pub returns-in-16 : goal.returns-in-16
unfolding form_of
returns-in-16 c = search rules

pub returns-in-17 : goal.returns-in-17
unfolding form_of
returns-in-17 c = search rules

pub returns-in-18 : goal.returns-in-18
unfolding form_of
returns-in-18 c = search rules

pub returns-in-31 : goal.returns-in-31
unfolding form_of
returns-in-31 c = search rules

pub returns-in-32 : goal.returns-in-32
unfolding form_of
returns-in-32 c = search rules

pub returns-in-33 : goal.returns-in-33
unfolding form_of
returns-in-33 c = search rules

pub returns-in-47 : goal.returns-in-47
unfolding form_of
returns-in-47 c = search rules

pub returns-in_default : goal.returns-in_default
unfolding form_of
returns-in_default c = search rules
