-- What a planner's answer says to the trial.
-- Assumes nothing.
use Rattle.std.specs.Prelude.{Result, Ok, Err}
use Rattle.records.specs.declared.refusal.Refusal.{Refusal}
use Rattle.records.specs.declared.refusal.Said.{Said}
use Rattle.records.specs.Refusals.{refusal_says, said_by}

-- a refusal by the rules' numbers, its own and that of its place
abbrev pub by_numbers : {T : Type 0} → Result T Refusal → Result T Said
by_numbers (Ok answer) = Ok answer
by_numbers (Err refusal) = Err (said_by (refusal_says refusal))
