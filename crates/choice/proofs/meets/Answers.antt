-- `choice::meets` says yes exactly where a mask is found, which is where some timetable meets the deadline. Assumes nothing.
use Rattle.choice.proofs.Answers.{says_whether}
use Rattle.choice.proofs.meets.Goals as goal

pub returns : goal.returns
returns c js held = rw c.is_some.ensures (says_whether _ js _ (c.best_choice.ensures js held))
