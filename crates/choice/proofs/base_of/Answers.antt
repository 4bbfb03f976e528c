-- `choice::base_of` meets its contract: the chain's sum is the sum of what each job keeps here in any case. Assumes nothing.
use Rattle.std.proofs.Common.{◌≡◌, ◌∙◌, map, rules}
use Rattle.std.specs.List.{sum}
use Rattle.std.proofs.iter.runs.Made.{chains}
use Rattle.choice.specs.Choices.{here_time}
use Rattle.choice.proofs.Loops.{total_sum}
use Rattle.choice.proofs.base_of.Goals as goal

pub returns : goal.returns
returns c = let e : c.sum.result ≡ sum (map here_time c.args.jobs.now) = search (rules, chains) in e ∙ total_sum here_time c.args.jobs.now
