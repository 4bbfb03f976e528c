-- `octets::four_at` meets its contract. Assumes nothing.
use Rattle.std.proofs.Common.{rules}
use Rattle.octets.specs.Numbers.{four_at}
use Rattle.octets.proofs.four_at.Goals as goal

pub returns : goal.returns
unfolding four_at
returns c = search rules
