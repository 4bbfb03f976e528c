-- `trial::steps::Steps::busy` meets its contract: six spans of 65,535 ticks at most fit. Assumes nothing.
use Rattle.std.proofs.Common.{arith, rules}
use Rattle.std.proofs.lemmas.Iterator.{YieldsList-from_slice}
use Rattle.std.proofs.lemmas.Iterator.Adapters.{at_most_from_yields_List, fits_from_length}
use Rattle.trial.proofs.steps.Steps.busy.Goals as goal

pub sum-requires-clause-fits : goal.sum-requires-clause-fits
sum-requires-clause-fits c =
    fits_from_length _ _ 6 _ (at_most_from_yields_List (YieldsList-from_slice c.as_slice.result.now cc) (grind arith)) c.map.ensures.closure (omega arith)
    (λ x r q k. search rules)
