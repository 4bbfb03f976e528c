-- `trial::steps::arrange` meets its contract: each change of places keeps the items, and what is left of the number tells the order of the
-- items that are left. Assumes nothing.
use Rattle.std.specs.Prelude.{◌≡◌, List, ℕ, ◌-◌, length, IsPermutation}
use Rattle.trial.specs.Orders.{arranged, arranged_from}
use Rattle.trial.proofs.steps.arrange.Given as goal

pub record Arranged {X : Type 0} (k rest number : ℕ) (initial items : List X) : Type 0 where
  pub permutation : IsPermutation initial items
  pub order : arranged_from k (length items - k) items rest ≡ arranged initial number

abbrev pub invariant-loop-k : goal.invariant-loop-k
invariant-loop-k g l = Arranged l.k l.rest l.number l.initial.items l.items
