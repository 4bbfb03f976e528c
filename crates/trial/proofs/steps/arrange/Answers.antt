-- `trial::steps::arrange` meets its contract: one more change of places. Assumes nothing.
use Rattle.std.specs.Prelude.{◌≡◌, List, ℕ, zero, suc, ◌+◌, ◌-◌, ◌/◌, ◌%◌, ◌<◌, ◌≤◌, length}
use Rattle.std.specs.List.{swap}
use Rattle.std.proofs.Common.{arith, sym, ◌∙◌}
use Rattle.std.proofs.lemmas.List.Sorted.{IsPermutation-trans}
use Rattle.trial.specs.Orders.{arranged_from}
use Rattle.trial.proofs.steps.arrange.Goals as goal

-- one more place
more :
    {X : Type 0} (k left number : ℕ) (xs : List X) → 0 < left →
    arranged_from k left xs number ≡ arranged_from (k + 1) (left - 1) (swap xs k (k + number % left)) (number / left)
unfolding arranged_from
more k (suc left) number xs h =
    let e : suc left - 1 ≡ left = omega arith in
    let i : k + 1 ≡ suc k = omega arith in rw (e, i)
more k zero number xs h = absurd (omega (arith, h))

none : {X : Type 0} (k left number : ℕ) (xs : List X) → left ≤ 0 → arranged_from k left xs number ≡ xs
unfolding arranged_from
none k left number xs h = let e : left ≡ 0 = omega arith in rw e

pub loop-k-preserved : goal.loop-k-preserved
loop-k-preserved g c =
    let left = length c.loop-k.items - c.loop-k.k in
    let some : 0 < left = omega (arith, c.loop-k-test.true) in
    let fewer : length c.swap.new.self - (c.loop-k.k + 1) ≡ left - 1 = omega (arith, c.swap.ensures.len) in
    record {
      permutation = IsPermutation-trans _ _ _ c.loop-k.invariant.permutation c.swap.ensures.permutation;
      order = rw (fewer, c.swap.ensures.after) (sym (more _ left c.loop-k.rest _ some) ∙ c.loop-k.invariant.order);
    }

pub returns-clause-order : goal.returns-clause-order
returns-clause-order g c =
    let out : length c.loop-k.items - c.loop-k.k ≤ 0 = omega (arith, c.loop-k-test.false) in
    sym (none c.loop-k.k _ c.loop-k.rest _ out) ∙ c.loop-k.invariant.order
