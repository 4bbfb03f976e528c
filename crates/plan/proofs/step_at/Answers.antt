-- `plan::step_at` meets its contract: k is below half the length exactly where the two bytes of the k-th step stand.
-- Assumes nothing.
use Prim.Native.Nat.{◌+◌, ◌*◌, ◌≤◌, ◌<◌}
use native.Mathlib.Omega.{arith}
use lib.ListN.{length}
use borrow.Author.Tests.{lt-ltb, le-ltb}
use Rattle.plan.specs.Plans.{step_at}
use Rattle.plan.proofs.step_at.Goals as goal

pub returns-then-s-k : goal.returns-then-s-k
unfolding step_at
returns-then-s-k c =
    let past : length c.args.s.now ≤ 2 * c.args.k + 1 = omega arith in
    simp (le-ltb _ _ past)

pub returns : goal.returns
unfolding step_at
returns c =
    let there : 2 * c.args.k + 1 < length c.args.s.now = omega arith in
    simp (lt-ltb _ _ there)
