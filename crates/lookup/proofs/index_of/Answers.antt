-- `lookup::index_of` meets its contract; what its loop keeps stands in Invariants.antt. Assumes nothing.
use Prim.Native.Nat.{◌+◌, ◌-◌}
use mathlib.Core.Path.{◌≡◌}
use native.Mathlib.Omega.{arith}
use Rattle.std.proofs.Common.{rules}
use Rattle.lookup.proofs.Lookup.{tail_begin, tail_more}
use Rattle.lookup.proofs.index_of.Goals as goal

pub loop-i-init : goal.loop-i-init
loop-i-init c = tail_begin _ _ (omega arith)

pub loop-i-preserved : goal.loop-i-preserved
loop-i-preserved c =
    let next : c.loop-i.i - 1 + 1 ≡ c.loop-i.i = omega arith in
    tail_more c.args.jobs.now (c.loop-i.i - 1) c.loop-i.index (omega arith) (search rules) (rw next c.loop-i.invariant)
