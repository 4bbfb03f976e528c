-- `input::fill` meets its contract: a turn reads some bytes more. Assumes nothing.
use Rattle.std.proofs.Common.{rules}
use Rattle.input.proofs.Filled.{filled_more}
use Rattle.input.proofs.fill.Goals as goal

pub loop-n-preserved : goal.loop-n-preserved
loop-n-preserved g c =
    let so = c.loop-n.invariant in
    let read = c.in_ok-more.ensures in
    (search rules, search rules, filled_more _ _ _ c.loop-n.n _ c.loop-n.area c.read.new.buf so.1 so.2 _ read.bound.0 read.bytes.0)
