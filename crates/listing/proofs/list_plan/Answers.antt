-- `listing::list_plan` meets its contract: no room, a refusal's text, or the text of what the planner made; every text fits in 1,024 bytes.
-- Assumes nothing.
use mathlib.Core.Path.{ap}
use native.Mathlib.Omega.{arith}
use lib.ListN.{length}
use Rattle.table.proofs.Reading.{read_refused, read_whole}
use Rattle.listing.proofs.Short.{text_short}
use Rattle.listing.proofs.Texts.{refused_text_lem, read_counted, made_text_lem, lists_text}
use Rattle.listing.proofs.list_plan.Goals as goal

pub free_plan-requires : goal.free_plan-requires
free_plan-requires c = (read_whole _ _ c.read_table.ensures _ c.in-Ok.is).sound

pub put_made-requires-clause-made_fits : goal.put_made-requires-clause-made_fits
put_made-requires-clause-made_fits c =
    let w = read_whole _ _ c.read_table.ensures _ c.in-Ok.is in
    let n = read_counted _ _ _ c.read_table.ensures c.in-Ok.is in
    let e = made_text_lem c.args.table.now _ w n _ c.free_plan.ensures in
    let short = text_short c.args.table.now (λ i. omega (arith, c.shared_slice_known-1.given i)) in
    (w.sound.few, omega (arith, ap length e, short))

pub returns-in-Err : goal.returns-in-Err
returns-in-Err c =
    lists_text c.args.table.now c.args.out.now _ _ _ c.if-out-lt1024.false
    (refused_text_lem c.args.table.now _ (read_refused _ _ c.read_table.ensures _ c.in-Err.is)) c.put_refused.ensures

pub returns-in-Ok : goal.returns-in-Ok
returns-in-Ok c =
    let w = read_whole _ _ c.read_table.ensures _ c.in-Ok.is in
    let n = read_counted _ _ _ c.read_table.ensures c.in-Ok.is in
    lists_text c.args.table.now c.args.out.now _ _ _ c.if-out-lt1024.false
    (made_text_lem c.args.table.now _ w n _ c.free_plan.ensures) c.put_made.ensures
