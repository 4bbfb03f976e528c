-- `replaying::put_panel` meets its contract: the id has at most three digits, and the rest is the one of the arm that was taken. Assumes nothing.
use native.Mathlib.Omega.{arith}
use Prim.Native.Nat.{ℕ, ◌+◌, ◌≤◌, ◌<◌}
use mathlib.Core.List.{List, ◌++◌}
use lib.ListN.{length}
use Rattle.octets.specs.Decimals.{decimal}
use Rattle.octets.proofs.Decimals.{few_digits}
use Rattle.octets.proofs.Writing.{room_first, room_next, both}
use Rattle.replaying.specs.Lines.{away_end, here_end}
use Rattle.replaying.proofs.Rooms.{room_for}
use borrow.Author.Rules.{rules}
use Rattle.replaying.proofs.put_panel.Goals.{Start}
use Rattle.replaying.proofs.put_panel.Goals as goal

room : (s : Start) (v : List ℕ) → s.args.id < 256 → length v ≤ 6 → s.args.at + length (decimal s.args.id ++ v) ≤ length s.args.out.now
room s v small h =
    room_for s.args.out.now s.args.at 3 6 (decimal s.args.id) v (omega (arith, s.requires)) (few_digits 2 s.args.id (omega arith)) h

pub put_number-end-requires : goal.put_number-end-requires
put_number-end-requires c =
    let s = (goal.at.put_number-end-requires c).Start in
    room_first c.args.out.now c.args.at (decimal c.args.id) away_end (room s away_end (search rules) (omega arith))

pub put-requires : goal.put-requires
put-requires c =
    let s = (goal.at.put-requires c).Start in
    room_next c.args.out.now c.args.at (decimal c.args.id) away_end (room s away_end (search rules) (omega arith)) c.put_number-end.ensures

pub returns-then-away : goal.returns-then-away
returns-then-away c =
    rw c.if-away.true
    (both c.args.out.now c.args.at (decimal c.args.id) away_end (room (goal.at.returns-then-away c).Start away_end (search rules) (omega arith))
    c.put_number-end.ensures c.put.ensures)

pub put-requires-2 : goal.put-requires-2
put-requires-2 c =
    let s = (goal.at.put-requires-2 c).Start in
    room_next c.args.out.now c.args.at (decimal c.args.id) here_end (room s here_end (search rules) (omega arith)) c.put_number-end.ensures

pub returns : goal.returns
returns c =
    rw c.if-away.false
    (both c.args.out.now c.args.at (decimal c.args.id) here_end (room (goal.at.returns c).Start here_end (search rules) (omega arith))
    c.put_number-end.ensures c.put-2.ensures)
