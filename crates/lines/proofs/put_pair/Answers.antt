-- `lines::put_pair` meets its contract: two fields, and the line's end. Assumes nothing.
use mathlib.Core.List.{List, ◌++◌}
use Prim.Native.Nat.{ℕ, ◌+◌, ◌≤◌}
use lib.ListN.{length}
use Rattle.octets.specs.Decimals.{decimal}
use Rattle.lines.specs.Lines.{newline}
use Rattle.octets.proofs.Writing.{room_first, room_next, both}
use Rattle.lines.proofs.Lines.{pair_parts}
use Rattle.lines.proofs.put_pair.Goals.{Start}
use Rattle.lines.proofs.put_pair.Goals as goal

-- the parts of the line, and the room for them
module _ (c : Start) where
  abbrev out : List ℕ
  out = c.args.out.now

  abbrev one : List ℕ
  one = c.args.first.now ++ decimal c.args.a

  abbrev two : List ℕ
  two = c.args.second.now ++ decimal c.args.b

  room : c.args.at + length ((one ++ two) ++ newline) ≤ length out
  room = rw pair_parts at c.requires

  room-two : c.args.at + length (one ++ two) ≤ length out
  room-two = room_first out c.args.at (one ++ two) newline room

pub put_field-middle-requires : goal.put_field-middle-requires
put_field-middle-requires c =
    let s = (goal.at.put_field-middle-requires c).Start in
    room_first (out s) c.args.at (one s) (two s) (room-two s)

pub put_field-end-requires : goal.put_field-end-requires
put_field-end-requires c =
    let s = (goal.at.put_field-end-requires c).Start in
    room_next (out s) c.args.at (one s) (two s) (room-two s) c.put_field-middle.ensures

pub put-requires : goal.put-requires
put-requires c =
    let s = (goal.at.put-requires c).Start in
    room_next (out s) c.args.at (one s ++ two s) newline (room s)
    (both (out s) c.args.at (one s) (two s) (room-two s) c.put_field-middle.ensures
    c.put_field-end.ensures)

pub returns : goal.returns
returns c =
    let s = (goal.at.returns c).Start in
    rw pair_parts
    (both (out s) c.args.at (one s ++ two s) newline (room s)
    (both (out s) c.args.at (one s) (two s) (room-two s) c.put_field-middle.ensures c.put_field-end.ensures)
    c.put.ensures)
