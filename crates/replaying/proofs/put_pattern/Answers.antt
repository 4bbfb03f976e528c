-- `replaying::put_pattern` meets its contract: a space, eight digits, and the line's end. Assumes nothing.
use native.Mathlib.Omega.{arith}
use Prim.Native.Nat.{ℕ, ◌+◌, ◌≤◌}
use mathlib.Core.List.{List, ◌++◌}
use lib.ListN.{length, length-append}
use Rattle.octets.specs.Writing.{Wrote}
use Rattle.octets.specs.Hex.{hex_of}
use Rattle.octets.proofs.Hex.{hex_digits}
use Rattle.octets.proofs.Writing.{room_first, room_next, both}
use Rattle.lines.specs.Lines.{space, newline}
use Rattle.replaying.specs.Lines.{pattern_text}
use Rattle.replaying.proofs.Rooms.{room_for}
use Rattle.replaying.proofs.put_pattern.Goals.{Start}
use Rattle.replaying.proofs.put_pattern.Goals as goal

-- the parts, and the room for them
module _ (s : Start) where
  abbrev out : List ℕ
  out = s.args.out.now

  abbrev digits : List ℕ
  digits = hex_of s.args.bits

  room : s.args.at + length ((space ++ digits) ++ newline) ≤ length out
  room =
      room_for out s.args.at 9 1 (space ++ digits) newline (omega (arith, s.requires))
      (omega (arith, length-append space digits, (hex_digits s.args.bits).0)) (omega arith)

  room-two : s.args.at + length (space ++ digits) ≤ length out
  room-two = room_first out s.args.at (space ++ digits) newline room

  front : {a b : List ℕ} {p q : ℕ} → Wrote out s.args.at space a p → Wrote a p digits b q → Wrote out s.args.at (space ++ digits) b q
  front = both out s.args.at space digits room-two

pub put-requires : goal.put-requires
put-requires c =
    let s = (goal.at.put-requires c).Start in
    room_next (out s) c.args.at (space ++ digits s) newline (room s) (front s c.put-a.ensures c.put_hex-b.ensures)

pub returns : goal.returns
unfolding pattern_text
returns c =
    let s = (goal.at.returns c).Start in
    both (out s) c.args.at (space ++ digits s) newline (room s) (front s c.put-a.ensures c.put_hex-b.ensures) c.put.ensures
