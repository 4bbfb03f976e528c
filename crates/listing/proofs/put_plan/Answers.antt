-- `listing::put_plan` meets its contract: the first line, the job lines and the last line, one after the other.
-- Assumes nothing.
use mathlib.Core.List.{List, ◌++◌}
use Prim.Native.Nat.{ℕ, ◌+◌, ◌≤◌}
use native.Mathlib.Omega.{arith}
use lib.ListN.{length}
use Rattle.octets.specs.Writing.{Wrote}
use Rattle.listing.specs.Listing.{first_line, last_line}
use Rattle.listing.specs.Found.{step_lines, draft_text}
use Rattle.octets.proofs.Writing.{room_first, room_next, both}
use borrow.Author.Rules.{rules}
use Rattle.listing.proofs.put_plan.Goals.{Start}
use Rattle.listing.proofs.put_plan.Goals as goal

-- the three parts, and the room for them
module _ (c : Start) where
  abbrev out : List ℕ
  out = c.args.out.now

  abbrev one : List ℕ
  one = first_line c.args.t.now.deadline c.args.t.now.count

  abbrev two : List ℕ
  two = step_lines c.args.t.now c.args.draft.now.plan

  abbrev three : List ℕ
  three = last_line c.args.draft.now.laid.busy c.args.draft.now.laid.last

  room : 0 + length ((one ++ two) ++ three) ≤ length out
  unfolding draft_text
  room = omega (arith, c.requires.2)

  room-two : 0 + length (one ++ two) ≤ length out
  room-two = room_first out 0 (one ++ two) three room

  -- the first line and the job lines, one after the other
  front : {a b : List ℕ} {p q : ℕ} → Wrote out 0 one a p → Wrote a p two b q → Wrote out 0 (one ++ two) b q
  front = both out 0 one two room-two

pub put_pair-a-requires : goal.put_pair-a-requires
put_pair-a-requires c =
    let s = (goal.at.put_pair-a-requires c).Start in
    room_first (out s) 0 (one s) (two s) (room-two s)

pub put_lines-b-requires : goal.put_lines-b-requires
put_lines-b-requires c =
    let s = (goal.at.put_lines-b-requires c).Start in
    (search rules, search rules, room_next (out s) 0 (one s) (two s) (room-two s) c.put_pair-a.ensures)

pub put_pair-requires : goal.put_pair-requires
put_pair-requires c =
    let s = (goal.at.put_pair-requires c).Start in
    room_next (out s) 0 (one s ++ two s) (three s) (room s) (front s c.put_pair-a.ensures c.put_lines-b.ensures)

pub returns : goal.returns
unfolding draft_text
returns c =
    let s = (goal.at.returns c).Start in
    both (out s) 0 (one s ++ two s) (three s) (room s) (front s c.put_pair-a.ensures c.put_lines-b.ensures) c.put_pair.ensures
