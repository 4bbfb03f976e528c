-- `listing::put_job_line` meets its contract: the id, the choice with the start, and the span's end with the finish.
-- Assumes nothing.
use mathlib.Core.Path.{◌≡◌}
use mathlib.Core.List.{List, ◌++◌}
use Prim.Native.Nat.{ℕ, ◌+◌, ◌≤◌}
use lib.ListN.{length}
use Rattle.model.specs.Timetable.{Placed, span, span_end, wait, finish}
use Rattle.octets.specs.Writing.{Wrote}
use Rattle.octets.specs.Decimals.{decimal}
use Rattle.lines.specs.Lines.{space, pair_line}
use Rattle.listing.specs.Listing.{choice_word}
use Rattle.listing.specs.Found.{placed}
use Rattle.octets.proofs.Writing.{room_first, room_next, both}
use Rattle.listing.proofs.Lines.{job_parts}
use Rattle.listing.proofs.put_job_line.Goals.{Start}
use Rattle.listing.proofs.put_job_line.Goals as goal

-- the parts of the line, and the room for them
module _ (c : Start) where
  abbrev out : List ℕ
  out = c.args.out.now

  abbrev what : Placed
  what = placed c.args.job c.args.away c.args.start

  abbrev id : List ℕ
  id = decimal c.args.job.id

  abbrev start : List ℕ
  start = choice_word c.args.away ++ decimal c.args.start

  abbrev times : List ℕ
  times = pair_line space (span_end what) space (finish what)

  -- the span's end and the finish as the code adds them up
  added : (s w : ℕ) → s ≡ span what.what → w ≡ wait what.what → times ≡ pair_line space (c.args.start + s) space (c.args.start + s + w)
  added s w e h = rw (e, h)

  room : c.args.at + length ((id ++ start) ++ times) ≤ length out
  room = rw (job_parts what) at c.requires.1

  room-two : c.args.at + length (id ++ start) ≤ length out
  room-two = room_first out c.args.at (id ++ start) times room

  -- the id and the choice with the start, one after the other
  front :
      {a b : List ℕ} {p q : ℕ} → Wrote out c.args.at id a p → Wrote a p start b q → Wrote out c.args.at (id ++ start) b q
  front = both out c.args.at id start room-two

pub put_number-a-requires : goal.put_number-a-requires
put_number-a-requires c =
    let s = (goal.at.put_number-a-requires c).Start in
    room_first (out s) c.args.at (id s) (start s) (room-two s)

pub put_start-b-requires : goal.put_start-b-requires
put_start-b-requires c =
    let s = (goal.at.put_start-b-requires c).Start in
    room_next (out s) c.args.at (id s) (start s) (room-two s) c.put_number-a.ensures

pub put_pair-requires : goal.put_pair-requires
put_pair-requires c =
    let s = (goal.at.put_pair-requires c).Start in
    rw (added s c.span_of.result c.wait_of.result c.span_of.ensures.0 c.wait_of.ensures.0) at
    (room_next (out s) c.args.at (id s ++ start s) (times s) (room s) (front s c.put_number-a.ensures c.put_start-b.ensures))

pub returns : goal.returns
returns c =
    let s = (goal.at.returns c).Start in
    let sums = added s c.span_of.result c.wait_of.result c.span_of.ensures.0 c.wait_of.ensures.0 in
    rw (job_parts (what s))
    (both (out s) c.args.at (id s ++ start s) (times s) (room s) (front s c.put_number-a.ensures c.put_start-b.ensures)
    (rw sums c.put_pair.ensures))
