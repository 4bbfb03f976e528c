-- `replaying::put_stopped` meets its contract: the place has at most 20 digits. Assumes nothing.
use native.Mathlib.Omega.{arith}
use Prim.Native.Nat.{ℕ, ◌+◌, ◌≤◌, ◌<◌}
use mathlib.Core.List.{List, ◌++◌}
use lib.ListN.{length, length-append}
use Rattle.octets.specs.Decimals.{decimal}
use Rattle.octets.proofs.Writing.{room_first, room_next, both}
use Rattle.lines.specs.Lines.{newline}
use Rattle.lines.proofs.Lines.{eight_bytes}
use Rattle.replaying.specs.Lines.{stopped_word, stopped_line}
use Rattle.replaying.proofs.Rooms.{room_for}
use borrow.Author.Rules.{rules}
use Rattle.replaying.proofs.put_stopped.Goals.{Start}
use Rattle.replaying.proofs.put_stopped.Goals as goal

abbrev field : Start → List ℕ
field s = stopped_word ++ decimal s.args.place

room : (s : Start) → s.args.place < 18446744073709551616 → 0 + length (field s ++ newline) ≤ length s.args.out.now
room s small =
    room_for s.args.out.now 0 31 1 (field s) newline (omega (arith, s.requires))
    (omega (arith, length-append stopped_word (decimal s.args.place), eight_bytes s.args.place small)) (omega arith)

pub put_field-end-requires : goal.put_field-end-requires
put_field-end-requires c =
    let s = (goal.at.put_field-end-requires c).Start in
    room_first c.args.out.now 0 (field s) newline (room s (search rules))

pub put-requires : goal.put-requires
put-requires c =
    let s = (goal.at.put-requires c).Start in
    room_next c.args.out.now 0 (field s) newline (room s (search rules)) c.put_field-end.ensures

pub returns : goal.returns
unfolding stopped_line
returns c =
    let s = (goal.at.returns c).Start in
    both c.args.out.now 0 (field s) newline (room s (search rules)) c.put_field-end.ensures c.put.ensures
