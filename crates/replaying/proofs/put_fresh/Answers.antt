-- `replaying::put_fresh` meets its contract: a frame number has at most ten digits, a pattern eight. Assumes nothing.
use native.Mathlib.Omega.{arith}
use Prim.Native.Nat.{ℕ, ◌+◌, ◌≤◌, ◌<◌}
use mathlib.Core.Path.{◌≡◌}
use mathlib.Core.List.{List, ◌++◌}
use lib.ListN.{length, length-append}
use Rattle.octets.specs.Decimals.{decimal}
use Rattle.octets.proofs.Decimals.{few_digits}
use Rattle.octets.proofs.Hex.{hex_digits}
use Rattle.octets.proofs.Writing.{room_first, room_next, both}
use Rattle.replaying.specs.Lines.{fresh_word, pattern_text, fresh_text}
use Rattle.replaying.proofs.Rooms.{room_for}
use borrow.Author.Rules.{rules}
use Rattle.replaying.proofs.put_fresh.Goals.{Start}
use Rattle.replaying.proofs.put_fresh.Goals as goal

pattern-length : (bits : ℕ) → length (pattern_text bits) ≡ 10
unfolding pattern_text
pattern-length bits = simp length-append (omega (arith, (hex_digits bits).0))

-- the two parts, and the room for them
abbrev out : Start → List ℕ
out s = s.args.out.now

abbrev field : Start → List ℕ
field s = fresh_word ++ decimal s.args.x.frame

room : (s : Start) (bits : ℕ) → s.args.x.frame < 4294967296 → s.args.at + length (field s ++ pattern_text bits) ≤ length (out s)
room s bits small =
    room_for (out s) s.args.at 16 10 (field s) (pattern_text bits) (omega (arith, s.requires))
    (omega (arith, length-append fresh_word (decimal s.args.x.frame), few_digits 9 s.args.x.frame (omega arith)))
    (omega (arith, pattern-length bits))

pub put_field-end-requires : goal.put_field-end-requires
put_field-end-requires c =
    let s = (goal.at.put_field-end-requires c).Start in
    room_first (out s) c.args.at (field s) (pattern_text 0) (room s 0 (search rules))

pub put_pattern-requires : goal.put_pattern-requires
put_pattern-requires c =
    let s = (goal.at.put_pattern-requires c).Start in
    omega (arith, room_next (out s) c.args.at (field s) (pattern_text 0) (room s 0 (search rules)) c.put_field-end.ensures, pattern-length 0)

pub returns : goal.returns
unfolding fresh_text
returns c =
    let s = (goal.at.returns c).Start in
    rw (← c.pattern_of-bits.ensures)
    (both (out s) c.args.at (field s) (pattern_text c.pattern_of-bits.result) (room s c.pattern_of-bits.result (search rules)) c.put_field-end.ensures
    c.put_pattern.ensures)
