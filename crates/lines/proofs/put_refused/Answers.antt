-- `lines::put_refused` meets its contract, with a place and without. Assumes nothing.
use mathlib.Core.Path.{◌≡◌, ap, subst}
use mathlib.Core.List.{List, ◌++◌}
use Prim.Native.Nat.{ℕ, ◌+◌, ◌≤◌, ◌<◌}
use native.Mathlib.Omega.{arith}
use lib.ListN.{length}
use borrow.Author.Rules.{rules}
use Rattle.std.specs.Prelude.{Some, None}
use Rattle.model.proofs.Lists.{clash}
use Rattle.records.specs.Refusals.{refusal_says, said_by}
use Rattle.octets.specs.Decimals.{decimal}
use Rattle.records.specs.declared.refusal.Said.{Said}
use Rattle.lines.specs.Lines.{newline, pair_line, refused_word, at_word}
use Rattle.octets.proofs.Writing.{room_first, room_next, both}
use Rattle.lines.proofs.Lines.{refused_placed, refused_bare, refused_fits}
use Rattle.lines.proofs.put_refused.Goals.{Start}
use Rattle.lines.proofs.put_refused.Goals as goal

abbrev field : Said → List ℕ
field said = refused_word ++ decimal said.number

-- the room for the whole line, and for its parts, by whether it has a place
module _ (s : Start) (said : Said) (e : said ≡ said_by (refusal_says s.args.f)) (n : said.number < 18446744073709551616) where
  placed_room :
      (p : ℕ) → said.place ≡ Some p → p < 18446744073709551616 →
      s.args.at + length (pair_line refused_word said.number at_word p) ≤ length s.args.out.now
  placed_room p h small =
      let bound = λ (q : ℕ) (k : said.place ≡ Some q). let same : p ≡ q = cc in subst (λ (m : ℕ). m < 18446744073709551616) same small in
      omega (arith, s.requires, refused_fits (refusal_says s.args.f) said e n bound, ap length (refused_placed (refusal_says s.args.f) said p e h))

  bare_room : said.place ≡ None → s.args.at + length (field said ++ newline) ≤ length s.args.out.now
  bare_room h = omega (arith, s.requires, refused_fits (refusal_says s.args.f) said e n (λ q k. clash (cc)), ap length (refused_bare (refusal_says s.args.f) said e h))

pub put_pair-requires : goal.put_pair-requires
put_pair-requires c =
    placed_room (goal.at.put_pair-requires c).Start c.numbers_of-said.result c.numbers_of-said.ensures (search rules) c.in-Some.place c.in-Some.is (search rules)

pub returns-in-Some : goal.returns-in-Some
returns-in-Some c = rw (refused_placed (refusal_says c.args.f) c.numbers_of-said.result _ c.numbers_of-said.ensures c.in-Some.is) c.put_pair.ensures

pub put_field-end-requires : goal.put_field-end-requires
put_field-end-requires c =
    room_first c.args.out.now c.args.at (field c.numbers_of-said.result) newline
    (bare_room (goal.at.put_field-end-requires c).Start c.numbers_of-said.result c.numbers_of-said.ensures (search rules) c.in-None.is)

pub put-requires : goal.put-requires
put-requires c =
    room_next c.args.out.now c.args.at (field c.numbers_of-said.result) newline
    (bare_room (goal.at.put-requires c).Start c.numbers_of-said.result c.numbers_of-said.ensures (search rules) c.in-None.is)
    c.put_field-end.ensures

pub returns-in-None : goal.returns-in-None
returns-in-None c =
    rw (refused_bare (refusal_says c.args.f) c.numbers_of-said.result c.numbers_of-said.ensures c.in-None.is)
    (both c.args.out.now c.args.at (field c.numbers_of-said.result) newline
    (bare_room (goal.at.returns-in-None c).Start c.numbers_of-said.result c.numbers_of-said.ensures (search rules) c.in-None.is)
    c.put_field-end.ensures c.put.ensures)
