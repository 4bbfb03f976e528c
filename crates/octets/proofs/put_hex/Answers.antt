-- `octets::put_hex` meets its contract; what its loop keeps stands in Invariants.antt. Assumes nothing.
use mathlib.Core.Path.{sym, ◌∙◌}
use native.Mathlib.Omega.{arith}
use lib.ListN.{length-set}
use borrow.Author.Rules.{rules}
use Rattle.octets.specs.Hex.{hex_of}
use Rattle.octets.proofs.Hex.{one_more, none_left, hex_length}
use Rattle.octets.proofs.put_hex.Goals as goal

pub loop-i-preserved : goal.loop-i-preserved
loop-i-preserved c =
    record {
      within = search rules;
      size = rw length-set c.loop-i.invariant.size;
      rest = one_more c.loop-i.out c.args.at c.loop-i.i c.loop-i.left _ c.loop-i-test.true (search rules) c.hex_digit.ensures
          ∙ c.loop-i.invariant.rest;
    }

pub returns : goal.returns
unfolding hex_of
returns c =
    record {
      place = omega (arith, hex_length 8 c.args.n);
      area = sym (none_left c.loop-i.out c.args.at c.loop-i.i c.loop-i.left c.loop-i-test.false) ∙ c.loop-i.invariant.rest;
    }
