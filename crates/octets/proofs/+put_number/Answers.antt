-- `octets::put_number` meets its contract, by the laws of `decimal`: one digit, or the digits of the tens and one digit more.
-- The measure is the number. Assumes nothing.
use Prim.Native.Nat.{◌+◌, ◌/◌, ◌%◌}
use native.Mathlib.Omega.{arith}
use mathlib.Core.Path.{sym, ◌∙◌}
use mathlib.Core.List.{[], ◌∷◌}
use lib.ListN.{length}
use Rattle.octets.specs.Writing.{written}
use Rattle.octets.specs.Decimals.{decimal}
use Rattle.octets.proofs.Writing.{written_append, set_written, written_length}
use Rattle.octets.proofs.Decimals.{decimal_small, decimal_large, small_length, large_length}
use Rattle.octets.proofs.+put_number.Goals as goal

pub bounds-out-at : goal.bounds-out-at
bounds-out-at t c = omega (arith, small_length c.args.n (omega arith))

pub returns-then-n-lt10 : goal.returns-then-n-lt10
returns-then-n-lt10 t c =
    let size = small_length c.args.n (omega arith) in
    record {
      place = omega arith;
      area = rw (decimal_small c.args.n (omega arith)) (set_written c.args.out.now c.args.at (48 + c.args.n) (omega arith));
    }

pub put_number-end-requires : goal.put_number-end-requires
put_number-end-requires t c = (omega arith, omega (arith, large_length c.args.n (omega arith)))

pub bounds-out-end : goal.bounds-out-end
bounds-out-end t c = omega (arith, large_length c.args.n (omega arith))

pub overflow_add-result-2 : goal.overflow_add-result-2
overflow_add-result-2 t c = omega (arith, large_length c.args.n (omega arith))

pub returns : goal.returns
returns t c =
    let tens = decimal (c.args.n / 10) in
    let digit = 48 + c.args.n % 10 in
    let size = large_length c.args.n (omega arith) in
    let same = written_length c.args.out.now c.args.at tens (omega arith) in
    record {
      place = omega (arith, c.put_number-end.ensures.place);
      area = rw (c.put_number-end.ensures.place, c.put_number-end.ensures.area, decimal_large c.args.n (omega arith))
          (set_written (written c.args.out.now c.args.at tens) (c.args.at + length tens) digit (omega arith) ∙
          sym (written_append c.args.out.now c.args.at tens (digit ∷ []) (omega arith)));
    }
