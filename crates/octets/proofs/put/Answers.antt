-- `octets::put` meets its contract: the bytes are copied in one piece, and what stands behind them is left. Assumes nothing.
use Prim.Native.Nat.{◌+◌, ◌-◌}
use mathlib.Core.Path.{◌≡◌, refl, ap}
use mathlib.Core.List.{List, ◌++◌}
use native.Mathlib.Omega.{arith}
use lib.ListN.{length, take}
use lib.Seq.{drop-drop}
use Prim.Native.Nat.{ℕ}
use Rattle.octets.specs.Writing.{written}
use Rattle.octets.proofs.put.Goals as goal

pub returns : goal.returns
unfolding written
returns c =
    let at = c.args.at in
    let out = c.args.out.now in
    let word = c.args.word.now in
    let size : at + length word - at ≡ length word = omega arith in
    record {
      place = refl;
      area = rw (c.copy_from_slice.ensures.after, size) (ap (λ (rest : List ℕ). take at out ++ (word ++ rest)) (drop-drop (length word) at out));
    }
