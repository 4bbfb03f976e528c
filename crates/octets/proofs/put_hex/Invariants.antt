-- `octets::put_hex` meets its contract. The invariant: the digits still to write, written in front of those that stand, give all eight written.
-- Assumes nothing.
use Prim.Native.Nat.{ℕ, ◌≤◌}
use mathlib.Core.Path.{◌≡◌}
use mathlib.Core.List.{List}
use lib.ListN.{length}
use Rattle.octets.specs.Writing.{written}
use Rattle.octets.specs.Hex.{hex_in}
use Rattle.octets.proofs.put_hex.Given as goal

-- what `put_hex` keeps
pub record SoFar (out₀ : List ℕ) (at n : ℕ) (out : List ℕ) (left count : ℕ) : Type 0 where
  pub within : count ≤ 8
  pub size : length out ≡ length out₀
  pub rest : written out at (hex_in count left) ≡ written out₀ at (hex_in 8 n)

abbrev pub invariant-loop-i : goal.invariant-loop-i
invariant-loop-i l = SoFar l.initial.out l.at l.n l.out l.left l.i
