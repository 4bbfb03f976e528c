-- A list that is filled one position after the other. Assumes nothing.
use Prim.Native.Nat.{ℕ, zero, suc, ◌+◌, ◌≤◌, ◌<◌}
use native.Mathlib.Omega.{arith}
use native.Mathlib.Numerals.{add-one}
use mathlib.Core.Path.{◌≡◌, refl, ◌∙◌}
use mathlib.Core.Bool.{Bool, true, false}
use mathlib.Core.List.{List}
use borrow.Author.Tests.{eqb-true, eqb-false}
use lib.ListN.{length, get_or, set, length-set, length-replicate}
use lib.Seq.{get_or-set_same, get_or-set_other}
use lib.Dec.{eqb}
use Rattle.frame_begin.specs.Begin.{filled}

module _ {A : Type 0} (d : A) (g : ℕ → A) where
  -- one turn of a loop that fills
  pub filled_more : (xs : List A) (k : ℕ) (x : A) → xs ≡ filled d g k → x ≡ g k → set xs k x ≡ filled d g (k + 1)
  unfolding filled
  filled_more xs k x e is = rw (add-one, e, is)

  pub filled_length : (n : ℕ) → length (filled d g n) ≡ 32
  unfolding filled
  filled_length zero = length-replicate 32 d
  filled_length (suc n) = length-set (filled d g n) n (g n) ∙ filled_length n

  -- what stands at a position that is filled
  at_step : (n i : ℕ) → n < 32 → i < suc n → (i < n → get_or (filled d g n) i d ≡ g i) → (b : Bool) → eqb i n ≡ b →
      get_or (set (filled d g n) n (g n)) i d ≡ g i
  at_step n i room h on true is = rw (eqb-true i n is) (get_or-set_same (filled d g n) n (g n) d (omega (arith, filled_length n)))
  at_step n i room h on false is = get_or-set_other (filled d g n) n i (g n) d (eqb-false i n is) ∙ on (omega (arith, eqb-false i n is))

  pub filled_at : (n i : ℕ) → n ≤ 32 → i < n → get_or (filled d g n) i d ≡ g i
  unfolding filled
  filled_at zero i room h = absurd (omega arith)
  filled_at (suc n) i room h = at_step n i (omega arith) h (filled_at n i (omega arith)) (eqb i n) refl
