-- The first of a list's front by `first` is the one that the library's `position` finds. Assumes nothing.
use Prim.Native.Nat.{ℕ, zero, suc, ◌+◌, ◌≤◌}
use native.Mathlib.Omega.{arith}
use native.Mathlib.Numerals.{add-one}
use mathlib.Core.Path.{◌≡◌, refl, sym, ap, subst, ◌∙◌}
use mathlib.Core.Bool.{Bool, cond}
use mathlib.Core.List.{List}
use lib.Dec.{eqb}
use lib.ListN.{length, get_or, take, drop}
use Rattle.std.proofs.Math.Seq.{drop-cons}
use Rattle.std.specs.Prelude.{Some}
use Rattle.std.specs.List.{position, position_from}
use Rattle.std.proofs.lemmas.Iterator.Adapters.{position_from-zero}
use Rattle.lookup.specs.Lookup.{first}

module _ {A : Type 0} (key : A → ℕ) (d : A) (xs : List A) (x : ℕ) where
  abbrev has : A → Bool
  has e = eqb (key e) x

  front_from : (k n : ℕ) → k + n ≤ length xs → first key d xs x k n ≡ position_from has k (take n (drop k xs))
  unfolding first
  front_from k zero h = refl
  front_from k (suc n) h =
      let on : first key d xs x (k + 1) n ≡ position_from has (k + 1) (take n (drop (k + 1) xs)) = front_from (k + 1) n (omega arith) in
      let past : first key d xs x (k + 1) n ≡ position_from has (k + 1) (take n (drop (suc k) xs)) =
      subst (λ (m : ℕ). first key d xs x (k + 1) n ≡ position_from has (k + 1) (take n (drop m xs))) (add-one k) on in
      rw (drop-cons xs k d (omega arith)) (ap (cond (has (get_or xs k d)) (Some k)) past)

  pub first_front : (n : ℕ) → n ≤ length xs → first key d xs x 0 n ≡ position has (take n xs)
  first_front n h = front_from 0 n (omega arith) ∙ sym (position_from-zero has (take n xs))
