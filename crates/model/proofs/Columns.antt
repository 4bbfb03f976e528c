-- The planner's last step: the least (busy total, mask) over the setup totals 0..D, if it is not above D.
-- Assumes nothing.
use mathlib.Core.Path.{◌≡◌, refl, subst}
use mathlib.Core.Logic.{◌⊎◌, inl, inr}
use mathlib.Core.Bool.{Bool, true, false, cond}
use mathlib.Core.List.{List, [], ◌∷◌, map}
use Prim.Native.Nat.{ℕ, zero, suc, ◌+◌, ◌≤◌, ◌<◌}
use native.Mathlib.Omega.{arith}
use native.Mathlib.Nat.{eq-or-lt_of_le}
use lib.Dec.{T}
use Rattle.model.specs.declared.Job.{Job}
use Rattle.model.specs.Lists.{total}
use Rattle.model.specs.Timetable.{setup_time, Chosen}
use Rattle.model.specs.FreeOrder.{back}
use Rattle.model.specs.Recurrence.{row, shift, best_below, best_total, mask}
use Rattle.model.proofs.Least.{IsLeast, least_iff, pick_least, Shifted, shift_least, cap_least}
use Rattle.model.proofs.Rows.{setup_part, here_part, Feasible, Reach, row_least}

-- (a, m) is the busy total and the mask of a feasible choice
pub record Total (D : ℕ) (os : List Job) (base a m : ℕ) : Type 0 where
  pub of : List Chosen
  pub jobs : map (λ (c : Chosen). c.job) of ≡ os
  pub feasible : Feasible D of
  pub sum : total setup_part of + total here_part of + base ≡ a
  pub bits : mask of ≡ m

module _ (D : ℕ) (os : List Job) (base : ℕ) where
  abbrev At : ℕ → ℕ → ℕ → Type 0
  At t = Shifted (t + base) 0 (Reach D os t)

  abbrev Below : ℕ → ℕ → ℕ → Type 0
  Below n a m = (t : ℕ) × (t < n) × At t a m

  below_least : (n : ℕ) → IsLeast (Below n) (best_below D os base n)
  below_least zero = λ a m b. omega (arith, b.1)
  below_least (suc n) =
      least_iff (λ (a m : ℕ). Below n a m ⊎ At n a m) (Below (suc n)) join (λ a m b. part a m b.0 b.2 (eq-or-lt_of_le b.1))
      (best_below D os base (suc n))
      (pick_least (Below n) (At n) (best_below D os base n) (shift (n + base) 0 (row D os n)) (below_least n)
      (shift_least (n + base) 0 (Reach D os n) (row D os n) (row_least D os n)))
    where
      join : (a m : ℕ) → Below n a m ⊎ At n a m → Below (suc n) a m
      join a m (inl b) = (b.0, omega (arith, b.1), b.2)
      join a m (inr b) = (n, omega arith, b)

      part : (a m t : ℕ) → At t a m → (suc t ≡ suc n) ⊎ (suc t < suc n) → Below n a m ⊎ At n a m
      part a m t b (inl e) = let q : t ≡ n = omega arith in inr (subst (λ (u : ℕ). At u a m) q b)
      part a m t b (inr h) = inl (t, omega arith, b)

  pub setups_le : (xs : List Chosen) → Feasible D xs → total setup_part xs ≤ D
  setups_le [] f = omega arith
  setups_le (x ∷ xs) f = step x.away f.0 (setups_le xs f.1)
    where
      step : (w : Bool) → (T w → cond w (setup_time x.job) 0 + total setup_part xs + back x ≤ D) → total setup_part xs ≤ D
          → cond w (setup_time x.job) 0 + total setup_part xs ≤ D
      step true g h = omega (arith, g tt)
      step false g h = omega arith

  pub total_least : IsLeast (λ (a m : ℕ). Total D os base a m × (a ≤ D)) (best_total D os base)
  total_least =
      cap_least D (Total D os base) (best_below D os base (suc D))
      (least_iff (Below (suc D)) (Total D os base) to from (best_below D os base (suc D)) (below_least (suc D)))
    where
      to : (a m : ℕ) → Below (suc D) a m → Total D os base a m
      to a m b =
          let s = b.2 in
          let r = s.2 in
          record { of = r.of; jobs = r.jobs; feasible = r.feasible; sum = omega (arith, r.setups, r.heres, s.3); bits = omega (arith, r.bits, s.4) }

      from : (a m : ℕ) → Total D os base a m → Below (suc D) a m
      from a m r = (
        total setup_part r.of,
        omega (arith, setups_le r.of r.feasible),
        (
          total here_part r.of,
          mask r.of,
          record { of = r.of; jobs = r.jobs; feasible = r.feasible; setups = refl; heres = refl; bits = refl },
          omega (arith, r.sum),
          omega (arith, r.bits),
        ),
      )
