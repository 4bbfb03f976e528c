-- Meeting a deadline is monotone, so the least deadline is where it turns; there is one unless N is not met, and only one.
-- Assumes nothing.
use mathlib.Core.Path.{◌≡◌, refl}
use mathlib.Core.Logic.{◌↔◌}
use mathlib.Core.List.{List}
use Prim.Native.Nat.{ℕ, zero, suc, ◌≤◌, ◌<◌}
use native.Mathlib.Omega.{arith}
use native.Mathlib.Decide.{dec_lt}
use Rattle.model.specs.declared.Job.{Job}
use Rattle.model.specs.Timetable.{Placed, finish, Meets, Met}
use Rattle.model.specs.FreeOrder.{LeastDeadline}
use Rattle.model.specs.Recurrence.{answer, Cell, empty, cell}
use Rattle.model.proofs.Lists.{all_map}
use Rattle.model.proofs.Timetables.{timetable_iff_workable}
use Rattle.model.proofs.Best.{answer_best, answer_none}

pub meets_mono : (D E : ℕ) (ps : List Placed) → D ≤ E → Meets D ps → Meets E ps
meets_mono D E ps h m = all_map (λ (p : Placed) (k : finish p ≤ D). omega arith) ps m

module _ (js : List Job) where
  pub met_mono : (D E : ℕ) → D ≤ E → Met D js → Met E js
  met_mono D E h m = (m.0, m.1, meets_mono D E m.0 h m.2)

  -- met, and not met one earlier
  pub turn_least : (N d : ℕ) → d < N → (1 ≤ d → Met d js → ⊥) → Met (suc d) js → LeastDeadline N js (suc d)
  turn_least N d h f m = record { low = omega arith; high = h; met = m; least = λ e l n. below e l n (dec_lt d e) }
    where
      below : (e : ℕ) → 1 ≤ e → Met e js → Dec (d < e) → suc d ≤ e
      below e l n (yes k) = k
      below e l n (no k) = absurd (f (omega arith) (met_mono e d (omega arith) n))

  pub least_unique : (N d e : ℕ) → LeastDeadline N js d → LeastDeadline N js e → d ≡ e
  least_unique N d e a b = omega (arith, a.least e b.low b.met, b.least d a.low a.met)

  pub met_dec : (D : ℕ) → Dec (Met D js)
  met_dec D = step (answer D js) refl
    where
      step : (c : Cell) → answer D js ≡ c → Dec (Met D js)
      step empty e = no (λ m. let c = (timetable_iff_workable D js).0 m in answer_none D js e c.0 c.1 c.2)
      step (cell a m) e = yes (let r = answer_best D js a m e in (timetable_iff_workable D js).1 (r.0, r.1.choice, r.1.workable))

  -- there is one exactly when N is met
  pub least_iff_met : (N : ℕ) → 1 ≤ N → ((d : ℕ) × LeastDeadline N js d) ↔ Met N js
  least_iff_met N h = ((λ l. met_mono l.0 N l.1.high l.1.met), (λ m. go N (omega arith) h m))
    where
      go : (n : ℕ) → n ≤ N → 1 ≤ n → Met n js → (d : ℕ) × LeastDeadline N js d
      go zero k l m = absurd (omega arith)
      go (suc n) k l m = step (met_dec n) (dec_lt 0 n) (λ i p. go n (omega arith) i p)
        where
          step : Dec (Met n js) → Dec (0 < n) → (1 ≤ n → Met n js → (d : ℕ) × LeastDeadline N js d) → (d : ℕ) × LeastDeadline N js d
          step (yes p) (yes q) ih = ih q p
          step (yes p) (no q) ih = (suc n, turn_least N n k (λ i x. q i) m)
          step (no p) q ih = (suc n, turn_least N n k (λ i x. p x) m)
