-- What the work rows' least total says at a deadline, whether some timetable meets it, and what a bisection over that question keeps.
-- Assumes nothing.
use mathlib.Core.Path.{◌≡◌, refl, ap, subst, ◌∙◌}
use mathlib.Core.List.{List, reverse}
use Prim.Native.Nat.{ℕ, suc, ◌≤◌, ◌<◌, ◌-◌}
use native.Mathlib.Omega.{arith}
use borrow.Author.Tests.{le-leb, lt-leb}
use lib.ListN.{take}
use Rattle.model.specs.declared.Job.{Job}
use Rattle.model.specs.Timetable.{Met}
use Rattle.model.specs.FreeOrder.{LeastDeadline}
use Rattle.model.specs.Recurrence.{Cell, empty, cell, cap, best_below, jobs_in_away_order, base, answer, Holds}
use Rattle.model.proofs.Lists.{clash}
use Rattle.model.proofs.Best.{none_iff_no_timetable}
use Rattle.model.proofs.LeastDeadline.{turn_least, met_dec, met_mono, least_unique}
use Rattle.rows.specs.Rows.{nothing}
use Rattle.records.specs.Limits.{largest_time}
use Rattle.choice.specs.declared.Prepared.{Prepared}
use Rattle.std.specs.Prelude.{Option, None, Some, is_some}
use Rattle.choice.specs.Choices.{prepared_of, OfItsJobs, best_mask_of, IsEarliest, SaysWhether}
use Rattle.choice.proofs.Held.{held_jobs}

mask_of : (d x y : ℕ) (c : Cell) → d ≤ largest_time → Holds nothing x y c → x ≤ d → Some y ≡ best_mask_of (cap d c)
mask_of d x y empty s h l = absurd (omega arith)
mask_of d x y (cell a m) s h l = rw (le-leb a d (omega (arith, h.0))) (ap (λ (y : ℕ). Some y) h.1)

nothing_of : (d x y : ℕ) (c : Cell) → Holds nothing x y c → d < x → None ≡ best_mask_of (cap d c)
nothing_of d x y empty h l = refl
nothing_of d x y (cell a m) h l = rw (lt-leb a d (omega (arith, h.0)))

-- x and y are what the work rows' columns come to
module _ (d x y : ℕ) (p : Prepared) (js jobs : List Job) (held : p ≡ prepared_of js) (asked : jobs ≡ take p.order.count p.jobs)
    (least : Holds nothing x y (best_below d (reverse jobs) p.base (suc d))) where
  abbrev best : Cell
  best = best_below d (reverse (jobs_in_away_order js)) (base js) (suc d)

  is_least : Holds nothing x y best
  is_least =
      subst (λ (l : List Job). Holds nothing x y (best_below d (reverse l) (base js) (suc d))) (asked ∙ held_jobs p js held)
      (subst (λ (b : ℕ). Holds nothing x y (best_below d (reverse jobs) b (suc d))) (ap (λ (q : Prepared). q.base) held) least)

  pub answer_mask : d ≤ largest_time → x ≤ d → Some y ≡ best_mask_of (answer d js)
  answer_mask s l = mask_of d x y best s is_least l

  pub answer_nothing : d < x → None ≡ best_mask_of (answer d js)
  answer_nothing l = nothing_of d x y best is_least l

-- a mask is found exactly where some timetable meets the deadline
pub says_whether : (d : ℕ) (js : List Job) (r : Option ℕ) → r ≡ best_mask_of (answer d js) → SaysWhether (is_some r) (Met d js)
says_whether d js None e = record { yes = λ t. clash (cc); no = λ f. (none_iff_no_timetable d js).0 (step (answer d js) e) }
  where
    step : (c : Cell) → None ≡ best_mask_of c → c ≡ empty
    step empty e = refl
    step (cell a m) e = clash (cc)
says_whether d js (Some m) e = record { yes = λ t. step (met_dec js d); no = λ f. clash (cc) }
  where
    step : Dec (Met d js) → Met d js
    step (yes h) = h
    step (no n) = clash (cc ((none_iff_no_timetable d js).1 n))

-- the least deadline is above `low` and at most `high`
pub record Between (p : Prepared) (low high : ℕ) : Type 0 where
  pub apart : low < high
  pub within : high ≤ largest_time
  pub met : OfItsJobs p (λ (js : List Job). Met high js)
  pub unmet : OfItsJobs p (λ (js : List Job). 1 ≤ low → ¬ (Met low js))

pub closed : (p : Prepared) (low high : ℕ) → Between p low high → high - low ≤ 1 → OfItsJobs p (λ (js : List Job). LeastDeadline largest_time js high)
closed p low high b h js held =
    let n : high ≡ suc low = omega (arith, b.apart) in
    rw n (turn_least js largest_time low (omega (arith, b.within)) (b.unmet js held) (rw n at (b.met js held)))

-- what the bisection may answer is one deadline, or never
pub earliest_settled : (N : ℕ) (js : List Job) (r q : Option ℕ) → IsEarliest N js r → IsEarliest N js q → r ≡ q
earliest_settled N js (Some d) (Some e) h k = ap (λ (d : ℕ). Some d) (least_unique js N d e h k)
earliest_settled N js (Some d) None h k = absurd (k (met_mono js d N h.high h.met))
earliest_settled N js None (Some e) h k = absurd (h (met_mono js e N k.high k.met))
earliest_settled N js None None h k = refl
