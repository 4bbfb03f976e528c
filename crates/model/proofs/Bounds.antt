-- What a planner's machine numbers need: bounds of the cells and of a sum of spans, and a step that compares totals alone.
-- And a plan fits by D exactly when its last finish is at most D.
-- Assumes nothing.
use mathlib.Core.Path.{◌≡◌, refl, ap, subst}
use mathlib.Core.Logic.{◌↔◌}
use mathlib.Core.Bool.{Bool, true, false, cond, ◌&&◌, ◌||◌}
use mathlib.Core.List.{List, [], ◌∷◌, map}
use Prim.Native.Nat.{ℕ, ◌+◌, ◌*◌, ◌^◌, ◌≤◌, ◌<◌}
use native.Mathlib.Nat.{mul-suc}
use native.Mathlib.Omega.{arith}
use borrow.Author.Tests.{leb-false, ltb-true, ltb-false, eqb-true, eqb-false}
use lib.Dec.{leb, ltb, eqb}
use lib.ListN.{length}
use Rattle.model.specs.declared.Job.{Job}
use Rattle.model.specs.Lists.{All, total}
use Rattle.model.specs.Timetable.{setup_time, return_time, Chosen, span}
use Rattle.model.specs.FreeOrder.{Fits, busy, last_from}
use Rattle.model.specs.Recurrence.{row, Cell, empty, cell, pick, shift, next}
use Rattle.model.proofs.Least.{IsLeast}
use Rattle.model.proofs.Rows.{here_part, Reach, job_count, row_least}
use Rattle.model.proofs.Workable.{mask_lt}

heres_le : (xs : List Chosen) → total here_part xs ≤ total (λ (j : Job). j.local) (map (λ (c : Chosen). c.job) xs)
heres_le [] = omega arith
heres_le (x ∷ xs) = step x.away (heres_le xs)
  where
    step : (w : Bool) → total here_part xs ≤ total (λ (j : Job). j.local) (map (λ (c : Chosen). c.job) xs)
        → cond w 0 x.job.local + total here_part xs ≤ x.job.local + total (λ (j : Job). j.local) (map (λ (c : Chosen). c.job) xs)
    step true h = omega arith
    step false h = omega arith

-- a cell's here total is at most the sum of the local times, and its mask has a bit for each job
pub row_bounds : (D : ℕ) (os : List Job) (t h m : ℕ) → row D os t ≡ cell h m → (h ≤ total (λ (j : Job). j.local) os) × (m < 2 ^ length os)
row_bounds D os t h m e =
    let r : Reach D os t h m = (subst (IsLeast (Reach D os t)) e (row_least D os t)).0 in (
      omega (arith, r.heres, heres_le r.of, ap (total (λ (j : Job). j.local)) r.jobs),
      omega (arith, r.bits, mask_lt r.of, ap (λ (n : ℕ). 2 ^ n) (job_count r.of os r.jobs)),
    )

-- the second only where its total is lower
abbrev pub lower : Cell → Cell → Cell
lower empty d = d
lower (cell a m) empty = cell a m
lower (cell a m) (cell b n) = cond (ltb b a) (cell b n) (cell a m)

pick_lower : (a m b n : ℕ) → m ≤ n → pick (cell a m) (cell b n) ≡ lower (cell a m) (cell b n)
pick_lower a m b n h = step (ltb a b) (eqb a b) (leb m n) (ltb b a) refl refl refl refl
  where
    step : (x y z w : Bool) → ltb a b ≡ x → eqb a b ≡ y → leb m n ≡ z → ltb b a ≡ w
        → cond (x || (y && z)) (cell a m) (cell b n) ≡ cond w (cell b n) (cell a m)
    step true y z true p q r s = absurd (omega (arith, ltb-true a b p, ltb-true b a s))
    step true y z false p q r s = refl
    step false true true true p q r s = absurd (omega (arith, eqb-true a b q, ltb-true b a s))
    step false true true false p q r s = refl
    step false true false w p q r s = absurd (omega (arith, leb-false m n r))
    step false false z true p q r s = refl
    step false false z false p q r s = absurd (omega (arith, ltb-false a b p, ltb-false b a s, eqb-false a b q))

-- where the mask of the kept cell lacks bit j, only the totals are compared
pub next_lower : (D : ℕ) (o : Job) (j t : ℕ) (kept sent : Cell) → ((h m : ℕ) → kept ≡ cell h m → m < 2 ^ j)
    → next D o j t kept sent ≡ lower (shift o.local 0 kept) (cond (leb (setup_time o) t && leb (t + return_time o) D) (shift 0 (2 ^ j) sent) empty)
next_lower D o j t empty sent f = refl
next_lower D o j t (cell a m) sent f = step (leb (setup_time o) t && leb (t + return_time o) D) sent
  where
    step : (b : Bool) (d : Cell) → pick (shift o.local 0 (cell a m)) (cond b (shift 0 (2 ^ j) d) empty)
        ≡ lower (shift o.local 0 (cell a m)) (cond b (shift 0 (2 ^ j) d) empty)
    step true empty = refl
    step true (cell b n) = pick_lower (a + o.local) (m + 0) (b + 0) (n + 2 ^ j) (omega (arith, f a m refl))
    step false d = refl

-- on time exactly when the last finish is at most D
pub fits_last : (D t : ℕ) (cs : List Chosen) → Fits D t cs ↔ (last_from t cs ≤ D)
fits_last D t [] = ((λ f. omega arith), (λ h. tt))
fits_last D t (c ∷ cs) =
    let r = fits_last D (t + span c) cs in
    ((λ f. omega (arith, f.0, r.0 f.1)), (λ h. (omega arith, r.1 (omega arith))))

-- a span is no longer than the times that it may take
pub span_short : (N : ℕ) (c : Chosen) → c.job.local ≤ N → setup_time c.job ≤ N → span c ≤ N
span_short N c l s = step c.away
  where
    step : (w : Bool) → cond w (setup_time c.job) c.job.local ≤ N
    step true = s
    step false = l

-- jobs whose spans are at most N are busy for at most N each
pub spans_short : (N : ℕ) (cs : List Chosen) → All (λ (c : Chosen). span c ≤ N) cs → busy cs ≤ N * length cs
spans_short N [] a = omega arith
spans_short N (c ∷ cs) a = omega (arith, a.0, spans_short N cs a.1, mul-suc N (length cs))
