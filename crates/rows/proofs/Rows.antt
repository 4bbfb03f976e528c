-- The totals and masks hold the recurrence's row: before the first job, and after each job more.
-- Assumes nothing.
use mathlib.Core.Path.{◌≡◌, refl, sym, ap, subst, ◌∙◌}
use mathlib.Core.Logic.{◌⊎◌, inl, inr}
use mathlib.Core.Bool.{Bool, true, false}
use mathlib.Core.List.{List, [], ◌∷◌}
use Prim.Native.Nat.{ℕ, zero, suc, ◌+◌, ◌-◌, ◌^◌, ◌≤◌, ◌<◌}
use native.Mathlib.Omega.{arith}
use native.Mathlib.Nat.{two-pow-succ, pow-le-pow_right}
use borrow.Author.Tests.{leb-true, leb-false, ltb-true, ltb-false}
use lib.Dec.{leb, ltb}
use lib.ListN.{length, get_or, replicate, length-replicate, get_or-replicate}
use Rattle.model.specs.declared.Job.{Job}
use Rattle.model.specs.Timetable.{setup_time, return_time}
use Rattle.model.specs.Recurrence.{cell, row, Holds}
use Rattle.model.proofs.Bounds.{row_bounds}
use Rattle.model.proofs.Held.{next_sent, next_kept}
use Rattle.rows.specs.Rows.{nothing, columns}
use Rattle.rows.specs.Columns.{Fit, Raised, lower, Stepped, Column, Rows}
use Rattle.records.specs.Limits.{largest_time, most_jobs}

-- the same column by other names of its numbers
column_at : {D : ℕ} {os : List Job} {t x y x' y' : ℕ} → x' ≡ x → y' ≡ y → Column D os t x y → Column D os t x' y'
column_at {D} {os} {t} {x} {y} {x'} {y'} p q c = subst (λ (u : ℕ). Column D os t u y') (sym p) (subst (Column D os t x) (sym q) c)

-- before the first job: column 0 has the total 0, and every other stands for nothing
pub rows_start : (D n : ℕ) (ts : List ℕ) → n ≡ columns → D ≤ largest_time → Raised 1 (D + 1) nothing (replicate n zero) ts → Rows D [] ts (replicate n zero)
rows_start D n ts e h k =
    record { total_columns = k.sized; mask_columns = length-replicate n zero ∙ e; each = at; locals = omega arith }
  where
    at : (t : ℕ) → t ≤ D → Column D [] t (get_or ts t 0) (get_or (replicate n zero) t 0)
    at zero l =
        column_at (k.outside 0 (inl (omega arith)) ∙ get_or-replicate n 0 zero 0 (omega arith)) (get_or-replicate n 0 zero 0 (omega arith))
        (record { held = (refl, refl, omega arith); low = omega arith; bits = omega arith })
    at (suc t) l =
        column_at (k.inside (suc t) (omega arith) (omega arith) ∙ ap (λ (x : ℕ). x + nothing) (get_or-replicate n (suc t) zero 0 (omega arith)))
        (get_or-replicate n (suc t) zero 0 (omega arith))
        (record { held = omega arith; low = omega arith; bits = omega arith })

-- what goes with the lower of two totals
lower_sent : (kept sent a b : ℕ) → ltb sent kept ≡ true → lower kept sent a b ≡ b
unfolding lower
lower_sent kept sent a b e = rw e

lower_kept : (kept sent a b : ℕ) → ltb sent kept ≡ false → lower kept sent a b ≡ a
unfolding lower
lower_kept kept sent a b e = rw e

module _ (D : ℕ) (os : List Job) (o : Job) (few : length os < most_jobs) (small : o.local ≤ largest_time) (ts ms : List ℕ) (r : Rows D os ts ms) where
  -- the rows have room for one job more
  pub rows_fit : Fit (D + 1) o.local ts × Fit (D + 1) (2 ^ length os) ms
  rows_fit =
      let l : 2 ^ suc (length os) ≤ 2 ^ 32 = pow-le-pow_right {n = 2} (omega arith) {i = suc (length os)} {j = 32} (omega arith) in (
        (λ t h. omega (arith, (r.each t (omega arith)).low)),
        (λ t h. omega (arith, (r.each t (omega arith)).bits, two-pow-succ (length os))),
      )

  abbrev S : ℕ
  S = setup_time o

  abbrev I : ℕ
  I = return_time o

  abbrev bit : ℕ
  bit = 2 ^ length os

  -- column t with the job kept here, and the column a setup time earlier
  module _ (t : ℕ) (h : t ≤ D) where
    abbrev kept : ℕ
    kept = get_or ts t 0 + o.local

    abbrev sent : ℕ
    sent = get_or ts (t - S) 0

    abbrev sent_mask : ℕ
    sent_mask = get_or ms (t - S) 0

    low : (a m : ℕ) → row D os t ≡ cell a m → (a + o.local < nothing) × (m < bit)
    low a m e = let b = row_bounds D os t a m e in (omega (arith, b.0, r.locals), b.1)

    stays : (t < S) ⊎ ((D < t + I) ⊎ (Holds nothing sent sent_mask (row D os (t - S)) × (kept ≤ sent))) → Column D (o ∷ os) t kept (get_or ms t 0)
    stays w =
        record {
          held =
              next_kept nothing D (length os) t o (get_or ts t 0) (get_or ms t 0) sent sent_mask (row D os t) (row D os (t - S)) (r.each t h).held
              (λ a m e. (low a m e).1) (λ a m e. (low a m e).0) w;
          low = omega (arith, (r.each t h).low);
          bits = omega (arith, (r.each t h).bits, two-pow-succ (length os));
        }

    goes : S ≤ t → t + I ≤ D → sent < kept → Column D (o ∷ os) t sent (sent_mask + bit)
    goes p q l =
        let d = r.each (t - S) (omega arith) in
        record {
          held =
              next_sent nothing D (length os) t o (get_or ts t 0) (get_or ms t 0) sent sent_mask (row D os t) (row D os (t - S)) (r.each t h).held
              (λ a m e. (low a m e).1) (λ a m e. (low a m e).0) d.held p q l;
          low = omega (arith, d.low);
          bits = omega (arith, d.bits, two-pow-succ (length os));
        }

    -- what one job more leaves there is the next row's column
    column_next : (ts' ms' : List ℕ) → Stepped D o bit ts ms ts' ms' → Column D (o ∷ os) t (get_or ts' t 0) (get_or ms' t 0)
    column_next ts' ms' s = by (leb S t) (leb (t + I) D) (ltb sent kept) refl refl refl
      where
        by : (u v w : Bool) → leb S t ≡ u → leb (t + I) D ≡ v → ltb sent kept ≡ w → Column D (o ∷ os) t (get_or ts' t 0) (get_or ms' t 0)
        by true true true p q z =
            let m = s.sent t (leb-true S t p) (leb-true (t + I) D q) in
            column_at (m.0 ∙ lower_sent kept sent kept sent z) (m.1 ∙ lower_sent kept sent (get_or ms t 0) (sent_mask + bit) z)
            (goes (leb-true S t p) (leb-true (t + I) D q) (ltb-true sent kept z))
        by true true false p q z =
            let m = s.sent t (leb-true S t p) (leb-true (t + I) D q) in
            column_at (m.0 ∙ lower_kept kept sent kept sent z) (m.1 ∙ lower_kept kept sent (get_or ms t 0) (sent_mask + bit) z)
            (stays (inr (inr ((r.each (t - S) (omega arith)).held, ltb-false sent kept z))))
        by true false w p q z =
            let l = leb-false (t + I) D q in
            column_at (s.kept t h (inr l)).0 (s.kept t h (inr l)).1 (stays (inr (inl l)))
        by false v w p q z =
            let l = leb-false S t p in
            column_at (s.kept t h (inl l)).0 (s.kept t h (inl l)).1 (stays (inl l))

  pub rows_next : (ts' ms' : List ℕ) → Stepped D o bit ts ms ts' ms' → Rows D (o ∷ os) ts' ms'
  rows_next ts' ms' s =
      record {
        total_columns = s.total_columns;
        mask_columns = s.mask_columns;
        each = λ t h. column_next t h ts' ms' s;
        locals = omega (arith, r.locals);
      }
