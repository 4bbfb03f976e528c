-- The best of one column more: the better of what was found before it and the column with its setup total and the base.
-- Assumes nothing.
use mathlib.Core.Path.{◌≡◌, refl, sym, subst, ◌∙◌}
use mathlib.Core.Logic.{◌⊎◌, inl, inr}
use mathlib.Core.Bool.{Bool, true, false, cond}
use mathlib.Core.List.{List}
use Prim.Native.Nat.{ℕ, suc, ◌+◌, ◌*◌, ◌≤◌, ◌<◌}
use native.Mathlib.Omega.{arith}
use borrow.Author.Tests.{ltb-true, ltb-false, eqb-true, eqb-false}
use lib.Dec.{ltb, eqb}
use Rattle.std.proofs.Common.{Less, Equal, Greater}
use Rattle.std.specs.Ordering.{ord_min, ordering_then, nat_cmp, is_lt}
use lib.ListN.{length, get_or}
use Rattle.model.specs.declared.Job.{Job}
use Rattle.model.specs.Recurrence.{Cell, empty, cell, shift, row, best_below, Holds}
use Rattle.model.proofs.Bounds.{row_bounds}
use Rattle.model.proofs.Held.{shift_held, pick_first, pick_second}
use Rattle.rows.specs.declared.Lowest.{Lowest}
use Rattle.rows.specs.Rows.{nothing}
use Rattle.rows.specs.Columns.{Rows, Single}
use Rattle.records.specs.Limits.{largest_time, most_jobs}

-- of two choices the second where it is lower, at equal totals the one with the smaller mask
abbrev pub Better : Lowest → Lowest → Lowest → Type 0
Better best next r =
    ((r ≡ next) × ((next.total < best.total) ⊎ ((next.total ≡ best.total) × (next.mask < best.mask))))
    ⊎ ((r ≡ best) × ((best.total < next.total) ⊎ ((best.total ≡ next.total) × (best.mask ≤ next.mask))))

-- so is the lesser by the order that is derived
pub better_least : (best next r : Lowest) → r ≡ ord_min (λ a b. ordering_then (nat_cmp a.total b.total) (nat_cmp a.mask b.mask)) best next → Better best next r
better_least best next r e =
    step (ltb next.total best.total) (eqb next.total best.total) (ltb next.mask best.mask) (eqb next.mask best.mask) refl refl refl e
  where
    step : (a b c d : Bool) → ltb next.total best.total ≡ a → eqb next.total best.total ≡ b → ltb next.mask best.mask ≡ c
        → r ≡ cond (is_lt (ordering_then (cond a Less (cond b Equal Greater)) (cond c Less (cond d Equal Greater)))) next best → Better best next r
    step true b c d p q s e = inl (e, inl (ltb-true next.total best.total p))
    step false true true d p q s e = inl (e, inr (eqb-true next.total best.total q, ltb-true next.mask best.mask s))
    step false true false true p q s e = inr (e, inr (sym (eqb-true next.total best.total q), ltb-false next.mask best.mask s))
    step false true false false p q s e = inr (e, inr (sym (eqb-true next.total best.total q), ltb-false next.mask best.mask s))
    step false false c d p q s e =
        inr (e, inl (omega (arith, ltb-false next.total best.total p, eqb-false next.total best.total q)))

-- a choice holds a cell
abbrev pub HeldBy : Cell → Lowest → Type 0
HeldBy c r = Holds nothing r.total r.mask c

pub best_next : (D : ℕ) (os : List Job) (base t : ℕ) (ts ms : List ℕ) (found next r : Lowest) → Rows D os ts ms → length os ≤ most_jobs
    → base ≤ most_jobs * largest_time → D ≤ largest_time → t ≤ D
    → next.total ≡ get_or ts t 0 + t + base → next.mask ≡ get_or ms t 0 → Better found next r
    → Holds nothing found.total found.mask (best_below D os base t) → Holds nothing r.total r.mask (best_below D os base (suc t))
best_next D os base t ts ms found next r w few based deadline h p q better held = pass better
  where
    column : HeldBy (shift (t + base) 0 (row D os t)) next
    column =
        let e : get_or ts t 0 + (t + base) ≡ next.total = omega arith in
        let f : get_or ms t 0 + 0 ≡ next.mask = omega arith in
        subst (λ (x : ℕ). Holds nothing x next.mask (shift (t + base) 0 (row D os t))) e
        (subst (λ (y : ℕ). Holds nothing (get_or ts t 0 + (t + base)) y (shift (t + base) 0 (row D os t))) f
        (shift_held nothing (get_or ts t 0) (get_or ms t 0) (t + base) 0 (row D os t) (w.each t h).held
        (λ a m c. omega (arith, (row_bounds D os t a m c).0, w.locals))))

    pass : Better found next r → HeldBy (best_below D os base (suc t)) r
    pass (inl (e, l)) =
        subst (HeldBy (best_below D os base (suc t))) (sym e)
        (pick_second nothing found.total found.mask next.total next.mask (best_below D os base t) (shift (t + base) 0 (row D os t)) held column l)
    pass (inr (e, l)) =
        subst (HeldBy (best_below D os base (suc t))) (sym e)
        (pick_first nothing found.total found.mask next.total next.mask (best_below D os base t) (shift (t + base) 0 (row D os t)) held column l)

-- of two choices neither of which stands for nothing but as the one choice, the better one does so too
pub single_next : (found next r : Lowest) → Better found next r → Single found → Single r
single_next found next r (inl (e, inl l)) (low, zero) =
    subst Single (sym e) (omega arith, λ n. absurd (omega arith))
single_next found next r (inl (e, inr (t, l))) (low, zero) =
    subst Single (sym e) (omega arith, λ n. absurd (omega (arith, zero (t' n))))
  where
    t' : next.total ≡ nothing → found.total ≡ nothing
    t' n = sym t ∙ n
single_next found next r (inr (e, l)) single = subst Single (sym e) single

lowest_path : (r q : Lowest) → r.total ≡ q.total → r.mask ≡ q.mask → r ≡ q
lowest_path r q e f = λ i. record { total = e i; mask = f i }

-- two choices that hold the same cell so are the same: what the least of all columns is, is settled
pub least_settled : (c : Cell) (r q : Lowest) → Single r × HeldBy c r → Single q × HeldBy c q → r ≡ q
least_settled empty r q ((rl, rz), rh) ((ql, qz), qh) =
    let x : r.total ≡ nothing = omega arith in
    let y : q.total ≡ nothing = omega arith in
    lowest_path r q (x ∙ sym y) (rz x ∙ sym (qz y))
least_settled (cell a m) r q (rs, rh) (qs, qh) = lowest_path r q (rh.0 ∙ sym qh.0) (rh.1 ∙ sym qh.1)
