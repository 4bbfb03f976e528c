-- A column held as two machine numbers, a total of N or more standing for nothing: what the planner's steps leave there.
-- Assumes nothing.
use mathlib.Core.Path.{◌≡◌, refl, sym, subst}
use mathlib.Core.Logic.{◌⊎◌, inl, inr}
use mathlib.Core.Bool.{Bool, true, false, cond, ◌&&◌, ◌||◌}
use Prim.Native.Nat.{ℕ, ◌+◌, ◌^◌, ◌≤◌, ◌<◌}
use native.Mathlib.Omega.{arith}
use borrow.Author.Tests.{leb-true, lt-ltb, le-ltb, le-leb, lt-leb, eq-eqb, ne_eqb}
use lib.Dec.{leb, ltb, eqb}
use Rattle.model.specs.declared.Job.{Job}
use Rattle.model.specs.Timetable.{setup_time, return_time}
use Rattle.model.specs.Recurrence.{Cell, empty, cell, pick, shift, next, Holds}
use Rattle.model.proofs.Bounds.{lower, next_lower}

-- the lesser of two columns, the first where they are equal
pub pick_first : (N x y x' y' : ℕ) (c d : Cell) → Holds N x y c → Holds N x' y' d → (x < x') ⊎ ((x ≡ x') × (y ≤ y')) → Holds N x y (pick c d)
pick_first N x y x' y' empty empty h k l = h
pick_first N x y x' y' empty (cell b n) h k (inl l) = absurd (omega (arith, k))
pick_first N x y x' y' empty (cell b n) h k (inr l) = absurd (omega (arith, k, l))
pick_first N x y x' y' (cell a m) empty h k l = h
pick_first N x y x' y' (cell a m) (cell b n) h k (inl l) =
    subst (λ (t : Bool). Holds N x y (cond (t || (eqb a b && leb m n)) (cell a m) (cell b n))) (sym (lt-ltb a b (omega (arith, h, k)))) h
pick_first N x y x' y' (cell a m) (cell b n) h k (inr l) =
    let p : ltb a b ≡ false = le-ltb a b (omega (arith, h, k, l)) in
    let q : eqb a b ≡ true = eq-eqb a b (omega (arith, h, k, l)) in
    let r : leb m n ≡ true = le-leb m n (omega (arith, h, k, l)) in
    let e : (ltb a b || (eqb a b && leb m n)) ≡ true = cc in
    subst (λ (t : Bool). Holds N x y (cond t (cell a m) (cell b n))) (sym e) h

pub pick_second : (N x y x' y' : ℕ) (c d : Cell) → Holds N x y c → Holds N x' y' d → (x' < x) ⊎ ((x' ≡ x) × (y' < y)) → Holds N x' y' (pick c d)
pick_second N x y x' y' empty empty h k l = k
pick_second N x y x' y' empty (cell b n) h k l = k
pick_second N x y x' y' (cell a m) empty h k (inl l) = absurd (omega (arith, h, k))
pick_second N x y x' y' (cell a m) empty h k (inr l) = absurd (omega (arith, h, k, l))
pick_second N x y x' y' (cell a m) (cell b n) h k (inl l) =
    let p : ltb a b ≡ false = le-ltb a b (omega (arith, h, k)) in
    let q : eqb a b ≡ false = ne_eqb a b (λ (e : a ≡ b). omega (arith, h, k)) in
    let e : (ltb a b || (eqb a b && leb m n)) ≡ false = cc in
    subst (λ (t : Bool). Holds N x' y' (cond t (cell a m) (cell b n))) (sym e) k
pick_second N x y x' y' (cell a m) (cell b n) h k (inr l) =
    let p : ltb a b ≡ false = le-ltb a b (omega (arith, h, k, l)) in
    let q : eqb a b ≡ true = eq-eqb a b (omega (arith, h, k, l)) in
    let r : leb m n ≡ false = lt-leb m n (omega (arith, h, k, l)) in
    let e : (ltb a b || (eqb a b && leb m n)) ≡ false = cc in
    subst (λ (t : Bool). Holds N x' y' (cond t (cell a m) (cell b n))) (sym e) k

lower_first : (N x y x' y' : ℕ) (c d : Cell) → Holds N x y c → Holds N x' y' d → x ≤ x' → Holds N x y (lower c d)
lower_first N x y x' y' empty empty h k l = h
lower_first N x y x' y' empty (cell b n) h k l = absurd (omega (arith, k))
lower_first N x y x' y' (cell a m) empty h k l = h
lower_first N x y x' y' (cell a m) (cell b n) h k l =
    subst (λ (t : Bool). Holds N x y (cond t (cell b n) (cell a m))) (sym (le-ltb b a (omega (arith, h, k)))) h

lower_second : (N x y x' y' : ℕ) (c d : Cell) → Holds N x y c → Holds N x' y' d → x' < x → Holds N x' y' (lower c d)
lower_second N x y x' y' empty d h k l = k
lower_second N x y x' y' (cell a m) empty h k l = absurd (omega (arith, h, k))
lower_second N x y x' y' (cell a m) (cell b n) h k l =
    subst (λ (t : Bool). Holds N x' y' (cond t (cell b n) (cell a m))) (sym (lt-ltb b a (omega (arith, h, k)))) k

lower_nothing : (N x y : ℕ) (c : Cell) → Holds N x y c → Holds N x y (lower c empty)
lower_nothing N x y empty h = h
lower_nothing N x y (cell a m) h = h

-- C more in total and B more in the mask: nothing stays nothing
pub shift_held : (N x y C B : ℕ) (c : Cell) → Holds N x y c → ((a m : ℕ) → c ≡ cell a m → a + C < N) → Holds N (x + C) (y + B) (shift C B c)
shift_held N x y C B empty h f = omega (arith, h)
shift_held N x y C B (cell a m) h f = (omega (arith, h), omega (arith, h), f a m refl)

same_total : (N x y : ℕ) (c : Cell) → Holds N x y c → (a m : ℕ) → c ≡ cell a m → a + 0 < N
same_total N x y empty h a m e = let z : ◌≡◌ {A = ℕ} 0 1 = cc in absurd (omega arith)
same_total N x y (cell b n) h a m e = let q : b ≡ a = cc in omega (arith, h)

module _ (N D j t : ℕ) (o : Job) where
  abbrev S : ℕ
  S = setup_time o

  abbrev I : ℕ
  I = return_time o

  -- one job more at a column: x and y hold it before, x' and y' hold the column S earlier
  module _ (x y x' y' : ℕ) (kept sent : Cell) (h : Holds N x y kept) (bits : (a m : ℕ) → kept ≡ cell a m → m < 2 ^ j)
      (small : (a m : ℕ) → kept ≡ cell a m → a + o.local < N) where
    here_held : Holds N (x + o.local) y (shift o.local 0 kept)
    here_held =
        let e : y + 0 ≡ y = omega arith in
        subst (λ (u : ℕ). Holds N (x + o.local) u (shift o.local 0 kept)) e (shift_held N x y o.local 0 kept h small)

    away_held : Holds N x' y' sent → Holds N x' (y' + 2 ^ j) (shift 0 (2 ^ j) sent)
    away_held k =
        let e : x' + 0 ≡ x' = omega arith in
        subst (λ (u : ℕ). Holds N u (y' + 2 ^ j) (shift 0 (2 ^ j) sent)) e (shift_held N x' y' 0 (2 ^ j) sent k (same_total N x' y' sent k))

    -- sent away: there is room, and the total is lower than what keeping it here gives
    pub next_sent : Holds N x' y' sent → S ≤ t → t + I ≤ D → x' < x + o.local → Holds N x' (y' + 2 ^ j) (next D o j t kept sent)
    next_sent k r s l =
        let e : (leb S t && leb (t + I) D) ≡ true = both (leb S t) (leb (t + I) D) (le-leb S t r) (le-leb (t + I) D s) in
        subst (Holds N x' (y' + 2 ^ j)) (sym (next_lower D o j t kept sent bits))
        (lower_second N (x + o.local) y x' (y' + 2 ^ j) (shift o.local 0 kept) (cond (leb S t && leb (t + I) D) (shift 0 (2 ^ j) sent) empty) here_held
        (subst (λ (u : Bool). Holds N x' (y' + 2 ^ j) (cond u (shift 0 (2 ^ j) sent) empty)) (sym e) (away_held k)) l)
      where
        both : (u v : Bool) → u ≡ true → v ≡ true → (u && v) ≡ true
        both u v p q = cc

    -- kept here: there is no room, or the total is not lower
    pub next_kept : (t < S) ⊎ ((D < t + I) ⊎ (Holds N x' y' sent × (x + o.local ≤ x'))) → Holds N (x + o.local) y (next D o j t kept sent)
    next_kept c =
        subst (Holds N (x + o.local) y) (sym (next_lower D o j t kept sent bits)) (case (leb S t) (leb (t + I) D) refl refl c)
      where
        case : (u v : Bool) → leb S t ≡ u → leb (t + I) D ≡ v → (t < S) ⊎ ((D < t + I) ⊎ (Holds N x' y' sent × (x + o.local ≤ x')))
            → Holds N (x + o.local) y (lower (shift o.local 0 kept) (cond (u && v) (shift 0 (2 ^ j) sent) empty))
        case true true e g (inl q) = absurd (omega (arith, leb-true S t e))
        case true true e g (inr (inl q)) = absurd (omega (arith, leb-true (t + I) D g))
        case true true e g (inr (inr q)) =
            lower_first N (x + o.local) y x' (y' + 2 ^ j) (shift o.local 0 kept) (shift 0 (2 ^ j) sent) here_held (away_held q.0) q.1
        case true false e g c = lower_nothing N (x + o.local) y (shift o.local 0 kept) here_held
        case false v e g c = lower_nothing N (x + o.local) y (shift o.local 0 kept) here_held
