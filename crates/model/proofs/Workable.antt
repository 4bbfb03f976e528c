-- Workable, told by the jobs in away order: the away ones meet D, and the busy total is at most D. And the tie rule is the order of the masks.
-- Assumes nothing.
use mathlib.Core.Path.{◌≡◌, refl, sym, ap, subst, ◌∙◌}
use mathlib.Core.Bool.{Bool, true, false, cond}
use mathlib.Core.List.Permᴰ
use mathlib.Core.List.{List, [], ◌∷◌, ◌++◌, map, reverse, reverse-cons, reverse-reverse}
use Prim.Native.Nat.{ℕ, suc, ◌+◌, ◌^◌, ◌≤◌, ◌<◌}
use native.Mathlib.Omega.{arith}
use native.Mathlib.Nat.{add_assoc, add-zero}
use lib.Dec.{T}
use lib.ListN.{length}
use Rattle.model.specs.Lists.{All, filter, total}
use Rattle.model.specs.Timetable.{here, setup_time, Chosen, Allowed, span, wait}
use Rattle.model.specs.FreeOrder.{back, away_order, is_away, Fits, Workable, busy, Keeps}
use Rattle.model.specs.Recurrence.{mask}
use Rattle.model.proofs.Lists.{clash, all_passed}
use Rattle.model.proofs.Permutations.{total_perm, total_append}
use Rattle.model.proofs.PlanOrder.{perm_plan, wait_here}
use Rattle.model.proofs.Rows.{setup_part, Feasible}
use Rattle.model.proofs.Columns.{setups_le}

fits_split : (D t : ℕ) (xs ys : List Chosen) → Fits D t (xs ++ ys) → Fits D t xs × Fits D (t + total span xs) ys
fits_split D t [] ys f = (tt, rw add-zero f)
fits_split D t (x ∷ xs) ys f =
    let r = fits_split D (t + span x) xs ys f.1 in
    ((f.0, r.0), subst (λ (u : ℕ). Fits D u ys) (add_assoc t (span x) (total span xs)) r.1)

fits_join : (D t : ℕ) (xs ys : List Chosen) → Fits D t xs → Fits D (t + total span xs) ys → Fits D t (xs ++ ys)
fits_join D t [] ys f g = rw add-zero at g
fits_join D t (x ∷ xs) ys f g = (f.0, fits_join D (t + span x) xs ys f.1 (subst (λ (u : ℕ). Fits D u ys) (sym (add_assoc t (span x) (total span xs))) g))

pub filter_append : (f : Chosen → Bool) (xs ys : List Chosen) → filter f (xs ++ ys) ≡ filter f xs ++ filter f ys
filter_append f [] ys = refl
filter_append f (x ∷ xs) ys = step (f x) (filter_append f xs ys)
  where
    step : (b : Bool) → filter f (xs ++ ys) ≡ filter f xs ++ filter f ys
        → cond b (x ∷ filter f (xs ++ ys)) (filter f (xs ++ ys)) ≡ cond b (x ∷ filter f xs) (filter f xs) ++ filter f ys
    step true e = ap (λ (l : List Chosen). x ∷ l) e
    step false e = e

-- an away job's span and wait
away_parts : (c : Chosen) → c.away ≡ true → (span c ≡ setup_part c) × (wait c ≡ back c)
away_parts c e = step c.away e
  where
    step : (w : Bool) → w ≡ true → (cond w (setup_time c.job) c.job.local ≡ cond w (setup_time c.job) 0) × (cond w (back c) 0 ≡ back c)
    step true e = (refl, refl)
    step false e = clash (cc)

setups_away : (xs : List Chosen) → total span (filter is_away xs) ≡ total setup_part xs
setups_away [] = refl
setups_away (x ∷ xs) = step x.away refl (setups_away xs)
  where
    step : (w : Bool) → x.away ≡ w → total span (filter is_away xs) ≡ total setup_part xs
        → total span (cond w (x ∷ filter is_away xs) (filter is_away xs)) ≡ setup_part x + total setup_part xs
    step true e ih = omega (arith, (away_parts x e).0)
    step false e ih = omega (arith, zero)
      where
        zero : setup_part x ≡ 0
        zero = ap (λ (u : Bool). cond u (setup_time x.job) 0) e

setups_reverse : (xs : List Chosen) → total span (filter is_away (reverse xs)) ≡ total setup_part xs
setups_reverse xs = setups_away (reverse xs) ∙ total_perm setup_part (Permᴰ.reverse xs)

module _ (D : ℕ) where
  split_last : (x : Chosen) (xs : List Chosen) → filter is_away (reverse (x ∷ xs)) ≡ filter is_away (reverse xs) ++ filter is_away (x ∷ [])
  split_last x xs = ap (filter is_away) (reverse-cons x xs) ∙ filter_append is_away (reverse xs) (x ∷ [])

  feasible_fits : (xs : List Chosen) → Feasible D xs → Fits D 0 (filter is_away (reverse xs))
  feasible_fits [] f = tt
  feasible_fits (x ∷ xs) f =
      subst (Fits D 0) (sym (split_last x xs))
      (fits_join D 0 (filter is_away (reverse xs)) (filter is_away (x ∷ [])) (feasible_fits xs f.1) (step x.away refl))
    where
      step : (w : Bool) → x.away ≡ w → Fits D (0 + total span (filter is_away (reverse xs))) (cond w (x ∷ []) [])
      step true e = (omega (arith, away_parts x e, setups_reverse xs, f.0 (subst T (sym e) tt)), tt)
      step false e = tt

  fits_feasible : (xs : List Chosen) → Fits D 0 (filter is_away (reverse xs)) → Feasible D xs
  fits_feasible [] f = tt
  fits_feasible (x ∷ xs) f =
      let r = fits_split D 0 (filter is_away (reverse xs)) (filter is_away (x ∷ [])) (subst (Fits D 0) (split_last x xs) f) in
      (step x.away refl r.1, fits_feasible xs r.0)
    where
      step : (w : Bool) → x.away ≡ w → Fits D (0 + total span (filter is_away (reverse xs))) (cond w (x ∷ []) []) → T x.away
          → setup_part x + total setup_part xs + back x ≤ D
      step true e g t = omega (arith, away_parts x e, setups_reverse xs, g.0)
      step false e g t = absurd (subst T e t)

  here_fits : (t : ℕ) (xs : List Chosen) → All (λ (c : Chosen). T (here c)) xs → t + total span xs ≤ D → Fits D t xs
  here_fits t [] a h = tt
  here_fits t (x ∷ xs) a h = (omega (arith, wait_here x a.0), here_fits (t + span x) xs a.1 (omega arith))

  -- jobs that are on time back to back end their last span by D
  pub fits_sum : (t : ℕ) (xs : List Chosen) → t ≤ D → Fits D t xs → t + total span xs ≤ D
  fits_sum t [] h f = omega arith
  fits_sum t (x ∷ xs) h f = omega (arith, fits_sum (t + span x) xs (omega (arith, f.0)) f.1)

  -- workable: the away jobs meet D, and all together take at most D
  module _ (cs : List Chosen) (a : All Allowed cs) where
    away_again : filter is_away (reverse (reverse (away_order cs))) ≡ filter is_away (away_order cs)
    away_again = ap (filter is_away) (reverse-reverse (away_order cs))

    plan_sum : total setup_part (reverse (away_order cs)) + total span (filter here cs) ≡ busy cs
    plan_sum =
        omega (
          arith,
          total_perm span (perm_plan cs a),
          total_append span (filter is_away (away_order cs)) (filter here cs),
          setups_away (away_order cs),
          total_perm setup_part (Permᴰ.reverse (away_order cs)),
        )

    pub workable_feasible : Workable D cs → Feasible D (reverse (away_order cs)) × (busy cs ≤ D)
    workable_feasible w =
        let r = fits_split D 0 (filter is_away (away_order cs)) (filter here cs) w in
        let f : Feasible D (reverse (away_order cs)) = fits_feasible (reverse (away_order cs)) (subst (Fits D 0) (sym away_again) r.0) in (
          f,
          omega (
            arith,
            plan_sum,
            setups_away (away_order cs),
            total_perm setup_part (Permᴰ.reverse (away_order cs)),
            fits_sum (0 + total span (filter is_away (away_order cs))) (filter here cs)
                (omega (
                  arith,
                  setups_away (away_order cs),
                  total_perm setup_part (Permᴰ.reverse (away_order cs)),
                  setups_le D [] 0 (reverse (away_order cs)) f,
                )) r.1,
          ),
        )

    pub feasible_workable : Feasible D (reverse (away_order cs)) → busy cs ≤ D → Workable D cs
    feasible_workable f h =
        fits_join D 0 (filter is_away (away_order cs)) (filter here cs) (subst (Fits D 0) away_again (feasible_fits (reverse (away_order cs)) f))
        (here_fits (0 + total span (filter is_away (away_order cs))) (filter here cs) (all_passed here cs)
        (omega (arith, plan_sum, setups_away (away_order cs), total_perm setup_part (Permᴰ.reverse (away_order cs)))))

-- The tie rule is the order of the masks.

abbrev flags : List Chosen → List Bool
flags xs = map is_away xs

pub mask_lt : (xs : List Chosen) → mask xs < 2 ^ length xs
mask_lt [] = omega arith
mask_lt (x ∷ xs) = step x.away (mask_lt xs)
  where
    step : (w : Bool) → mask xs < 2 ^ length xs → cond w (2 ^ length xs) 0 + mask xs < 2 ^ suc (length xs)
    step true h = omega arith
    step false h = omega arith

pub keeps_mask : (xs ys : List Chosen) → length xs ≡ length ys → Keeps (flags xs) (flags ys) → mask xs ≤ mask ys
keeps_mask [] ys e k = omega arith
keeps_mask (x ∷ xs) [] e k = absurd (omega arith)
keeps_mask (x ∷ xs) (y ∷ ys) e k = step x.away y.away k (λ l. keeps_mask xs ys (omega arith) l)
  where
    same : 2 ^ length xs ≡ 2 ^ length ys
    same = let q : length xs ≡ length ys = omega arith in ap (λ (n : ℕ). 2 ^ n) q

    step : (a b : Bool) → Keeps (a ∷ flags xs) (b ∷ flags ys) → (Keeps (flags xs) (flags ys) → mask xs ≤ mask ys)
        → cond a (2 ^ length xs) 0 + mask xs ≤ cond b (2 ^ length ys) 0 + mask ys
    step true true k ih = omega (arith, same, ih k)
    step false false k ih = omega (arith, ih k)
    step false true k ih = omega (arith, same, mask_lt xs)
    step true false k ih = absurd k

pub mask_keeps : (xs ys : List Chosen) → length xs ≡ length ys → mask xs ≤ mask ys → Keeps (flags xs) (flags ys)
mask_keeps [] ys e h = tt
mask_keeps (x ∷ xs) [] e h = tt
mask_keeps (x ∷ xs) (y ∷ ys) e h = step x.away y.away h (λ l. mask_keeps xs ys (omega arith) l)
  where
    same : 2 ^ length xs ≡ 2 ^ length ys
    same = let q : length xs ≡ length ys = omega arith in ap (λ (n : ℕ). 2 ^ n) q

    step : (a b : Bool) → cond a (2 ^ length xs) 0 + mask xs ≤ cond b (2 ^ length ys) 0 + mask ys → (mask xs ≤ mask ys → Keeps (flags xs) (flags ys))
        → Keeps (a ∷ flags xs) (b ∷ flags ys)
    step true true h ih = ih (omega (arith, same))
    step false false h ih = ih (omega arith)
    step false true h ih = tt
    step true false h ih = absurd (omega (arith, same, mask_lt ys))

pub keeps_antisym : (xs ys : List Bool) → length xs ≡ length ys → Keeps xs ys → Keeps ys xs → xs ≡ ys
keeps_antisym [] [] e h k = refl
keeps_antisym [] (y ∷ ys) e h k = clash (omega arith)
keeps_antisym (x ∷ xs) [] e h k = clash (omega arith)
keeps_antisym (true ∷ xs) (true ∷ ys) e h k = ap (λ (l : List Bool). true ∷ l) (keeps_antisym xs ys (omega arith) h k)
keeps_antisym (true ∷ xs) (false ∷ ys) e h k = absurd h
keeps_antisym (false ∷ xs) (true ∷ ys) e h k = absurd k
keeps_antisym (false ∷ xs) (false ∷ ys) e h k = ap (λ (l : List Bool). false ∷ l) (keeps_antisym xs ys (omega arith) h k)
