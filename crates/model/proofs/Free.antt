-- What the free-order planner finds is the plan of the one best choice, and it finds none exactly when no timetable meets D.
-- Assumes nothing.
use mathlib.Core.Path.{◌≡◌, refl, sym, ap, subst, ◌∙◌}
use mathlib.Core.Logic.{◌↔◌}
use mathlib.Core.Bool.{Bool, true, false, false≢true}
use mathlib.Core.List.{List, [], ◌∷◌, reverse}
use Rattle.std.specs.Prelude.{None, Some}
use Prim.Native.Nat.{ℕ, zero, suc, ◌^◌, ◌≤◌, ◌<◌}
use native.Mathlib.Omega.{arith}
use native.Mathlib.Decide.{ℕ_discrete, dec_lt}
use lib.Dec.{T}
use lib.ListN.{length, get_or, set, replicate, length-map, length-reverse, length-replicate, get_or-replicate, get_or-eq_default}
use lib.Seq.{get_or-set_other}
use Rattle.model.specs.declared.Job.{Job}
use Rattle.model.specs.Lists.{All}
use Rattle.model.specs.Timetable.{Chosen, Met}
use Rattle.model.specs.FreeOrder.{Choice, away_order, plan, busy, Best}
use Rattle.model.specs.Recurrence.{Cell, empty, cell, answer, mask_of}
use Rattle.model.specs.Positions.{no_choice, can_go_at, positions, digits, marked, choice_of, plan_found, free}
use Rattle.model.proofs.Lists.{clash, all_map}
use Rattle.model.proofs.Workable.{mask_lt}
use Rattle.model.proofs.Best.{answer_best, best_by_mask, none_iff_no_timetable, best_unique}
use Rattle.model.proofs.Positions.{order_positions, positions_distinct, positions_below, positions_either}
use Rattle.model.proofs.Flags.{marked_read, choose_choice, choose_mask}

-- a flag is set only at a position, or where it was set before
marked_only : (P : ℕ → Type 0) (is : List ℕ) (bs fs : List Bool) → All P is → ((i : ℕ) → get_or fs i false ≡ true → P i)
    → (i : ℕ) → get_or (marked is bs fs) i false ≡ true → P i
marked_only P [] bs fs a f i e = f i e
marked_only P (k ∷ is) [] fs a f i e = f i e
marked_only P (k ∷ is) (b ∷ bs) fs a f i e = marked_only P is bs (set fs k b) a.1 (λ m g. before m (ℕ_discrete m k) g) i e
  where
    before : (m : ℕ) → Dec (m ≡ k) → get_or (set fs k b) m false ≡ true → P m
    before m (yes q) g = subst P (sym q) a.0
    before m (no n) g = f m (sym (get_or-set_other fs k m b false n) ∙ g)

no_flag : (n i : ℕ) → get_or (replicate n false) i false ≡ true → ⊥
no_flag n i e = step (dec_lt i n)
  where
    step : Dec (i < n) → ⊥
    step (yes h) = false≢true (sym (get_or-replicate n i false false h) ∙ e)
    step (no h) = false≢true (sym (get_or-eq_default (replicate n false) false (omega (arith, length-replicate n false))) ∙ e)

digits_length : (n m : ℕ) → length (digits n m) ≡ n
digits_length zero m = refl
digits_length (suc n) m = ap suc (digits_length n _)

-- the mask of a choice has as many digits as there are either jobs
pub mask_short : (js : List Job) (m : ℕ) (cs : List Chosen) → Choice js cs → mask_of cs ≡ m → m < 2 ^ length (positions js)
mask_short js m cs c q =
    let n : length (reverse (away_order cs)) ≡ length (positions js) =
    length-reverse (away_order cs) ∙ ap length (order_positions js cs c) ∙ length-map (positions js) (λ (i : ℕ). get_or cs i no_choice) in
    omega (arith, mask_lt (reverse (away_order cs)), ap (λ (k : ℕ). 2 ^ k) n)

module _ (room : ℕ) (js : List Job) (fits : length js ≤ room) where
  -- a mask of as many digits as there are either jobs stands for a choice, whose mask it is
  pub mask_choice : (m : ℕ) → m < 2 ^ length (positions js) → Choice js (choice_of room js m) × (mask_of (choice_of room js m) ≡ m)
  mask_choice m h = (
    choose_choice js flags goes,
    choose_mask js flags m goes
        (marked_read (positions js) (digits (length (positions js)) m) (replicate room false)
        (sym (digits_length (length (positions js)) m)) (positions_distinct js)
        (all_map (λ (i : ℕ) (l : i < length js). omega (arith, length-replicate room false)) (positions js) (positions_below js))) h,
  )
    where
      flags : List Bool
      flags = marked (positions js) (digits (length (positions js)) m) (replicate room false)

      goes : (i : ℕ) → get_or flags i false ≡ true → T (can_go_at js i)
      goes i e =
          marked_only (λ (k : ℕ). T (can_go_at js k)) (positions js) (digits (length (positions js)) m) (replicate room false) (positions_either js)
          (λ k g. absurd (no_flag room k g)) i e

  module _ (D : ℕ) where
    -- the answer's mask stands for the best choice
    pub answer_choice : (a m : ℕ) → answer D js ≡ cell a m → Best D js (choice_of room js m) × (busy (choice_of room js m) ≡ a)
    answer_choice a m e =
        let r = answer_best D js a m e in
        let short : m < 2 ^ length (positions js) = mask_short js m r.0 r.1.choice r.3 in
        let c = mask_choice m short in
        let b : Best D js (choice_of room js m) = best_by_mask D js a m (choice_of room js m) e c.0 c.1 in
        (b, ap busy (best_unique D js (choice_of room js m) r.0 b r.1) ∙ r.2)

    -- what is found is the plan of the best choice
    pub free_best : (xs : List Chosen) → free room D js ≡ Some xs → (cs : List Chosen) × Best D js cs × (xs ≡ plan cs)
    free_best xs e = step (answer D js) refl e
      where
        step : (c : Cell) → answer D js ≡ c → plan_found room js c ≡ Some xs → (cs : List Chosen) × Best D js cs × (xs ≡ plan cs)
        step empty q f = clash (cc)
        step (cell a m) q f = (choice_of room js m, (answer_choice a m q).0, (cc))

    -- and none is found exactly when no timetable meets D
    pub free_none_iff : (free room D js ≡ None) ↔ ¬ (Met D js)
    free_none_iff = (λ e. (none_iff_no_timetable D js).0 (back (answer D js) refl e), λ n. ap (plan_found room js) ((none_iff_no_timetable D js).1 n))
      where
        back : (c : Cell) → answer D js ≡ c → plan_found room js c ≡ None → answer D js ≡ empty
        back empty q f = q
        back (cell a m) q f = clash (cc)
