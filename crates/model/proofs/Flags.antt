-- A choice as flags by table position, and its mask: bit k is the flag at the k-th position in away order.
-- Assumes nothing.
use mathlib.Core.Path.{◌≡◌, refl, sym, ap, subst, ◌∙◌}
use mathlib.Core.Bool.{Bool, true, false, cond, not, ◌||◌, false≢true}
use mathlib.Core.List.{List, [], ◌∷◌, ◌++◌, map, reverse, reverse-cons}
use Prim.Native.Nat.{ℕ, zero, suc, ◌+◌, ◌*◌, ◌^◌, ◌/◌, ◌%◌, ◌<◌}
use native.Mathlib.Omega.{arith}
use borrow.Author.Tests.{eqb-true, eqb-false}
use lib.Dec.{T, eqb}
use lib.ListN.{length, get_or, set, length-append}
use lib.Seq.{get_or-set_same, get_or-set_other, lt-length-set}
use Rattle.model.specs.declared.Job.{Job}
use Rattle.model.specs.Lists.{All, Pairwise}
use Rattle.model.specs.Timetable.{is_either, Chosen, Allowed}
use Rattle.model.specs.FreeOrder.{Choice, away_order}
use Rattle.model.specs.Recurrence.{mask, mask_of}
use Rattle.model.specs.Positions.{no_choice, can_go_at, positions, of_digits, digits, marked, choose}
use Rattle.model.proofs.Lists.{all_map}
use Rattle.model.proofs.Positions.{order_positions, positions_below}

mask_snoc : (xs : List Chosen) (x : Chosen) → mask (xs ++ (x ∷ [])) ≡ cond x.away 1 0 + 2 * mask xs
mask_snoc [] x = refl
mask_snoc (y ∷ xs) x = step y.away (mask_snoc xs x)
  where
    more : 2 ^ length (xs ++ (x ∷ [])) ≡ 2 ^ suc (length xs)
    more = let n : length (xs ++ (x ∷ [])) ≡ suc (length xs) = omega (arith, length-append xs (x ∷ [])) in ap (λ (k : ℕ). 2 ^ k) n

    step : (w : Bool) → mask (xs ++ (x ∷ [])) ≡ cond x.away 1 0 + 2 * mask xs
        → cond w (2 ^ length (xs ++ (x ∷ []))) 0 + mask (xs ++ (x ∷ [])) ≡ cond x.away 1 0 + 2 * (cond w (2 ^ length xs) 0 + mask xs)
    step true e = omega (arith, more)
    step false e = omega arith

mask_reverse : (xs : List Chosen) → mask (reverse xs) ≡ of_digits (map (λ (c : Chosen). c.away) xs)
mask_reverse [] = refl
mask_reverse (x ∷ xs) = ap mask (reverse-cons x xs) ∙ mask_snoc (reverse xs) x ∙ ap (λ (n : ℕ). cond x.away 1 0 + 2 * n) (mask_reverse xs)

-- the mask of a choice, by table positions
pub mask_positions : (js : List Job) (cs : List Chosen) → Choice js cs → mask_of cs ≡ of_digits (map (λ (i : ℕ). (get_or cs i no_choice).away) (positions js))
mask_positions js cs c =
    mask_reverse (away_order cs) ∙ ap (λ (l : List Chosen). of_digits (map (λ (x : Chosen). x.away) l)) (order_positions js cs c)
    ∙ ap of_digits (map_map (positions js))
  where
    map_map : (is : List ℕ) → map (λ (x : Chosen). x.away) (map (λ (i : ℕ). get_or cs i no_choice) is) ≡ map (λ (i : ℕ). (get_or cs i no_choice).away) is
    map_map [] = refl
    map_map (i ∷ is) = ap (λ (l : List Bool). (get_or cs i no_choice).away ∷ l) (map_map is)

pub of_digits_lem : (n m : ℕ) → m < 2 ^ n → of_digits (digits n m) ≡ m
of_digits_lem zero m h = omega arith
of_digits_lem (suc n) m h = step (eqb (m % 2) 1) refl (of_digits_lem n (m / 2) (omega arith))
  where
    step : (b : Bool) → eqb (m % 2) 1 ≡ b → of_digits (digits n (m / 2)) ≡ m / 2 → cond b 1 0 + 2 * of_digits (digits n (m / 2)) ≡ m
    step true e h = omega (arith, eqb-true (m % 2) 1 e)
    step false e h = omega (arith, eqb-false (m % 2) 1 e)

marked_other : (is : List ℕ) (bs fs : List Bool) (i : ℕ) → All (λ (k : ℕ). ¬ (i ≡ k)) is → get_or (marked is bs fs) i false ≡ get_or fs i false
marked_other [] bs fs i h = refl
marked_other (k ∷ is) [] fs i h = refl
marked_other (k ∷ is) (b ∷ bs) fs i h = marked_other is bs (set fs k b) i h.1 ∙ get_or-set_other fs k i b false h.0

-- distinct positions read back what was written
pub marked_read : (is : List ℕ) (bs fs : List Bool) → length is ≡ length bs → Pairwise (λ (i k : ℕ). ¬ (i ≡ k)) is → All (λ (i : ℕ). i < length fs) is
    → map (λ (i : ℕ). get_or (marked is bs fs) i false) is ≡ bs
marked_read [] [] fs e d h = refl
marked_read [] (b ∷ bs) fs e d h = absurd (omega arith)
marked_read (i ∷ is) [] fs e d h = absurd (omega arith)
marked_read (i ∷ is) (b ∷ bs) fs e d h =
    let p : get_or (marked is bs (set fs i b)) i false ≡ b = marked_other is bs (set fs i b) i d.0 ∙ get_or-set_same fs i b false h.0 in
    let q : map (λ (k : ℕ). get_or (marked is bs (set fs i b)) k false) is ≡ bs =
    marked_read is bs (set fs i b) (omega arith) d.1 (all_map (λ (k : ℕ) (l : k < length fs). lt-length-set fs i b l) is h.1) in
    cc

pub choose_jobs : (js : List Job) (fs : List Bool) → map (λ (c : Chosen). c.job) (choose js fs) ≡ js
choose_jobs [] fs = refl
choose_jobs (j ∷ js) [] = ap (λ (l : List Job). j ∷ l) (choose_jobs js [])
choose_jobs (j ∷ js) (f ∷ fs) = ap (λ (l : List Job). j ∷ l) (choose_jobs js fs)

either_here : (b : Bool) → T (b || true)
either_here true = tt
either_here false = tt

choose_allowed : (js : List Job) (fs : List Bool) → ((i : ℕ) → get_or fs i false ≡ true → T (can_go_at js i)) → All Allowed (choose js fs)
choose_allowed [] fs h = tt
choose_allowed (j ∷ js) [] h = (either_here (is_either j), choose_allowed js [] (λ i e. absurd (false≢true e)))
choose_allowed (j ∷ js) (f ∷ fs) h = (step f (h 0), choose_allowed js fs (λ i e. h (suc i) e))
  where
    step : (w : Bool) → (w ≡ true → T (is_either j)) → T (is_either j || not w)
    step true g = subst T (sym (or_false (is_either j))) (g refl)
      where
        or_false : (b : Bool) → (b || false) ≡ b
        or_false true = refl
        or_false false = refl
    step false g = either_here (is_either j)

-- flags that are set at either jobs alone make a choice of the table
pub choose_choice : (js : List Job) (fs : List Bool) → ((i : ℕ) → get_or fs i false ≡ true → T (can_go_at js i)) → Choice js (choose js fs)
choose_choice js fs h = record { each = choose_jobs js fs; allowed = choose_allowed js fs h }

pub choose_away : (js : List Job) (fs : List Bool) (i : ℕ) → i < length js → (get_or (choose js fs) i no_choice).away ≡ get_or fs i false
choose_away [] fs i h = absurd (omega arith)
choose_away (j ∷ js) [] zero h = refl
choose_away (j ∷ js) [] (suc i) h = choose_away js [] i (omega arith)
choose_away (j ∷ js) (f ∷ fs) zero h = refl
choose_away (j ∷ js) (f ∷ fs) (suc i) h = choose_away js fs i (omega arith)

-- the flags along the positions are those of the choice
along : (js : List Job) (fs : List Bool) (is : List ℕ) → All (λ (i : ℕ). i < length js) is
    → map (λ (i : ℕ). (get_or (choose js fs) i no_choice).away) is ≡ map (λ (i : ℕ). get_or fs i false) is
along js fs [] h = refl
along js fs (i ∷ is) h =
    let p : (get_or (choose js fs) i no_choice).away ≡ get_or fs i false = choose_away js fs i h.0 in
    let q : map (λ (i : ℕ). (get_or (choose js fs) i no_choice).away) is ≡ map (λ (i : ℕ). get_or fs i false) is = along js fs is h.1 in
    cc

-- the choice whose flags along the positions are the mask's digits has that mask
pub choose_mask : (js : List Job) (fs : List Bool) (m : ℕ) → ((i : ℕ) → get_or fs i false ≡ true → T (can_go_at js i))
    → map (λ (i : ℕ). get_or fs i false) (positions js) ≡ digits (length (positions js)) m → m < 2 ^ length (positions js) → mask_of (choose js fs) ≡ m
choose_mask js fs m a e h =
    mask_positions js (choose js fs) (choose_choice js fs a)
    ∙ ap of_digits (along js fs (positions js) (positions_below js) ∙ e)
    ∙ of_digits_lem (length (positions js)) m h
