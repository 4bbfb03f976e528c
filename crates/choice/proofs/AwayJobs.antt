-- The jobs in away order are those at the positions in away order; there are no more of them than jobs, and each position is one of the table.
-- Assumes nothing.
use mathlib.Core.Path.{◌≡◌, refl, sym, ap, ◌∙◌}
use mathlib.Core.Bool.{Bool, not}
use mathlib.Core.List.{List, [], ◌∷◌, map}
use Prim.Native.Nat.{ℕ, zero, suc, ◌≤◌}
use native.Mathlib.Omega.{arith}
use lib.ListN.{length, get_or, length-map, length-append}
use Rattle.model.specs.declared.Job.{Job}
use Rattle.model.specs.Lists.{filter, falling}
use Rattle.model.specs.Timetable.{is_either, return_time}
use Rattle.model.specs.Recurrence.{jobs_in_away_order}
use Rattle.model.specs.Positions.{count_from, no_job, can_go_at, positions}
use Rattle.model.proofs.Permutations.{length_perm, perm_falling, perm_split}
use Rattle.model.proofs.Sorts.{map_filter, map_falling}
use Rattle.choice.specs.Choices.{jobs_at}

module _ {A : Type 0} where
  count_further : (f : ℕ → A) (k n : ℕ) → map f (count_from (suc k) n) ≡ map (λ (i : ℕ). f (suc i)) (count_from k n)
  count_further f k zero = refl
  count_further f k (suc n) = ap (λ (l : List A). f (suc k) ∷ l) (count_further f (suc k) n)

  -- a list is its elements by position
  each_at : (xs : List A) (d : A) → map (λ (i : ℕ). get_or xs i d) (count_from 0 (length xs)) ≡ xs
  each_at [] d = refl
  each_at (x ∷ xs) d = ap (λ (l : List A). x ∷ l) (count_further (λ (i : ℕ). get_or (x ∷ xs) i d) 0 (length xs) ∙ each_at xs d)

  -- a sort of what passes a test is no longer than the whole
  sorted_few : (key : A → ℕ) (f : A → Bool) (xs : List A) → length (falling key (filter f xs)) ≤ length xs
  sorted_few key f xs =
      omega (
        arith,
        length_perm (perm_falling key (filter f xs)),
        length_perm (perm_split f xs),
        length-append (filter f xs) (filter (λ (x : A). not (f x)) xs),
      )

-- the jobs in away order are those at the positions in away order
pub order_jobs : (js : List Job) → jobs_in_away_order js ≡ jobs_at js (positions js)
order_jobs js =
    sym
    (map_falling at return_time (filter (can_go_at js) (count_from 0 (length js)))
    ∙ ap (falling return_time) (map_filter at is_either (count_from 0 (length js)) ∙ ap (filter is_either) (each_at js no_job)))
  where
    at : ℕ → Job
    at i = get_or js i no_job

pub as_many : (js : List Job) → length (jobs_in_away_order js) ≡ length (positions js)
as_many js = ap length (order_jobs js) ∙ length-map (positions js) (λ (i : ℕ). get_or js i no_job)

pub positions_few : (js : List Job) → length (positions js) ≤ length js
positions_few js = omega (arith, as_many js, sorted_few return_time is_either js)
