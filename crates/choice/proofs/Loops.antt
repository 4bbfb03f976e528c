-- What one turn of each loop over the arrays adds.
-- Assumes nothing.
use mathlib.Core.Path.{◌≡◌, refl, sym, ap, ◌∙◌}
use mathlib.Core.Bool.{Bool, false}
use mathlib.Core.List.{List, [], ◌∷◌, ◌++◌, map, map-append}
use Prim.Native.Nat.{ℕ, suc, ◌+◌, ◌-◌, ◌/◌, ◌%◌, ◌≤◌, ◌<◌}
use native.Mathlib.Omega.{arith}
use native.Mathlib.Numerals.{add-one}
use lib.Dec.{eqb}
use lib.ListN.{length, get_or, take, drop, set, replicate, length-map, length-set}
use lib.Seq.{take-suc, drop-cons, length-take-le, set_at, append_snoc}
use Rattle.model.specs.declared.Job.{Job}
use Rattle.std.specs.List.{sum, sum_by}
use Rattle.std.proofs.lemmas.List.Sums.{sum-map, sum_by-cons}
use Rattle.model.specs.Lists.{total}
use Rattle.model.specs.Positions.{no_job, digits, marked}
use Rattle.records.specs.Limits.{most_jobs}
use Rattle.choice.specs.Choices.{jobs_at}

-- the sum is that of what each job keeps here in any case
pub total_sum : (f : Job → ℕ) (js : List Job) → sum (map f js) ≡ total f js
total_sum f js = sum-map f js ∙ step js
  where
    step : (js : List Job) → sum_by f js ≡ total f js
    step [] = refl
    step (j ∷ js) = sum_by-cons f j js ∙ ap (λ (n : ℕ). f j + n) (step js)

-- the k-th position's job is put behind those before it
pub jobs_more : (jobs : List Job) (positions : List ℕ) (k : ℕ) → length positions ≤ most_jobs → k < length positions
    → set (jobs_at jobs (take k positions) ++ replicate (most_jobs - k) no_job) k (get_or jobs (get_or positions k 0) no_job)
    ≡ jobs_at jobs (take (k + 1) positions) ++ replicate (most_jobs - (k + 1)) no_job
jobs_more jobs positions k l h =
    rw more
    (set_at (jobs_at jobs (take k positions)) no_job (replicate (most_jobs - (k + 1)) no_job) job k
    (length-map (take k positions) at ∙ length-take-le k positions (omega arith))
    ∙ sym (append_snoc (jobs_at jobs (take k positions)) job (replicate (most_jobs - (k + 1)) no_job))
    ∙ ap (λ (l : List Job). l ++ replicate (most_jobs - (k + 1)) no_job)
    (sym (ap (jobs_at jobs) taken ∙ map-append at (take k positions) (get_or positions k 0 ∷ []))))
  where
    at : ℕ → Job
    at i = get_or jobs i no_job

    job : Job
    job = at (get_or positions k 0)

    more : most_jobs - k ≡ suc (most_jobs - (k + 1))
    more = omega arith

    taken : take (k + 1) positions ≡ take k positions ++ (get_or positions k 0 ∷ [])
    taken = rw (add-one, take-suc positions k 0 h)

-- the first k positions are marked: what is left of the mask still marks the others as the whole mask does
pub record Marking (is : List ℕ) (mask : ℕ) (flags : List Bool) (left k : ℕ) : Type 0 where
  pub size : length flags ≡ most_jobs
  pub rest : marked (drop k is) (digits (length is - k) left) flags ≡ marked is (digits (length is) mask) (replicate most_jobs false)

module _ (is : List ℕ) (mask : ℕ) where
  module _ (flags : List Bool) (left k : ℕ) (m : Marking is mask flags left k) where
    pub marking_more : k < length is → Marking is mask (set flags (get_or is k 0) (eqb (left % 2) 1)) (left / 2) (k + 1)
    marking_more h =
        let n : length is - k ≡ suc (length is - suc k) = omega arith in
        record { size = length-set flags (get_or is k 0) _ ∙ m.size; rest = rw add-one (rw (n, drop-cons is k 0) at m.rest) }
