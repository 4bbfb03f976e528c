-- The jobs in away order are added one after another: the k-th job with the bit 2^k, in front of those before it.
-- Assumes nothing.
use mathlib.Core.Path.{◌≡◌, sym, ap, subst, ◌∙◌}
use mathlib.Core.List.{List, reverse, reverse-append}
use Prim.Native.Nat.{ℕ, ◌+◌, ◌*◌, ◌^◌, ◌%◌, ◌≤◌, ◌<◌}
use native.Mathlib.Omega.{arith}
use native.Mathlib.Nat.{pow-le-pow_right, mod-eq_of_lt}
use native.Mathlib.Numerals.{add-one}
use lib.ListN.{length, get_or, take, length-reverse}
use lib.Seq.{length-take-le, take-suc}
use Rattle.model.specs.declared.Job.{Job}
use Rattle.model.proofs.Lists.{all_at}
use Rattle.rows.specs.Rows.{WithinRows}
use Rattle.rows.specs.Columns.{Fit, Stepped, Rows}
use Rattle.rows.proofs.Rows.{rows_fit, rows_next}
use Rattle.records.specs.Limits.{largest_time, most_jobs}

pub taken_length : (jobs : List Job) (k : ℕ) → k ≤ length jobs → length (reverse (take k jobs)) ≡ k
taken_length jobs k h = length-reverse (take k jobs) ∙ length-take-le k jobs h

-- a shift that stays below 2^32
shifted : (k : ℕ) → k < most_jobs → (1 * 2 ^ k) % 4294967296 ≡ 2 ^ k
shifted k h =
    let l : 2 ^ k ≤ 2 ^ 31 = pow-le-pow_right {n = 2} (omega arith) {i = k} {j = 31} (omega arith) in
    let e : 1 * 2 ^ k ≡ 2 ^ k = omega arith in
    rw e (mod-eq_of_lt (omega arith))

-- the k-th job is added to the rows of those before it; `none` is what an index past the jobs would read
module _ (D base k : ℕ) (jobs : List Job) (none : Job) (ts ms : List ℕ) (r : WithinRows D base jobs) (h : k < length jobs)
    (w : Rows D (reverse (take k jobs)) ts ms) where
  abbrev job : Job
  job = get_or jobs k none

  abbrev bit : ℕ
  bit = (1 * 2 ^ k) % 4294967296

  few : length (reverse (take k jobs)) < most_jobs
  few = omega (arith, taken_length jobs k (omega arith), r.few)

  small : job.local ≤ largest_time
  small = all_at (λ (j : Job). j.local ≤ largest_time) jobs none r.locals k h

  own : bit ≡ 2 ^ length (reverse (take k jobs))
  own = shifted k (omega (arith, r.few)) ∙ ap (λ (n : ℕ). 2 ^ n) (sym (taken_length jobs k (omega arith)))

  pub job_fits : Fit (D + 1) job.local ts × Fit (D + 1) bit ms
  job_fits =
      let f = rows_fit D (reverse (take k jobs)) job few small ts ms w in
      (f.0, subst (λ (b : ℕ). Fit (D + 1) b ms) (sym own) f.1)

  pub job_added : (ts' ms' : List ℕ) → Stepped D job bit ts ms ts' ms' → Rows D (reverse (take (k + 1) jobs)) ts' ms'
  job_added ts' ms' s =
      rw (add-one, take-suc jobs k none h, reverse-append)
      (rows_next D (reverse (take k jobs)) job few small ts ms w ts' ms' (subst (λ (b : ℕ). Stepped D job b ts ms ts' ms') own s))
