-- The first of a list that has an id: where it stands, and which it is. What check, runner and lister mean by 'the job with this id'.
-- Assumes nothing.
use Rattle.std.specs.Prelude.{ℕ, zero, suc, ◌+◌, ◌<◌, ◌≡◌, cond, List, [], ◌∷◌, length, get_or, eqb}
use Rattle.std.specs.Prelude.{Option, None, Some}
use Rattle.model.specs.declared.Job.{Job}
use Rattle.model.specs.Positions.{no_job}
use Rattle.records.specs.Limits.{most_jobs}
use Rattle.table.specs.Tables.{job_id}

-- the first of the n positions from k on where the key is x; `d` stands past the list's end
module _ {A : Type 0} (key : A → ℕ) (d : A) (xs : List A) (x : ℕ) where
  unfoldable pub first : ℕ → ℕ → Option ℕ
  first k zero = None
  first k (suc n) = cond (eqb (key (get_or xs k d)) x) (Some k) (first (k + 1) n)

-- the first of a list that has the key itself
unfoldable pub with_key : {A : Type 0} → (A → ℕ) → List A → ℕ → Option A
with_key key [] x = None
with_key key (y ∷ ys) x = cond (eqb (key y) x) (Some y) (with_key key ys x)

-- the job of a table that has the id, and where it stands
abbrev pub job_of : List Job → ℕ → Option Job
job_of js id = with_key job_id js id

abbrev pub position_of : List Job → ℕ → Option ℕ
position_of js id = first job_id no_job js id 0 (length js)

-- An index of jobs has for each byte the position of the job with that id; where there is none, the number of jobs that no table exceeds.
abbrev pub indexed : Option ℕ → ℕ
indexed (Some k) = k
indexed None = most_jobs

pub record Indexes (js : List Job) (index : List ℕ) : Type 0 where
  pub size : length index ≡ 256
  pub tells : (id : ℕ) → id < 256 → get_or index id 0 ≡ indexed (position_of js id)
