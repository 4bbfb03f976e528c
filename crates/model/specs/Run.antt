-- Document 01, 'The check': what a run of a plan is, and when it is on time.
-- Assumes nothing.
use Rattle.std.specs.Prelude.{◌≡◌, List, [], ◌∷◌, map, ℕ, ◌+◌, ◌≤◌}
use Rattle.model.specs.Lists.{All}
use Rattle.model.specs.Timetable.{Chosen, span, wait}

-- "A run of a plan puts the listed jobs back to back from tick 0; each span (C here, S away) and each return (I) takes a whole number of ticks from 0
-- up to its entry"

-- what a listed job took: its span, and its return (0 if here)
pub record Took : Type 0 where
  pub what : Chosen
  pub spent : ℕ
  pub waited : ℕ

pub record RunOf (cs : List Chosen) (rs : List Took) : Type 0 where
  pub each : map (λ (r : Took). r.what) rs ≡ cs
  pub within : All (λ (r : Took). (r.spent ≤ span r.what) × (r.waited ≤ wait r.what)) rs

-- "and a job finishes at its span's end, plus its return if away. A run is on time if every finish is at most D."

-- from t on, every finish is at most D
abbrev pub OnTime : ℕ → ℕ → List Took → Type 0
OnTime D t [] = Unit {0}
OnTime D t (r ∷ rs) = (t + r.spent + r.waited ≤ D) × OnTime D (t + r.spent) rs
