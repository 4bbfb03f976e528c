-- What the planner works out of a table before it plans, and what it then finds: the best choice's mask, its flags by position, and the least deadline.
-- Assumes nothing.
use Rattle.std.specs.Prelude.{◌≡◌, Bool, true, false, cond, List, [], ◌∷◌, ◌++◌, map, ℕ, ◌-◌, ◌≤◌, length, get_or, replicate, Option, None, Some}
use Rattle.model.specs.declared.Job.{Job}
use Rattle.model.specs.Lists.{All}
use Rattle.model.specs.Timetable.{is_either, Met}
use Rattle.model.specs.FreeOrder.{LeastDeadline}
use Rattle.model.specs.Recurrence.{Cell, empty, cell, jobs_in_away_order, base}
use Rattle.model.specs.Positions.{no_job, positions, digits, marked}
use Rattle.records.specs.declared.refusal.Refusal.TheVariants as R
use Rattle.records.specs.Limits.{most_jobs, largest_time}
use Rattle.records.specs.Refusals.{refusal_says}
use Rattle.table.specs.Tables.{TimesOk}
use Rattle.order.specs.Order.{away_order_of}
use Rattle.choice.specs.declared.Prepared.{Prepared}

-- what a job adds to every choice: its local time if it is here-only
abbrev pub here_time : Job → ℕ
here_time j = cond (is_either j) 0 j.local

-- the jobs at positions
abbrev pub jobs_at : List Job → List ℕ → List Job
jobs_at js is = map (λ (i : ℕ). get_or js i no_job) is

-- the either jobs in away order, with their positions, and the local times of the others
abbrev pub prepared_of : List Job → Prepared
prepared_of js =
    record {
      order = away_order_of (positions js);
      jobs = jobs_in_away_order js ++ replicate (most_jobs - length (jobs_in_away_order js)) no_job;
      base = base js;
    }

-- jobs that a sound table may have
pub record SoundJobs (js : List Job) : Type 0 where
  pub few : length js ≤ most_jobs
  pub times : All (TimesOk largest_time) js

-- what is prepared of the jobs of some sound table
pub record Ready (p : Prepared) : Type 0 where
  pub js : List Job
  pub sound : SoundJobs js
  pub held : p ≡ prepared_of js

-- what holds of the jobs that p is prepared of, whichever they are
abbrev pub OfItsJobs : Prepared → (List Job → Type 0) → Type 0
OfItsJobs p Holds = (js : List Job) → p ≡ prepared_of js → Holds js

-- the mask of the planner's answer
abbrev pub best_mask_of : Cell → Option ℕ
best_mask_of empty = None
best_mask_of (cell a m) = Some m

-- a flag for each position: whether the choice that the mask stands for has the job there away
abbrev pub flags_of : List Job → ℕ → List Bool
flags_of js m = marked (positions js) (digits (length (positions js)) m) (replicate most_jobs false)

-- what is said is whether P holds
pub record SaysWhether (said : Bool) (P : Type 0) : Type 0 where
  pub yes : said ≡ true → P
  pub no : said ≡ false → ¬ P

-- "the smallest D in 1..N that some timetable meets ..; NONE if N is not met"; N is the largest time
abbrev pub IsEarliest : ℕ → List Job → Option ℕ → Type 0
IsEarliest N js (Some d) = LeastDeadline N js d
IsEarliest N js None = ¬ (Met N js)

-- Number and values: 0 with the mask, or with the deadline; else NONE's.

abbrev pub best_mask_says : Option ℕ → List ℕ
best_mask_says (Some m) = 0 ∷ m ∷ []
best_mask_says None = refusal_says R.None

abbrev pub earliest_says : Option ℕ → List ℕ
earliest_says (Some d) = 0 ∷ d ∷ []
earliest_says None = refusal_says R.None
