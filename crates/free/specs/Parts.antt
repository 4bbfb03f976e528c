-- The two parts of a free-order plan: the jobs by their positions in away order, and the room that the here jobs find behind the away jobs.
-- Assumes nothing.
use Rattle.std.specs.Prelude.{◌≡◌, Bool, List, map, ℕ, ◌+◌, ◌*◌, ◌≤◌, length, get_or}
use Rattle.model.specs.declared.Job.{Job}
use Rattle.model.specs.Lists.{All, filter}
use Rattle.model.specs.Timetable.{Chosen, here, span}
use Rattle.model.specs.FreeOrder.{busy}
use Rattle.model.specs.Positions.{no_choice, positions, choose}
use Rattle.records.specs.Limits.{most_jobs, largest_time}
use Rattle.draft.specs.declared.Draft.{Draft}
use Rattle.draft.specs.Drafts.{draft_of}

-- the either jobs in away order, with their flags
abbrev pub in_away_order : List Job → List Bool → List Chosen
in_away_order js flags = map (λ (i : ℕ). get_or (choose js flags) i no_choice) (positions js)

-- the draft is that of some jobs, and the here jobs find room behind them
pub record HereRoom (front : Draft) (cs : List Chosen) : Type 0 where
  pub before : List Chosen
  pub held : front ≡ draft_of before
  pub few : length before + length (filter here cs) ≤ most_jobs
  pub short : All (λ (c : Chosen). span c ≤ largest_time) cs
  pub early : busy before ≤ largest_time * length before
