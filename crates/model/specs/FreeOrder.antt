-- Document 01, 'The free-order plan': away order, workable choices, the tie rule, the one best choice, and the least deadline.
-- Assumes nothing.
use Rattle.std.specs.Prelude.{◌≡◌, ◌⊎◌, Bool, true, false, List, [], ◌∷◌, ◌++◌, map, reverse, ℕ, ◌+◌, ◌≤◌, ◌<◌}
use Rattle.model.specs.declared.Job.{Job}
use Rattle.model.specs.Lists.{greatest, All, filter, total, falling}
use Rattle.model.specs.Timetable.{here, either, return_time, Chosen, Allowed, Placed, span, finish, Meets, Met}

-- A choice: each job of the table, in table order, with here or away.

pub record Choice (js : List Job) (cs : List Chosen) : Type 0 where
  pub each : map (λ (c : Chosen). c.job) cs ≡ js
  pub allowed : All Allowed cs

-- "Away order: either jobs by falling I, equal I by table position."

abbrev pub back : Chosen → ℕ
back c = return_time c.job

abbrev pub away_order : List Chosen → List Chosen
away_order cs = falling back (filter either cs)

-- "A choice is workable if its away jobs in away order, then its here jobs in table order, back to back from tick 0, meet D."

abbrev pub is_away : Chosen → Bool
is_away c = c.away

abbrev pub plan : List Chosen → List Chosen
plan cs = filter is_away (away_order cs) ++ filter here cs

-- the jobs in the order given, back to back from t
abbrev pub laid : ℕ → List Chosen → List Placed
laid t [] = []
laid t (c ∷ cs) = record { what = c; start = t } ∷ laid (t + span c) cs

-- back to back from t they meet D
abbrev pub Fits : ℕ → ℕ → List Chosen → Type 0
Fits D t cs = Meets D (laid t cs)

abbrev pub Workable : ℕ → List Chosen → Type 0
Workable D cs = Fits D 0 (plan cs)

-- "Its busy total is the sum of its spans."

abbrev pub busy : List Chosen → ℕ
busy cs = total span cs

-- the sum of a timetable's spans
abbrev pub spans : List Placed → ℕ
spans ps = total (λ (p : Placed). span p.what) ps

-- "Ties: walk the either jobs from the last in away order to the first; at the first place where two choices differ, the one that keeps the job here wins."

-- the choices of the either jobs, from the last in away order to the first
abbrev pub from_last : List Chosen → List Bool
from_last cs = map is_away (reverse (away_order cs))

-- at the first position where the two differ, the first one has the job here; or they do not differ
abbrev pub Keeps : List Bool → List Bool → Type 0
Keeps [] ys = Unit {0}
Keeps (a ∷ xs) [] = Unit {0}
Keeps (false ∷ xs) (true ∷ ys) = Unit {0}
Keeps (true ∷ xs) (false ∷ ys) = ⊥
Keeps (false ∷ xs) (false ∷ ys) = Keeps xs ys
Keeps (true ∷ xs) (true ∷ ys) = Keeps xs ys

-- less busy, or as busy and ahead by the tie rule
abbrev pub Ahead : List Chosen → List Chosen → Type 0
Ahead cs ds = (busy cs < busy ds) ⊎ ((busy cs ≡ busy ds) × Keeps (from_last cs) (from_last ds))

-- "Otherwise the plan is the workable choice with the least busy total."

pub record Best (D : ℕ) (js : List Job) (cs : List Chosen) : Type 0 where
  pub choice : Choice js cs
  pub workable : Workable D cs
  pub ahead : (ds : List Chosen) → Choice js ds → Workable D ds → Ahead cs ds

-- "last finish (latest of all finishes, 0 for no jobs)", of jobs back to back from t

abbrev pub last_from : ℕ → List Chosen → ℕ
last_from t cs = greatest finish (laid t cs)

abbrev pub last_finish : List Chosen → ℕ
last_finish cs = last_from 0 (plan cs)

-- "Least deadline: the smallest D in 1..N that some timetable meets"; N is the largest time.

pub record LeastDeadline (N : ℕ) (js : List Job) (d : ℕ) : Type 0 where
  pub low : 1 ≤ d
  pub high : d ≤ N
  pub met : Met d js
  pub least : (e : ℕ) → 1 ≤ e → Met e js → d ≤ e
