-- Document 01, 'The free-order plan': "The paper's recurrence (4), (5) is worked with t as the setup total reached exactly."
-- A row holds for each setup total the least (here total, mask); the answer is the least (busy total, mask) over all columns.
-- The jobs stand from the last in away order to the first: a row of one job more has that job in front, and its bit is the highest. Assumes nothing.
use Rattle.std.specs.Prelude.{◌≡◌, cond, ◌&&◌, ◌||◌, List, [], ◌∷◌, reverse, ℕ, zero, suc, ◌+◌, ◌-◌, ◌^◌, ◌≤◌, ◌<◌, leb, ltb, eqb, length}
use Rattle.model.specs.declared.Job.{Job}
use Rattle.model.specs.Lists.{filter, total, falling}
use Rattle.model.specs.Timetable.{is_either, setup_time, return_time, Chosen}
use Rattle.model.specs.FreeOrder.{away_order}

-- a column of a row: nothing, or a total and a mask
pub data Cell : Type 0 where
  empty : Cell
  cell : ℕ → ℕ → Cell

-- the lesser of two, the first where they are equal
abbrev pub pick : Cell → Cell → Cell
pick empty d = d
pick (cell a m) empty = cell a m
pick (cell a m) (cell b n) = cond (ltb a b || (eqb a b && leb m n)) (cell a m) (cell b n)

-- C more in total, and B more in the mask
abbrev pub shift : ℕ → ℕ → Cell → Cell
shift C B empty = empty
shift C B (cell a m) = cell (a + C) (m + B)

-- the cell, if its total is at most D
abbrev pub cap : ℕ → Cell → Cell
cap D empty = empty
cap D (cell a m) = cond (leb a D) (cell a m) empty

-- one job more, the j-th in away order: kept here, or sent away where S <= t and t + I <= D
abbrev pub next : ℕ → Job → ℕ → ℕ → Cell → Cell → Cell
next D o j t kept sent =
    pick (shift o.local 0 kept)
    (cond (leb (setup_time o) t && leb (t + return_time o) D) (shift 0 (2 ^ j) sent) empty)

-- the row after the jobs, at the setup total t
abbrev pub row : ℕ → List Job → ℕ → Cell
row D [] zero = cell 0 0
row D [] (suc t) = empty
row D (o ∷ os) t = next D o (length os) t (row D os t) (row D os (t - setup_time o))

-- the least over the columns below n, with `base` for the here-only jobs
abbrev pub best_below : ℕ → List Job → ℕ → ℕ → Cell
best_below D os base zero = empty
best_below D os base (suc n) = pick (best_below D os base n) (shift (n + base) 0 (row D os n))

abbrev pub best_total : ℕ → List Job → ℕ → Cell
best_total D os base = cap D (best_below D os base (suc D))

-- the table's either jobs in away order
abbrev pub jobs_in_away_order : List Job → List Job
jobs_in_away_order js = falling return_time (filter is_either js)

-- the here-only jobs' local times
abbrev pub base : List Job → ℕ
base js = total (λ (j : Job). cond (is_either j) 0 j.local) js

-- what the planner computes
abbrev pub answer : ℕ → List Job → Cell
answer D js = best_total D (reverse (jobs_in_away_order js)) (base js)

-- bit j is set if the j-th job in away order is away
abbrev pub mask : List Chosen → ℕ
mask [] = 0
mask (c ∷ cs) = cond c.away (2 ^ length cs) 0 + mask cs

-- the mask of a choice
abbrev pub mask_of : List Chosen → ℕ
mask_of cs = mask (reverse (away_order cs))

-- a column as two machine numbers x and y: a total of N or more stands for nothing
abbrev pub Holds : ℕ → ℕ → ℕ → Cell → Type 0
Holds N x y empty = N ≤ x
Holds N x y (cell a m) = (x ≡ a) × (y ≡ m) × (a < N)
