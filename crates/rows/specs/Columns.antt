-- What the work rows' own functions promise each other about the columns: the totals ts and the masks ms of a row, and ts' and ms' of the next.
-- Assumes nothing.
use Rattle.std.specs.Prelude.{◌≡◌, ◌⊎◌, cond, List, ℕ, ◌+◌, ◌-◌, ◌*◌, ◌^◌, ◌≤◌, ◌<◌, ltb, length, get_or}
use Rattle.model.specs.declared.Job.{Job}
use Rattle.model.specs.Lists.{total}
use Rattle.model.specs.Timetable.{setup_time, return_time}
use Rattle.model.specs.Recurrence.{Holds, row}
use Rattle.rows.specs.declared.Lowest.{Lowest}
use Rattle.rows.specs.Rows.{nothing, columns}
use Rattle.records.specs.Limits.{largest_time}

-- each number before column n has room for `more`
abbrev pub Fit : ℕ → ℕ → List ℕ → Type 0
Fit n more xs = (t : ℕ) → t < n → get_or xs t 0 + more < 4294967296

-- the numbers from..to have become what `new` says, and no other has changed
pub record Changed (from to : ℕ) (new : ℕ → ℕ) (xs xs' : List ℕ) : Type 0 where
  pub sized : length xs' ≡ columns
  pub inside : (t : ℕ) → from ≤ t → t < to → get_or xs' t 0 ≡ new t
  pub outside : (t : ℕ) → (t < from) ⊎ (to ≤ t) → get_or xs' t 0 ≡ get_or xs t 0

-- the total of column t with the job kept here
abbrev pub kept_total : ℕ → List ℕ → ℕ → ℕ
kept_total local ts t = get_or ts t 0 + local

-- what goes with the lower of two totals, with the kept one where they are equal
unfoldable pub lower : ℕ → ℕ → ℕ → ℕ → ℕ
lower kept sent of_kept of_sent = cond (ltb sent kept) of_sent of_kept

-- the total and the mask of column t with the job kept here, or sent away from the column a setup time earlier
abbrev pub lower_total : ℕ → ℕ → List ℕ → ℕ → ℕ
lower_total setup local ts t =
    lower (kept_total local ts t) (get_or ts (t - setup) 0) (kept_total local ts t) (get_or ts (t - setup) 0)

abbrev pub lower_mask : ℕ → ℕ → ℕ → List ℕ → List ℕ → ℕ → ℕ
lower_mask setup local bit ts ms t =
    lower (kept_total local ts t) (get_or ts (t - setup) 0) (get_or ms t 0) (get_or ms (t - setup) 0 + bit)

-- each total of the columns from..to has grown by so much: by a local time where a job is kept here
abbrev pub Raised : ℕ → ℕ → ℕ → List ℕ → List ℕ → Type 0
Raised from to local ts ts' = Changed from to (kept_total local ts) ts ts'

-- the columns from..to keep the job or send it, whichever has the lower total
pub record Sent (from to setup local bit : ℕ) (ts ms ts' ms' : List ℕ) : Type 0 where
  pub totals : Changed from to (lower_total setup local ts) ts ts'
  pub masks : Changed from to (lower_mask setup local bit ts ms) ms ms'

-- a job can be sent away at the columns t with setup <= t and t + return <= D: those from..to, or none
abbrev pub RoomFor : ℕ → ℕ → ℕ → ℕ → ℕ → Type 0
RoomFor D setup back from to =
    ((from ≡ setup) × (to + back ≡ D + 1) × (from ≤ to)) ⊎ ((from ≡ 0) × (to ≡ 0) × (D < setup + back))

-- one job more in the columns 0..D
pub record Stepped (D : ℕ) (o : Job) (bit : ℕ) (ts ms ts' ms' : List ℕ) : Type 0 where
  pub total_columns : length ts' ≡ columns
  pub mask_columns : length ms' ≡ columns
  pub sent : (t : ℕ) → setup_time o ≤ t → t + return_time o ≤ D
      → (get_or ts' t 0 ≡ lower_total (setup_time o) o.local ts t) × (get_or ms' t 0 ≡ lower_mask (setup_time o) o.local bit ts ms t)
  pub kept : (t : ℕ) → t ≤ D → (t < setup_time o) ⊎ (D < t + return_time o)
      → (get_or ts' t 0 ≡ kept_total o.local ts t) × (get_or ms' t 0 ≡ get_or ms t 0)

-- the total x and the mask y hold the row's column t, and are small enough for one job more
pub record Column (D : ℕ) (os : List Job) (t x y : ℕ) : Type 0 where
  pub held : Holds nothing x y (row D os t)
  pub low : x ≤ nothing + largest_time * length os
  pub bits : y < 2 ^ length os

-- the totals and the masks hold the row of the jobs, to column D
pub record Rows (D : ℕ) (os : List Job) (ts ms : List ℕ) : Type 0 where
  pub total_columns : length ts ≡ columns
  pub mask_columns : length ms ≡ columns
  pub each : (t : ℕ) → t ≤ D → Column D os t (get_or ts t 0) (get_or ms t 0)
  pub locals : total (λ (j : Job). j.local) os ≤ largest_time * length os

-- the total is `nothing` at most, and with `nothing` itself goes the mask 0: one choice stands for nothing
abbrev pub Single : Lowest → Type 0
Single r = (r.total ≤ nothing) × (r.total ≡ nothing → r.mask ≡ 0)
