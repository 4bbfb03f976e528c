-- Document 01, 'Bytes' and 'Refusal numbers': which byte strings are no table or no plan, for which fault and at which place.
-- No reader is named: a file with a fault is the bytes of a good beginning, and then a record that has one. That the readers refuse exactly these,
-- with this number and place, is proved in proofs/Tables.antt and proofs/Plans.antt. Assumes nothing.
use Rattle.std.specs.Prelude.{ℕ, ◌≤◌, ◌<◌, ◌≡◌, length}
use mathlib.Core.List.{List, [], ◌∷◌, ◌++◌, map, flat_map, Memᴰ}
use Rattle.model.specs.Lists.{All, Pairwise}
use Rattle.octets.specs.Numbers.{two_bytes}
use Rattle.records.specs.declared.refusal.Place.{Place}
use Rattle.records.specs.declared.refusal.Refusal.{Refusal}
use Rattle.records.specs.declared.refusal.Refusal.TheVariants.{Short, Kind, Range, Many, Twice, After}
use Rattle.records.specs.Limits.{most_jobs, largest_time}
use Rattle.records.specs.Refusals.{refusal_says, Outcome, accepted, refused}
use Rattle.table.specs.Tables.{JobTable, TimesOk, GoodTable, job_id, job_bytes, table_bytes}
use Rattle.plan.specs.declared.Step.{Step}
use Rattle.plan.specs.Plans.{step_id, step_bytes, plan_bytes}

-- a byte
abbrev pub Byte : ℕ → Type 0
Byte b = b < 256

-- "One byte of kind, then a body whose length the kind fixes": the kinds that may stand first in a table, those that may stand after it, and those of a plan.
-- The numbers stand as in the document's table of kinds, against which a reader ticks them off; the readers' names are not asked.
abbrev pub frame_kinds : List (ℕ × ℕ)
frame_kinds = (0x10, 2) ∷ []

abbrev pub row_kinds : List (ℕ × ℕ)
row_kinds = (0x11, 3) ∷ (0x12, 7) ∷ (0x1F, 0) ∷ []

abbrev pub step_kinds : List (ℕ × ℕ)
step_kinds = (0x20, 1) ∷ (0x21, 1) ∷ (0x2F, 0) ∷ []

-- the bytes of records, one after the other
abbrev pub joined : List (List ℕ) → List ℕ
joined = flat_map (λ (r : List ℕ). r)

-- "The place is the offset of the record's kind byte": that of the record behind these, told by their bytes and not by going from place to place
abbrev pub behind : List (List ℕ) → Place
behind records = record { at = length (joined records) }

-- A record at the place `p`, told by the bytes from there on. "within one: no byte left SHORT; kind unknown or not allowed here KIND; body cut SHORT"
pub data Unread (kinds : List (ℕ × ℕ)) (p : Place) : List ℕ → Refusal → Type 0 where
  no_byte : Unread kinds p [] (Short p)
  not_allowed : {k : ℕ} {more : List ℕ} → All (λ (r : ℕ × ℕ). ¬ (k ≡ r.0)) kinds → Unread kinds p (k ∷ more) (Kind p)
  cut : {k n : ℕ} {more : List ℕ} → Memᴰ (k, n) kinds → length more < n → Unread kinds p (k ∷ more) (Short p)

-- What tables and plans have in common: behind a table's first record, 0 to 32 of something with distinct ids, each in range, and an end record.
pub record GoodList {A : Type 0} (id_of : A → ℕ) (InRange : A → Type 0) (xs : List A) : Type 0 where
  pub few : length xs ≤ most_jobs
  pub distinct : Pairwise (λ (x y : A). ¬ (id_of x ≡ id_of y)) xs
  pub each : All InRange xs

module _ {A : Type 0} (id_of : A → ℕ) (bytes_of : A → List ℕ) (InRange : A → Type 0) (kinds : List (ℕ × ℕ)) (end : ℕ) where
  -- "33rd job MANY; RANGE; TWICE. After the end record, AFTER", where `before` are listed before the record, and `records` stand before it
  pub data Faulty (before : List A) (records : List (List ℕ)) : List ℕ → Refusal → Type 0 where
    unread : {rest : List ℕ} {f : Refusal} → Unread kinds (behind records) rest f → Faulty before records rest f
    many : (x : A) (more : List ℕ) → length before ≡ most_jobs → Faulty before records (bytes_of x ++ more) (Many (behind records))
    range : (x : A) (more : List ℕ) → length before < most_jobs → ¬ InRange x → Faulty before records (bytes_of x ++ more) (Range (behind records))
    twice :
        (x : A) (more : List ℕ) → length before < most_jobs → InRange x → Memᴰ (id_of x) (map id_of before) →
        Faulty before records (bytes_of x ++ more) (Twice (behind records))
    after : {b : ℕ} {more : List ℕ} → Faulty before records (end ∷ b ∷ more) (After (behind (records ++ ((end ∷ []) ∷ []))))

  -- the bytes of the first records and of a good list, and then a record with a fault
  pub data ListFault (first : List (List ℕ)) : List ℕ → Refusal → Type 0 where
    fault :
        (xs : List A) (rest : List ℕ) {f : Refusal} → GoodList id_of InRange xs → Faulty xs (first ++ map bytes_of xs) rest f →
        ListFault first (joined (first ++ map bytes_of xs) ++ rest) f

-- "RANGE: a time above 4,000, or D = 0"
abbrev pub DeadlineOk : ℕ → Type 0
DeadlineOk D = (1 ≤ D) × (D ≤ largest_time)

abbrev pub frame_bytes : ℕ → List ℕ
frame_bytes D = 0x10 ∷ two_bytes D

-- "A table is one 0x10 first, 0 to 32 jobs with distinct ids, one 0x1F, nothing after."
pub data TableFault : List ℕ → Refusal → Type 0 where
  in_frame : {s : List ℕ} {f : Refusal} → Unread frame_kinds (behind []) s f → TableFault s f
  deadline : (D : ℕ) (more : List ℕ) → ¬ DeadlineOk D → TableFault (frame_bytes D ++ more) (Range (behind []))
  in_row :
      (D : ℕ) {s : List ℕ} {f : Refusal} → DeadlineOk D → ListFault job_id job_bytes (TimesOk largest_time) row_kinds 0x1F (frame_bytes D ∷ []) s f →
      TableFault s f

-- "A plan is 0 to 32 of 0x20 and 0x21 with distinct ids, one 0x2F, nothing after." A step has no times.
abbrev pub NoTimes : Step → Type 0
NoTimes x = Unit {0}

abbrev pub GoodPlan : List Step → Type 0
GoodPlan = GoodList step_id NoTimes

abbrev pub PlanFault : List ℕ → Refusal → Type 0
PlanFault = ListFault step_id step_bytes NoTimes step_kinds 0x2F []

-- What a byte string is as a table, and as a plan: the bytes of a good one, or a fault.
abbrev pub TableIs : List ℕ → Outcome JobTable → Type 0
TableIs s (accepted t) = GoodTable t × (s ≡ table_bytes t)
TableIs s (refused f) = TableFault s f

abbrev pub PlanIs : List ℕ → Outcome (List Step) → Type 0
PlanIs s (accepted xs) = GoodPlan xs × (s ≡ plan_bytes xs)
PlanIs s (refused f) = PlanFault s f

-- What a reader says of it in numbers: 0 for a table; 0 and the number of steps for a plan; else the fault's number and place.
pub data TableSays (s : List ℕ) : List ℕ → Type 0 where
  a_table : (t : JobTable) → TableIs s (accepted t) → TableSays s (0 ∷ [])
  table_fault : (f : Refusal) → TableFault s f → TableSays s (refusal_says f)

pub data PlanSays (s : List ℕ) : List ℕ → Type 0 where
  a_plan : (xs : List Step) → PlanIs s (accepted xs) → PlanSays s (0 ∷ length xs ∷ [])
  plan_fault : (f : Refusal) → PlanFault s f → PlanSays s (refusal_says f)

-- "1 to 6 return number and place": the numbers of a fault, at a place of at most `most`
pub record FaultAt (most : ℕ) (ns : List ℕ) : Type 0 where
  pub number : ℕ
  pub place : ℕ
  pub says : ns ≡ number ∷ place ∷ []
  pub low : 1 ≤ number
  pub high : number ≤ 6
  pub within : place ≤ most
