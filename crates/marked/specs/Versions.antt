-- Document 01, 'What the contracts have to settle' and 'Errors that look right': the versions that have to be shut out, each as a property that a
-- function might have. proofs/ shows that no function that meets its contract has it. Assumes nothing.
use Rattle.std.specs.Prelude.{◌≡◌, List, [], ◌∷◌, ◌++◌, reverse, ℕ, ◌+◌, ◌≤◌, ◌<◌, T, length, get_or, drop, Ok}
use Rattle.model.specs.Lists.{All, filter, total, greatest}
use Rattle.model.specs.Timetable.{Chosen, here, setup_time, return_time, span, finish}
use Rattle.model.specs.FreeOrder.{Choice, is_away, away_order, laid, Fits, Workable}
use Rattle.records.specs.declared.refusal.Refusal.TheVariants.{None}
use Rattle.records.specs.Limits.{longest_plan}
use Rattle.records.specs.Refusals.{refusal_says, accepted}
use Rattle.table.specs.Tables.{JobTable, read_table}
use Rattle.plan.specs.Plans.{plan_bytes, steps_for}
use Rattle.planner.specs.Answers.{Planned, Least}
use Rattle.planner.specs.Answers.{planned_says, least_says}
use Rattle.judge.specs.Check.{Checked}
use Rattle.judge.specs.Check.{checked_says}
use Rattle.frame_record.specs.declared.Frame.{Frame}
use Rattle.frame_record.specs.declared.Sample.{Sample}
use Rattle.frame_record.specs.declared.Reading.TheVariants.{Fresh}
use Rattle.frame_record.specs.declared.Answer.TheVariants.{Done, Read}
use Rattle.frame_record.specs.declared.Event.{Event}
use Rattle.frame_record.specs.declared.Event.TheVariants as E
use Rattle.frame_record.specs.declared.Called.{Called}
use Rattle.frame_record.specs.Answers.{idle}

-- A planner: its answer, and the area afterwards, for every table and every area before.
pub record Planner : Type 0 where
  pub answer : List ℕ → List ℕ → Planned
  pub area : List ℕ → List ℕ → List ℕ

module _ (p : Planner) where
  -- it says NONE to this table, where there is room
  abbrev pub SaysNone : List ℕ → Type 0
  SaysNone s = (before : List ℕ) → longest_plan ≤ length before → planned_says (p.answer s before) ≡ refusal_says None

  -- it has a plan for this table: the plan's length, the busy total and the last finish
  abbrev pub Plans : List ℕ → List ℕ → ℕ → ℕ → ℕ → Type 0
  Plans s before n busy last = planned_says (p.answer s before) ≡ 0 ∷ n ∷ busy ∷ last ∷ []

  -- "a planner that says NONE to all"
  abbrev pub NoneToAll : Type 0
  NoneToAll = (s : List ℕ) (t : JobTable) → read_table s ≡ accepted t → SaysNone s

  -- "or writes one fixed plan"
  abbrev pub OneFixedPlan : List ℕ → Type 0
  OneFixedPlan fixed = (s before : List ℕ) (n busy last : ℕ) → Plans s before n busy last → p.area s before ≡ fixed ++ drop (length fixed) before

  -- "or writes nothing"
  abbrev pub NothingWritten : Type 0
  NothingWritten = (s before : List ℕ) → p.area s before ≡ before

  -- a last finish that is the busy total: where the last listed job stays here, that is its finish and not the greatest
  abbrev pub LastIsBusy : Type 0
  LastIsBusy = (s before : List ℕ) (n busy last : ℕ) → Plans s before n busy last → last ≡ busy

  -- it says NONE wherever no choice is of a kind, when it should go by the workable ones
  abbrev pub GoesBy : (ℕ → List Chosen → Type 0) → Type 0
  GoesBy Kind =
      (s : List ℕ) (t : JobTable) → read_table s ≡ accepted t →
      ((cs : List Chosen) → Choice t.jobs cs → ¬ (Kind t.deadline cs)) → SaysNone s

-- it is none of these
pub record NotEmpty (p : Planner) : Type 0 where
  pub not_none_to_all : ¬ (NoneToAll p)
  pub not_one_fixed_plan : (fixed : List ℕ) → ¬ (OneFixedPlan p fixed)
  pub not_nothing_written : ¬ (NothingWritten p)
  pub not_last_is_busy : ¬ (LastIsBusy p)

-- "a busy total that is not the sum of the plan's spans, or a last finish that is not the greatest of its finishes": xs are the jobs of the written plan
pub record TrueFigures (xs : List Chosen) (n busy last : ℕ) (before after : List ℕ) : Type 0 where
  pub written : after ≡ plan_bytes (steps_for xs) ++ drop n before
  pub sum : busy ≡ total span xs
  pub greatest_finish : last ≡ greatest finish (laid 0 xs)

-- The kinds of choice that the errors that look right go by.

-- "Sending away only where S + I < C."
abbrev pub SoonerOnly : ℕ → List Chosen → Type 0
SoonerOnly D cs = Workable D cs × All (λ (c : Chosen). T c.away → setup_time c.job + return_time c.job < c.job.local) cs

-- "Shortest return first."
abbrev pub ShortestFirst : ℕ → List Chosen → Type 0
ShortestFirst D cs = Fits D 0 (filter is_away (reverse (away_order cs)) ++ filter here cs)

-- "Looking only at the last column": at the choices whose setup total is D
abbrev pub LastColumn : ℕ → List Chosen → Type 0
LastColumn D cs = Workable D cs × (total span (filter is_away cs) ≡ D)

-- A least deadline of NONE for all, or one for all.
abbrev pub NeverMet : (List ℕ → Least) → Type 0
NeverMet least = (s : List ℕ) (t : JobTable) → read_table s ≡ accepted t → least_says (least s) ≡ refusal_says None

abbrev pub OneDeadline : (List ℕ → Least) → ℕ → Type 0
OneDeadline least d = (s : List ℕ) (t : JobTable) → read_table s ≡ accepted t → least_says (least s) ≡ 0 ∷ d ∷ []

-- "a check that passes all or none"; an answer's first number is 0 for a pass
abbrev pub verdict : Checked → ℕ
verdict r = get_or (checked_says r) 0 0

abbrev pub PassesAll : (List ℕ → List ℕ → Checked) → Type 0
PassesAll check = (s p : List ℕ) → verdict (check s p) ≡ 0

abbrev pub PassesNone : (List ℕ → List ℕ → Checked) → Type 0
PassesNone check = (s p : List ℕ) → ¬ (verdict (check s p) ≡ 0)

-- A runner: what begin and every other call give.
pub record Runner : Type 0 where
  pub begin : Frame → List ℕ → List ℕ → ℕ → Called
  pub step : Frame → Event → Called

module _ (r : Runner) where
  -- the record after events
  abbrev pub runs : Frame → List Event → Frame
  runs f [] = f
  runs f (e ∷ es) = runs (r.step f e).frame es

  -- the record after a begin from idle and its first event
  abbrev pub first_handled : List ℕ → List ℕ → ℕ → Event → Frame
  first_handled s p n e = (r.step (r.begin idle s p n).frame e).frame

  -- "a runner that handles the first event and then only nods"
  abbrev pub OnlyNods : Type 0
  OnlyNods = (s p : List ℕ) (n : ℕ) (e : Event) (es : List Event) → runs (first_handled s p n e) es ≡ first_handled s p n e

  -- "Keeping the last frame's value until a new one comes": what was fresh reads so in the next frame too
  abbrev pub KeepsValues : Type 0
  KeepsValues =
      (f : Frame) (id : ℕ) (x : Sample) → (r.step f (E.Read id)).answer ≡ Ok (Read (Fresh x)) →
      (s p : List ℕ) (n : ℕ) → (r.begin f s p n).answer ≡ Ok Done →
      (r.step (r.begin f s p n).frame (E.Read id)).answer ≡ Ok (Read (Fresh x))
