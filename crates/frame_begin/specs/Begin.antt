-- Document 01, 'The frame runner': "Begin (table, plan, frame number 0..4,294,967,295): PHASE if open; the check's refusals; NUMBER (never
-- from idle). Opens with the time at 0 and no values." Assumes nothing.
use Rattle.std.specs.Prelude.{ℕ, zero, suc, Bool, false, cond, ◌||◌, List, [], length, get_or, set, replicate, ltb, Option, None, Some, Err, Ok}
use Rattle.model.specs.declared.Job.{Job}
use Rattle.model.specs.Positions.{no_job}
use Rattle.records.specs.Limits.{most_jobs}
use Rattle.records.specs.Refusals as outcome
use Rattle.records.specs.Refusals.{Outcome, accepted}
use Rattle.table.specs.Tables.{JobTable, read_table}
use Rattle.records.specs.declared.refusal.Refusal.TheVariants as R
use Rattle.plan.specs.declared.Step as plan
use Rattle.plan.specs.Plans.{step_id, no_step, read_plan}
use Rattle.judge.specs.Check.{Checked}
use Rattle.judge.specs.Check.{after_plan}
use Rattle.lookup.specs.Lookup.{first, position_of, indexed}
use Rattle.frame_record.specs.Sound.{none, is_idle, ready?}
use Rattle.frame_record.specs.Answers.{refused, done}
use Rattle.frame_record.specs.declared.Phase.TheVariants.{Open}
use Rattle.frame_record.specs.declared.Standing.TheVariants.{Waiting}
use Rattle.frame_record.specs.declared.Entry.{Entry}
use Rattle.frame_record.specs.declared.Frame.{Frame}
use Rattle.frame_record.specs.declared.Called.{Called}

-- the steps of a plan; a plan that is refused has none
abbrev pub steps_in : Outcome (List plan.Step) → List plan.Step
steps_in (accepted xs) = xs
steps_in (outcome.refused r) = []

-- a list of 32 whose first n elements g gives
module _ {A : Type 0} (d : A) (g : ℕ → A) where
  unfoldable pub filled : ℕ → List A
  filled zero = replicate most_jobs d
  filled (suc k) = set (filled k) k (g k)

-- whether the plan sends a job away: the choice of the step, of the first n, that has its id
abbrev pub away_of : List plan.Step → Option ℕ → Bool
away_of xs (Some k) = (get_or xs k no_step).away
away_of xs None = false

unfoldable pub away_in : List plan.Step → ℕ → ℕ → Bool
away_in xs n id = away_of xs (first step_id no_step xs id 0 n)

-- "no values": the i-th job of the table waits
abbrev pub entry_of : List plan.Step → ℕ → Job → Entry
entry_of xs n j = record { id = j.id; away = away_in xs n j.id; standing = Waiting }

unfoldable pub entries_of : List Job → List plan.Step → ℕ → List Entry
entries_of js xs n = filled none (λ (i : ℕ). entry_of xs n (get_or js i no_job)) n

-- the position in the table of the k-th step's job
abbrev pub step_position : List Job → List plan.Step → ℕ → ℕ
step_position js xs k = indexed (position_of js (get_or xs k no_step).id)

unfoldable pub positions_of : List Job → List plan.Step → ℕ → List ℕ
positions_of js xs n = filled 0 (step_position js xs) n

-- the record of a frame that opens
abbrev pub opened : ℕ → ℕ → ℕ → List ℕ → List Entry → Frame
opened number deadline count order es = record {
  phase = Open;
  number = number;
  clock = 0;
  deadline = deadline;
  count = count;
  next = 0;
  order = order;
  entries = es;
}

unfoldable pub begun : ℕ → JobTable → List plan.Step → Frame
begun number t xs =
    let es = entries_of t.jobs xs (length t.jobs) in
    opened number t.deadline (length t.jobs) (positions_of t.jobs xs (length t.jobs)) es

-- "the check's refusals; NUMBER (never from idle)", which is "frame number not above the last one begun"
abbrev pub may_open : Frame → ℕ → Bool
may_open f number = is_idle f.phase || ltb f.number number

abbrev pub begin_checked : Frame → ℕ → Frame → Checked → Called
begin_checked f number g (Err r) = refused r f
begin_checked f number g (Ok run) = cond (may_open f number) (done g) (refused R.Number f)

abbrev pub begin_read : Frame → ℕ → List ℕ → Outcome JobTable → Called
begin_read f number plan (outcome.refused r) = refused r f
begin_read f number plan (accepted t) = begin_checked f number (begun number t (steps_in (read_plan plan))) (after_plan t (read_plan plan))

unfoldable pub begin_step : Frame → List ℕ → List ℕ → ℕ → Called
begin_step f table plan number = cond (ready? f) (begin_read f number plan (read_table table)) (refused R.Phase f)
