-- Document 01, 'The check' and 'The frame runner', on a frame that keeps to a plan: what each job does, when its events come, and which
-- turns may stand between them. Told of calls and answers; proofs/Own.antt has the theorem. Assumes nothing.
use Rattle.std.specs.Prelude.{ℕ, suc, ◌+◌, ◌≤◌, ◌<◌, ◌≡◌, Bool, true, false, length, get_or, take, Float}
use mathlib.Core.List.{List, [], ◌∷◌, ◌++◌, map, Memᴰ}
use Rattle.std.specs.Float.{nan}
use Rattle.model.specs.declared.Job.{Job}
use Rattle.model.specs.Lists.{All, total}
use Rattle.model.specs.Positions.{no_choice}
use Rattle.model.specs.Timetable.{Chosen}
use Rattle.model.specs.Run.{Took}
use Rattle.records.specs.Refusals.{accepted}
use Rattle.table.specs.Tables.{JobTable}
use Rattle.plan.specs.declared.Step.{Step}
use Rattle.plan.specs.Plans.{steps_for}
use Rattle.judge.specs.Check.{checked_says, check_plan}
use Rattle.faults.specs.Faults.{TableIs, PlanIs}
use Rattle.faults.specs.Checks.{PlanOf}
use Rattle.frame_record.specs.Answers.{Reply}
use Rattle.frame_promises.specs.Call.{Call, begin, event}
use Rattle.frame_record.specs.declared.Event.TheVariants as E
use Rattle.frame_promises.specs.History.{Turn, done, fresh, is_accepted}
use Rattle.frame_promises.specs.Runs.{FromIdle}
use Rattle.frame_promises.specs.Readings.{NoBegin, LastBegin, IsClosed}

-- ---- when a begin is accepted

-- no frame is open: none was begun, or the last one was closed
pub data NotOpen (ts : List Turn) : Type 0 where
  none_begun : All NoBegin ts → NotOpen ts
  was_closed :
      {number : ℕ} {jobs : JobTable} {steps : List Step} {since : List Turn} → LastBegin ts number jobs steps since → IsClosed since →
      NotOpen ts

-- "above the last one begun"; any, where there is none
abbrev pub AboveLast : List Turn → ℕ → Type 0
AboveLast ts n = (number : ℕ) (jobs : JobTable) (steps : List Step) (since : List Turn) → LastBegin ts number jobs steps since → number < n

-- the check passes
abbrev pub Passes : List ℕ → List ℕ → Type 0
Passes table plan = (last : ℕ) × (busy : ℕ) × (checked_says (check_plan table plan) ≡ 0 ∷ last ∷ busy ∷ [])

-- "Begin: PHASE if open; the check's refusals; NUMBER (never from idle)"
pub record MayBegin (ts : List Turn) (table plan : List ℕ) (number : ℕ) : Type 0 where
  pub not_open : NotOpen ts
  pub passes : Passes table plan
  pub above : AboveLast ts number

-- ---- what the jobs of a plan do

-- the bytes are the table t and a plan of exactly its jobs, with the choices cs
pub record PassingPlan (table plan : List ℕ) (t : JobTable) (cs : List Chosen) : Type 0 where
  pub is_table : TableIs table (accepted t)
  pub is_plan : PlanIs plan (accepted (steps_for cs))
  pub exactly : PlanOf t.jobs cs

-- how long a job's span and its return take, and which value it has
pub record Doing : Type 0 where
  pub took : Took
  pub value : Float

-- the run that they make
abbrev pub run_of : List Doing → List Took
run_of ds = map (λ (d : Doing). d.took) ds

-- what the k-th job of the plan does; past the last one stands `no_doing`, of which nothing is said
abbrev pub no_doing : Doing
no_doing = record { took = record { what = no_choice; spent = 0; waited = 0 }; value = nan }

abbrev pub doing_at : List Doing → ℕ → Doing
doing_at ds k = get_or ds k no_doing

abbrev pub done_job : List Doing → ℕ → Job
done_job ds k = (doing_at ds k).took.what.job

abbrev pub id_at : List Doing → ℕ → ℕ
id_at ds k = (done_job ds k).id

abbrev pub away_at : List Doing → ℕ → Bool
away_at ds k = (doing_at ds k).took.what.away

abbrev pub value_at : List Doing → ℕ → Float
value_at ds k = (doing_at ds k).value

-- "back to back from tick 0": its span ends when all spans up to it are spent
unfoldable pub span_time : List Doing → ℕ → ℕ
span_time ds k = total (λ (d : Doing). d.took.spent) (take (suc k) ds)

-- "plus its return if away"
abbrev pub back_time : List Doing → ℕ → ℕ
back_time ds k = span_time ds k + (doing_at ds k).took.waited

-- the two events of the k-th job of the plan: its span's end, and its return with the number that it was given
abbrev pub span_call : List Doing → ℕ → Float → Call
span_call ds k v = event (E.SpanEnd (id_at ds k) (span_time ds k) v)

abbrev pub back_call : ℕ → List Doing → ℕ → Call
back_call number ds k = event (E.Return number (id_at ds k) (back_time ds k) (value_at ds k))

-- a turn that reports nothing under the frame's number: "next, read, begin, returns of other numbers, calls that are refused"
pub data Quiet (number : ℕ) (t : Turn) : Type 0 where
  asks_next : t.call ≡ event E.Next → Quiet number t
  asks_read : {id : ℕ} → t.call ≡ event (E.Read id) → Quiet number t
  asks_begin : {table plan : List ℕ} {n : ℕ} → t.call ≡ begin table plan n → Quiet number t
  other_number : {n id time : ℕ} {v : Float} → t.call ≡ event (E.Return n id time v) → (n ≡ number → ⊥) → Quiet number t
  is_refused : is_accepted t.said ≡ false → Quiet number t

-- The turns by which a frame runs to its end: n spans have ended, the jobs at the positions `home` of the plan are back, and t is the time of the
-- last event. "In time order, stays in plan order, an answer after its job's stay."
pub data Plays (number : ℕ) (ds : List Doing) : ℕ → List ℕ → ℕ → List Turn → Type 0 where
  -- every span has ended and every away job is back
  over :
      {n : ℕ} {home : List ℕ} {t : ℕ} → n ≡ length ds → ((k : ℕ) → k < length ds → away_at ds k ≡ true → Memᴰ k home) →
      Plays number ds n home t []
  -- a turn between the events
  quiet :
      {n : ℕ} {home : List ℕ} {t : ℕ} {u : Turn} {us : List Turn} → Quiet number u → Plays number ds n home t us →
      Plays number ds n home t (u ∷ us)
  -- the next span of the plan ends; an away job's value argument is ignored, so any is given
  spans :
      {n : ℕ} {home : List ℕ} {t : ℕ} {u : Turn} {us : List Turn} {v : Float} →
      u.call ≡ span_call ds n v → n < length ds → t ≤ span_time ds n → (away_at ds n ≡ false → v ≡ value_at ds n) →
      Plays number ds (n + 1) home (span_time ds n) us → Plays number ds n home t (u ∷ us)
  -- a job that is away, whose span has ended and which is not yet back, comes back
  backs :
      {n : ℕ} {home : List ℕ} {t : ℕ} {u : Turn} {us : List Turn} {k : ℕ} →
      u.call ≡ back_call number ds k → k < n → away_at ds k ≡ true → (Memᴰ k home → ⊥) → t ≤ back_time ds k →
      Plays number ds n (k ∷ home) (back_time ds k) us → Plays number ds n home t (u ∷ us)

-- every span end and every return of them is accepted
unfoldable pub AllDone :
    {number : ℕ} {ds : List Doing} {n : ℕ} {home : List ℕ} {t : ℕ} {us : List Turn} → Plays number ds n home t us → Type 0
AllDone (over all back) = Unit {0}
AllDone (quiet q p) = AllDone p
AllDone (spans {u = u} is inside later own p) = (u.said ≡ done) × AllDone p
AllDone (backs {u = u} is ended away out later p) = (u.said ≡ done) × AllDone p

-- ---- what comes of it

-- after these turns the call is answered so, whatever follows
abbrev pub Answers : List Turn → Call → Reply → Type 0
Answers ts c s = (r : Reply) (rest : List Turn) → FromIdle (ts ++ (record { call = c; said = r } ∷ rest)) → r ≡ s

-- every job reads fresh, with its own value and this frame's number
abbrev pub OwnValues : ℕ → List Doing → List Turn → Type 0
OwnValues number ds ts = (k : ℕ) → k < length ds → Answers ts (event (E.Read (id_at ds k))) (fresh number (value_at ds k))

-- turns that only read
abbrev pub OnlyReads : List Turn → Type 0
OnlyReads = All (λ (t : Turn). (id : ℕ) × (t.call ≡ event (E.Read id)))

-- "each job ends with its own value": every job of the table is one of the plan's, and all have their own values before the close and after
-- it; the close is accepted at every time from the deadline on, as no event is later
pub record EachOwn (number : ℕ) (t : JobTable) (ds : List Doing) (ts : List Turn) : Type 0 where
  pub each : (j : Job) → Memᴰ j t.jobs → (k : ℕ) × (k < length ds) × (done_job ds k ≡ j)
  pub open_reads : OwnValues number ds ts
  pub closes : (time : ℕ) → t.deadline ≤ time → Answers ts (event (E.Close time)) done
  pub closed_reads :
      (time : ℕ) → t.deadline ≤ time → (s : Reply) (us : List Turn) → OnlyReads us →
      OwnValues number ds (ts ++ (record { call = event (E.Close time); said = s } ∷ us))
