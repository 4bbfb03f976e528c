-- Document 01, 'The frame runner', on reads: what a read says, told of the turns before it, with neither a record nor a fold. Assumes nothing.
use Rattle.std.specs.Prelude.{ℕ, ◌≤◌, ◌<◌, ◌≡◌, true, false, Float}
use mathlib.Core.List.{List, [], ◌∷◌, ◌++◌, Memᴰ}
use Rattle.model.specs.declared.Job.{Job}
use Rattle.model.specs.Lists.{All}
use Rattle.records.specs.Refusals as outcome
use Rattle.table.specs.Tables.{JobTable, read_table}
use Rattle.plan.specs.declared.Step.{Step}
use Rattle.plan.specs.Plans.{read_plan}
use Rattle.frame_record.specs.Answers.{Reply, says}
use Rattle.frame_promises.specs.Call.{Call, begin, event}
use Rattle.frame_record.specs.declared.Event.TheVariants as E
use Rattle.frame_promises.specs.History.{Turn, refuse, fresh, is_accepted}

-- the call is among the turns, and was accepted
pub record Did (c : Call) (ts : List Turn) : Type 0 where
  pub turn : Turn
  pub among : Memᴰ turn ts
  pub is_call : turn.call ≡ c
  pub accepted : is_accepted turn.said ≡ true

abbrev pub NoBegin : Turn → Type 0
NoBegin t = (table plan : List ℕ) (number : ℕ) → t.call ≡ begin table plan number → is_accepted t.said ≡ true → ⊥

-- the last accepted begin: its number, the table and the plan that its bytes are, and the turns since
pub record LastBegin (ts : List Turn) (number : ℕ) (jobs : JobTable) (steps : List Step) (since : List Turn) : Type 0 where
  pub before : List Turn
  pub turn : Turn
  pub table : List ℕ
  pub plan : List ℕ
  pub turns : ts ≡ before ++ (turn ∷ since)
  pub is_begin : turn.call ≡ begin table plan number
  pub accepted : is_accepted turn.said ≡ true
  pub is_table : read_table table ≡ outcome.accepted jobs
  pub is_plan : read_plan plan ≡ outcome.accepted steps
  pub last : All NoBegin since

-- "an accepted report for that job": a return with the frame's number, or the end of its span where the plan has it run here
pub data Reported (since : List Turn) (steps : List Step) (number id time : ℕ) (v : Float) : Type 0 where
  by_return : Did (event (E.Return number id time v)) since → Reported since steps number id time v
  by_span :
      Memᴰ (record { id = id; away = false }) steps → Did (event (E.SpanEnd id time v)) since →
      Reported since steps number id time v

abbrev pub Unreported : List Turn → List Step → (number id : ℕ) → Type 0
Unreported since steps number id = (time : ℕ) (v : Float) → Reported since steps number id time v → ⊥

abbrev pub IsClosed : List Turn → Type 0
IsClosed since = (time : ℕ) × Did (event (E.Close time)) since

abbrev pub Has : List Job → ℕ → Type 0
Has js id = (j : Job) × Memᴰ j js × (j.id ≡ id)

-- "Read (id): PHASE if idle; WHO if not in the table; else fresh with its value, pending, late, or missing (closed, never reported)"
pub data ReadSays (ts : List Turn) (id : ℕ) : Reply → Type 0 where
  never_begun : All NoBegin ts → ReadSays ts id (refuse 12)
  no_job :
      {number : ℕ} {jobs : JobTable} {steps : List Step} {since : List Turn} → LastBegin ts number jobs steps since →
      (Has jobs.jobs id → ⊥) → ReadSays ts id (refuse 15)
  is_fresh :
      {number : ℕ} {jobs : JobTable} {steps : List Step} {since : List Turn} → LastBegin ts number jobs steps since →
      Has jobs.jobs id → {time : ℕ} {v : Float} → Reported since steps number id time v → time ≤ jobs.deadline →
      ReadSays ts id (fresh number v)
  is_pending :
      {number : ℕ} {jobs : JobTable} {steps : List Step} {since : List Turn} → LastBegin ts number jobs steps since →
      Has jobs.jobs id → Unreported since steps number id → (IsClosed since → ⊥) → ReadSays ts id (says (0 ∷ 1 ∷ []))
  is_late :
      {number : ℕ} {jobs : JobTable} {steps : List Step} {since : List Turn} → LastBegin ts number jobs steps since →
      Has jobs.jobs id → {time : ℕ} {v : Float} → Reported since steps number id time v → jobs.deadline < time →
      ReadSays ts id (says (0 ∷ 2 ∷ []))
  is_missing :
      {number : ℕ} {jobs : JobTable} {steps : List Step} {since : List Turn} → LastBegin ts number jobs steps since →
      Has jobs.jobs id → Unreported since steps number id → IsClosed since → ReadSays ts id (says (0 ∷ 3 ∷ []))

-- "each fresh reading gives the value of an accepted report for that job, sent for the frame whose number is read, at a time not after the
-- deadline": accepted after the begin of that frame, the last one accepted, and not after the deadline of the table that it was begun with
pub record Behind (ts : List Turn) (id number : ℕ) (v : Float) : Type 0 where
  pub jobs : JobTable
  pub steps : List Step
  pub since : List Turn
  pub begun : LastBegin ts number jobs steps since
  pub time : ℕ
  pub reported : Reported since steps number id time v
  pub in_time : time ≤ jobs.deadline
