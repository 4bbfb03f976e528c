-- Document 01, 'The frame runner', told of calls and answers alone: what the calls so far have come to, and what the next one is answered,
-- in the document's numbers. No frame record is looked at: proofs/Told.antt has that the runner answers so. Assumes nothing.
use Rattle.std.specs.Prelude.{ℕ, Bool, true, cond, List, [], ◌∷◌, get_or, leb, ltb, eqb, Float, Err, Ok}
use Rattle.std.specs.Prelude.{Option, None, Some}
use Rattle.model.specs.declared.Job.{Job}
use Rattle.records.specs.Records.{used}
use Rattle.records.specs.Refusals.{Outcome, accepted, refused, refusal_says}
use Rattle.table.specs.Tables.{JobTable, read_table}
use Rattle.lookup.specs.Lookup.{job_of}
use Rattle.plan.specs.declared.Step.{Step}
use Rattle.plan.specs.Plans.{read_plan}
use Rattle.judge.specs.Check.{Checked}
use Rattle.judge.specs.Check.{check_plan}
use Rattle.frame_record.specs.Finite.{finite?}
use Rattle.frame_record.specs.Answers.{Reply, says}
use Rattle.frame_promises.specs.Call.{Call, begin, event}
use Rattle.frame_record.specs.declared.Event.{Event}
use Rattle.frame_record.specs.declared.Event.TheVariants as E

-- a call, with what its answer says
pub record Turn : Type 0 where
  pub call : Call
  pub said : Reply

-- a value that was reported for a job, and when
pub record Report : Type 0 where
  pub job : ℕ
  pub time : ℕ
  pub value : Float

-- a frame since its begin was accepted
pub record Last : Type 0 where
  -- the begin's number, and the table that its bytes are
  pub number : ℕ
  pub table : JobTable
  -- the steps of its plan whose spans have not ended, the first of them "now on the panel"; the ids of the jobs that are "out"
  pub to_come : List Step
  pub out : List ℕ
  -- the reports accepted, the latest first; "the time of the last accepted event"
  pub reports : List Report
  pub clock : ℕ

-- "Phases: idle, open, closed."
pub data History : Type 0 where
  idle : History
  opened : Last → History
  closed : Last → History

-- ---- what a call is answered

abbrev pub done : Reply
done = says (0 ∷ [])

abbrev pub refuse : ℕ → Reply
refuse n = says (n ∷ [])

-- "Begin: PHASE if open; the check's refusals; NUMBER (never from idle)"
abbrev pub begins : Checked → Bool → Reply
begins (Err r) above = says (refusal_says r)
begins (Ok run) above = cond above done (refuse 13)

-- "Next: PHASE unless open; else the job now on the panel with its choice, or none left."
abbrev pub nexts : List Step → Reply
nexts [] = says (0 ∷ 0 ∷ [])
nexts (x ∷ xs) = says (0 ∷ 1 ∷ x.id ∷ cond x.away 1 0 ∷ [])

-- "CLOCK: time below that of the last accepted event"
abbrev pub on_clock : Last → ℕ → Reply → Reply
on_clock b t s = cond (ltb t b.clock) (refuse 14) s

-- "VALUE: value not a number, or infinite"
abbrev pub valued : Float → Reply
valued v = cond (finite? v) done (refuse 16)

-- "Span end: PHASE unless open; CLOCK; WHO unless it is the job now on the panel; for a here job VALUE."
abbrev pub span_ends : List Step → ℕ → Float → Reply
span_ends [] id v = refuse 15
span_ends (x ∷ xs) id v = cond (eqb x.id id) (cond x.away done (valued v)) (refuse 15)

-- "Return: PHASE unless open; NUMBER; CLOCK; WHO unless that job is out; VALUE."
abbrev pub returns : Last → ℕ → ℕ → ℕ → Float → Reply
returns b n id t v = cond (eqb n b.number) (on_clock b t (cond (used b.out id) (valued v) (refuse 15))) (refuse 13)

-- "Close: PHASE unless open; CLOCK; EARLY if time < D."
abbrev pub closes : Last → ℕ → Reply
closes b t = on_clock b t (cond (ltb t b.table.deadline) (refuse 17) done)

-- "Read: PHASE if idle; WHO if not in the table; else fresh with its value, pending, late, or missing (closed, never reported)"
unfoldable pub report_of : List Report → ℕ → Option Report
report_of [] id = None
report_of (r ∷ rs) id = cond (eqb r.job id) (Some r) (report_of rs id)

abbrev pub fresh : ℕ → Float → Reply
fresh number v = record { numbers = 0 ∷ 0 ∷ number ∷ []; float = Some v }

abbrev pub reading : Last → Reply → Option Report → Reply
reading b unreported None = unreported
reading b unreported (Some r) = cond (leb r.time b.table.deadline) (fresh b.number r.value) (says (0 ∷ 2 ∷ []))

abbrev pub read_in : Last → Reply → ℕ → Option Job → Reply
read_in b unreported id None = refuse 15
read_in b unreported id (Some j) = reading b unreported (report_of b.reports id)

abbrev pub reads : Last → Reply → ℕ → Reply
reads b unreported id = read_in b unreported id (job_of b.table.jobs id)

abbrev pub in_open : Last → Event → Reply
in_open b E.Next = nexts b.to_come
in_open b (E.SpanEnd id t v) = on_clock b t (span_ends b.to_come id v)
in_open b (E.Return n id t v) = returns b n id t v
in_open b (E.Close t) = closes b t
in_open b (E.Read id) = reads b (says (0 ∷ 1 ∷ [])) id

abbrev pub in_closed : Last → Event → Reply
in_closed b E.Next = refuse 12
in_closed b (E.SpanEnd id t v) = refuse 12
in_closed b (E.Return n id t v) = refuse 12
in_closed b (E.Close t) = refuse 12
in_closed b (E.Read id) = reads b (says (0 ∷ 3 ∷ [])) id

abbrev pub reply : History → Call → Reply
reply idle (begin table plan number) = begins (check_plan table plan) true
reply idle (event e) = refuse 12
reply (opened b) (begin table plan number) = refuse 12
reply (opened b) (event e) = in_open b e
reply (closed b) (begin table plan number) = begins (check_plan table plan) (ltb b.number number)
reply (closed b) (event e) = in_closed b e

-- ---- what a call that is accepted adds

-- "Opens with the time at 0 and no values": what was before is gone
abbrev pub opens : ℕ → Outcome JobTable → Outcome (List Step) → History → History
opens number (accepted t) (accepted xs) h = opened (record { number = number; table = t; to_come = xs; out = []; reports = []; clock = 0 })
opens number (accepted t) (refused r) h = h
opens number (refused r) plan h = h

abbrev pub since : Last → ℕ → List Step → List ℕ → List Report → Last
since b t to_come out reports = record {
  number = b.number;
  table = b.table;
  to_come = to_come;
  out = out;
  reports = reports;
  clock = t;
}

-- "A here job gets its value ... An away job is now out, its value argument ignored. The next job starts at this time."
abbrev pub span_ended : Last → ℕ → Float → List Step → Last
span_ended b t v [] = b
span_ended b t v (x ∷ xs) =
    since b t xs (cond x.away (x.id ∷ b.out) b.out)
    (cond x.away b.reports (record { job = x.id; time = t; value = v } ∷ b.reports))

-- "no longer out"
unfoldable pub without : List ℕ → ℕ → List ℕ
without [] id = []
without (i ∷ is) id = cond (eqb i id) (without is id) (i ∷ without is id)

abbrev pub happens : Last → Event → History
happens b E.Next = opened b
happens b (E.SpanEnd id t v) = opened (span_ended b t v b.to_come)
happens b (E.Return n id t v) =
    opened (since b t b.to_come (without b.out id) (record { job = id; time = t; value = v } ∷ b.reports))
happens b (E.Close t) = closed (since b t b.to_come b.out b.reports)
happens b (E.Read id) = opened b

abbrev pub accepts : History → Call → History
accepts h (begin table plan number) = opens number (read_table table) (read_plan plan) h
accepts idle (event e) = idle
accepts (opened b) (event e) = happens b e
accepts (closed b) (event e) = closed b

-- ---- sequences

-- a call is accepted that is answered 0; a refused one changes nothing
abbrev pub is_accepted : Reply → Bool
is_accepted s = eqb (get_or s.numbers 0 0) 0

abbrev pub told : History → Call → Reply → History
told h c s = cond (is_accepted s) (accepts h c) h

-- what turns come to, the oldest first
unfoldable pub history : History → List Turn → History
history h [] = h
history h (t ∷ ts) = history (told h t.call t.said) ts

-- what calls are answered, one after the other: of the calls alone
unfoldable pub replies : History → List Call → List Reply
replies h [] = []
replies h (c ∷ cs) = reply h c ∷ replies (told h c (reply h c)) cs
