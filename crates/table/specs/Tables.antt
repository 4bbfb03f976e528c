-- Document 01, 'Bytes': "A table is one 0x10 first, 0 to 32 jobs with distinct ids, one 0x1F, nothing after."
-- `read_table` says what a byte string means as a table, or which refusal it gets. Assumes nothing.
use Rattle.std.specs.Prelude.{ℕ, suc, ◌+◌, ◌-◌, ◌≤◌, ◌≡◌, Bool, cond, ◌&&◌, List, [], ◌∷◌, ◌++◌, length, get_or, take, replicate, ltb, leb, Result, Ok, Err}
use Rattle.model.specs.declared.Sending.{Sending}
use Rattle.model.specs.declared.Sending.TheVariants.{HereOnly, Either}
use Rattle.model.specs.declared.Job.{Job}
use Rattle.model.specs.Positions.{no_job}
use Rattle.model.specs.Lists.{All, Pairwise}
use Rattle.model.specs.Timetable.{setup_time, return_time, Chosen}
use Rattle.model.specs.FreeOrder.{busy}
use Rattle.octets.specs.Numbers.{two_at, two_bytes}
use Rattle.records.specs.declared.refusal.Place.{Place}
use Rattle.records.specs.declared.refusal.Refusal.{Refusal}
use Rattle.records.specs.declared.refusal.Refusal.TheVariants.{Range, Many}
use Rattle.records.specs.declared.kind.FrameKind.{FrameKind}
use Rattle.records.specs.declared.kind.RowKind.{RowKind}
use Rattle.records.specs.declared.kind.RowKind.TheVariants.{HereRow, EitherRow, EndRow}
use Rattle.records.specs.declared.record.Record.{Record}
use Rattle.records.specs.declared.record.Record.TheVariants.{Listed, Last}
use Rattle.table.specs.declared.Table.{Table}
use Rattle.records.specs.Limits.{most_jobs, largest_time}
use Rattle.records.specs.Refusals.{start, refusal_says, Outcome, accepted, refused}
use Rattle.records.specs.Kinds.{frame_kind, here_kind, either_kind, table_end}
use Rattle.records.specs.Records.{frame_only, row_only, judged, parsed, list_from}

-- What a table means: a deadline and its jobs.
pub record JobTable : Type 0 where
  pub deadline : ℕ
  pub jobs : List Job

-- The deadline of a run of these choices: what timetables, planners, check and runner hold a finish to. Today the table's D, whatever is chosen.
abbrev pub run_deadline : JobTable → List Chosen → ℕ
run_deadline t cs = t.deadline

-- Its busy total: what planners compare and say, and the check answers. Today the sum of the spans.
abbrev pub run_busy : JobTable → List Chosen → ℕ
run_busy t cs = busy cs

-- "RANGE: a time above 4,000, or D = 0"
abbrev pub time_ok : ℕ → Bool
time_ok t = leb t largest_time

-- a time of the record at a place, so many bytes behind its kind byte
abbrev pub time_at : List ℕ → Place → ℕ → Result ℕ Refusal
time_at s p behind = cond (time_ok (two_at s (p.at + behind))) (Ok (two_at s (p.at + behind))) (Err (Range p))

-- The first record: D, and the place of the record after it.
abbrev pub deadline_at : List ℕ → Place → Place → Result (ℕ × Place) Refusal
deadline_at s p next =
    let D = two_at s (p.at + 1) in
    cond (ltb 0 D && time_ok D) (Ok (D, next)) (Err (Range p))

unfoldable pub frame_at : List ℕ → Place → Result (ℕ × Place) Refusal
frame_at s p = judged Err (λ (next : Place) (k : FrameKind). deadline_at s p next) frame_only s p

-- The bodies of the two kinds of job, once they are whole: "here-only: id, C", "either: id, C, S, I".
abbrev pub here_at : List ℕ → Place → Job
here_at s p = record { id = get_or s (p.at + 1) 0; local = two_at s (p.at + 2); sending = HereOnly }

abbrev pub either_at : List ℕ → Place → Job
either_at s p = record { id = get_or s (p.at + 1) 0; local = two_at s (p.at + 2); sending = Either (two_at s (p.at + 4)) (two_at s (p.at + 6)) }

abbrev pub here_job : List ℕ → Place → Place → Result (Record Job) Refusal
here_job s p next = cond (time_ok (two_at s (p.at + 2))) (Ok (Listed (here_at s p) next)) (Err (Range p))

abbrev pub either_job : List ℕ → Place → Place → Result (Record Job) Refusal
either_job s p next =
    cond (time_ok (two_at s (p.at + 2)) && (time_ok (two_at s (p.at + 4)) && time_ok (two_at s (p.at + 6))))
    (Ok (Listed (either_at s p) next))
    (Err (Range p))

-- "33rd job MANY; RANGE", where `count` jobs stand before
abbrev pub row_body : List ℕ → Place → ℕ → Place → RowKind → Result (Record Job) Refusal
row_body s p count next HereRow = cond (ltb count most_jobs) (here_job s p next) (Err (Many p))
row_body s p count next EitherRow = cond (ltb count most_jobs) (either_job s p next) (Err (Many p))
row_body s p count next EndRow = Ok (Last next)

unfoldable pub job_at : List ℕ → Place → ℕ → Result (Record Job) Refusal
job_at s p count = judged Err (row_body s p count) row_only s p

abbrev pub job_id : Job → ℕ
job_id j = j.id

-- "0 to 32 jobs with distinct ids, one 0x1F, nothing after": the records from a place on, which is where the first one ends
unfoldable pub jobs_read : List ℕ → Place → Outcome (List Job)
jobs_read s = list_from job_id (λ (p : Place) (count : ℕ). parsed (job_at s p count)) (length s) (suc most_jobs) []

-- the jobs, with the deadline beside them
abbrev pub with_deadline : ℕ → Outcome (List Job) → Outcome JobTable
with_deadline D (accepted js) = accepted (record { deadline = D; jobs = js })
with_deadline D (refused f) = refused f

abbrev pub after_frame : List ℕ → Result (ℕ × Place) Refusal → Outcome JobTable
after_frame s (Ok r) = with_deadline r.0 (jobs_read s r.1)
after_frame s (Err f) = refused f

unfoldable pub read_table : List ℕ → Outcome JobTable
read_table s = after_frame s (frame_at s start)

-- What every accepted table is (proofs/Accepted.antt).

-- no time is above this
pub record TimesOk (most : ℕ) (j : Job) : Type 0 where
  pub local : j.local ≤ most
  pub setup : setup_time j ≤ most
  pub back : return_time j ≤ most

pub record GoodTable (t : JobTable) : Type 0 where
  pub few : length t.jobs ≤ most_jobs
  pub distinct : Pairwise (λ (i j : Job). ¬ (i.id ≡ j.id)) t.jobs
  pub times : All (TimesOk largest_time) t.jobs
  pub low : 1 ≤ t.deadline
  pub high : t.deadline ≤ largest_time

-- A table as the code holds it: the entries that no job has hold `no_job`.

abbrev pub table_of : ℕ → List Job → Table
table_of D js = record { deadline = D; count = length js; jobs = js ++ replicate (most_jobs - length js) no_job }

abbrev pub empty_table : Table
empty_table = table_of 0 []

-- and read again as a deadline and jobs
abbrev pub job_table : Table → JobTable
job_table t = record { deadline = t.deadline; jobs = take t.count t.jobs }

-- a table that the reader may have accepted
pub record Sound (t : Table) : Type 0 where
  pub few : t.count ≤ most_jobs
  pub good : GoodTable (job_table t)

-- what `read_table` answers: the table as the code holds it, or the refusal
abbrev pub table_read : Outcome JobTable → Result Table Refusal
table_read (accepted t) = Ok (table_of t.deadline t.jobs)
table_read (refused f) = Err f

-- number and values of the reader's verdict: 0 for a table, else the refusal's
abbrev pub verdict_says : Result Table Refusal → List ℕ
verdict_says (Ok t) = 0 ∷ []
verdict_says (Err f) = refusal_says f

-- The bytes of a table: the one byte string that reads as it.

abbrev pub sending_bytes : ℕ → ℕ → Sending → List ℕ
sending_bytes id C HereOnly = here_kind ∷ id ∷ two_bytes C
sending_bytes id C (Either S I) = either_kind ∷ id ∷ (two_bytes C ++ (two_bytes S ++ two_bytes I))

abbrev pub job_bytes : Job → List ℕ
job_bytes j = sending_bytes j.id j.local j.sending

unfoldable pub jobs_bytes : List Job → List ℕ
jobs_bytes [] = table_end ∷ []
jobs_bytes (j ∷ js) = job_bytes j ++ jobs_bytes js

unfoldable pub table_bytes : JobTable → List ℕ
table_bytes t = frame_kind ∷ (two_bytes t.deadline ++ jobs_bytes t.jobs)
