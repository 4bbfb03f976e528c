-- Every accepted table is good: at most 32 jobs with distinct ids, times up to 4,000, and a deadline from 1 to 4,000.
-- What is accepted is a frame record and an accepted list of jobs (`Read`), and proofs/Written.antt goes by that too. Assumes nothing.
use Prim.Native.Nat.{ℕ, suc, ◌≤◌, ◌-◌}
use native.Mathlib.Omega.{arith}
use mathlib.Core.Path.{◌≡◌, refl}
use mathlib.Core.List.{List, [], ◌∷◌}
use lib.ListN.{length, replicate}
use lib.Seq.{take_at}
use Rattle.model.specs.declared.Job.{Job}
use Rattle.model.specs.Lists.{All}
use Rattle.model.specs.Positions.{no_job}
use Rattle.model.proofs.Lists.{clash, all_append}
use Rattle.std.specs.Prelude.{Result}
use Rattle.records.specs.declared.refusal.Refusal.{Refusal}
use Rattle.records.specs.declared.refusal.Place.{Place}
use Rattle.records.specs.Limits.{most_jobs, largest_time}
use Rattle.records.specs.Refusals.{start, past, Outcome, accepted, refused}
use Rattle.records.specs.Records.{one}
use Rattle.table.specs.Tables.{JobTable, TimesOk, GoodTable, job_id, jobs_read, with_deadline, after_frame, read_table, Sound, job_table, table_of}
use Rattle.records.proofs.Listed.{listed_all, listed_good}
use Rattle.table.proofs.Tables.{frame_all, row_parsed, RowIs, row_here, row_either, row_is, row_few}

-- what an accepted byte string tells of its table: the deadline is in range, and the jobs behind the frame record are accepted
pub record Read (s : List ℕ) (t : JobTable) : Type 0 where
  pub low : 1 ≤ t.deadline
  pub high : t.deadline ≤ largest_time
  pub first : Place
  pub jobs : jobs_read s first ≡ accepted t.jobs

-- a table is accepted only with its jobs
with_deadline_lem : (D : ℕ) (o : Outcome (List Job)) (t : JobTable) → with_deadline D o ≡ accepted t → (t.deadline ≡ D) × (o ≡ accepted t.jobs)
with_deadline_lem D (accepted js) t e = (cc, cc)
with_deadline_lem D (refused f) t e = clash (cc)

pub accepted_read : (s : List ℕ) (t : JobTable) → read_table s ≡ accepted t → Read s t
unfolding read_table
accepted_read s t e =
    frame_all s start (λ (a : Result (ℕ × Place) Refusal). after_frame s a ≡ accepted t → Read s t)
    (λ f x. clash (cc))
    (λ kind whole low high x.
    let r = with_deadline_lem _ _ t x in
    record { low = rw r.0 low; high = rw r.0 high; first = past start 2; jobs = r.1 })
    e

-- a job that is read has times in range
row_times : {s : List ℕ} {p : Place} {n : ℕ} {j : Job} {next : Place} → RowIs s p n (one j next) → TimesOk largest_time j
row_times (row_here b h few t) = record { local = t; setup = omega arith; back = omega arith }
row_times (row_either b h few t u v) = record { local = t; setup = u; back = v }

pub accepted_good : (s : List ℕ) (t : JobTable) → read_table s ≡ accepted t → GoodTable t
unfolding jobs_read
accepted_good s t e =
    let r = accepted_read s t e in
    let g = listed_good job_id (row_parsed s) (length s) (λ p n j next x. row_few (row_is s p n x)) r.first t.jobs r.jobs in
    let times =
    listed_all job_id (row_parsed s) (length s) (λ (js : List Job) (p : Place). All (TimesOk largest_time) js) (All (TimesOk largest_time))
    (λ js p j next ok x new. all_append (TimesOk largest_time) js (j ∷ []) ok (row_times (row_is s p (length js) x), tt))
    (λ js p next ok x end. ok)
    (suc most_jobs) [] r.first tt t.jobs r.jobs in
    record { few = g.0; distinct = g.1; times = times; low = r.low; high = r.high }

-- what the code holds of it reads as the same table, and is sound
pub held_table : (t : JobTable) → job_table (table_of t.deadline t.jobs) ≡ t
held_table t =
    let e = take_at t.jobs (replicate (most_jobs - length t.jobs) no_job) (length t.jobs) refl in λ i. record { deadline = t.deadline; jobs = e i }

pub held_sound : (t : JobTable) → GoodTable t → Sound (table_of t.deadline t.jobs)
held_sound t g = record { few = g.few; good = rw held_table g }
