-- Where the records of a table begin, and that the ids of an accepted table are bytes.
-- Assumes nothing.
use mathlib.Core.Path.{◌≡◌}
use mathlib.Core.List.{List, [], ◌∷◌, ◌++◌}
use Prim.Native.Nat.{ℕ, suc, ◌+◌, ◌*◌, ◌≤◌, ◌<◌}
use native.Mathlib.Omega.{arith}
use lib.ListN.{length, get_or, length-append}
use Rattle.model.specs.declared.Job.{Job}
use Rattle.model.specs.Lists.{All}
use Rattle.model.proofs.Lists.{all_append}
use Rattle.records.specs.Limits.{most_jobs}
use Rattle.records.specs.declared.refusal.Place.{Place}
use Rattle.records.specs.Refusals.{start, past, accepted}
use Rattle.records.specs.Records.{one}
use Rattle.table.specs.Tables.{JobTable, job_id, jobs_read, read_table}
use Rattle.table.proofs.Written.{row_next}
use Rattle.records.proofs.Listed.{listed_all}
use Rattle.table.proofs.Tables.{row_parsed, RowIs, row_here, row_either, row_is, row_few}
use Rattle.table.proofs.Accepted.{accepted_read}

-- the record after n jobs begins at 3 + 8 n at the latest, and n is at most 32
pub record Near (js : List Job) (p : Place) : Type 0 where
  pub few : length js ≤ most_jobs
  pub near : p.at ≤ 3 + 8 * length js

pub near_next :
    {s : List ℕ} {js : List Job} {p : Place} {j : Job} {next : Place} → Near js p → RowIs s p (length js) (one j next) → Near (js ++ (j ∷ [])) next
near_next {s} {js} {p} {j} near row =
    record { few = omega (arith, row_few row, length-append js (j ∷ [])); near = omega (arith, near.near, row_next row, length-append js (j ∷ [])) }

pub near_first : Near [] (past start 2)
near_first = record { few = omega arith; near = omega arith }

-- the ids of an accepted table are bytes
row_id : {s : List ℕ} {p : Place} {n : ℕ} {j : Job} {next : Place} → ((i : ℕ) → get_or s i 0 < 256) → RowIs s p n (one j next) → j.id < 256
row_id {s} {p} bytes (row_here b h few t) = bytes (p.at + 1)
row_id {s} {p} bytes (row_either b h few t u v) = bytes (p.at + 1)

pub accepted_ids : (s : List ℕ) (t : JobTable) → ((i : ℕ) → get_or s i 0 < 256) → read_table s ≡ accepted t → All (λ (j : Job). j.id < 256) t.jobs
unfolding jobs_read
accepted_ids s t bytes e =
    let r = accepted_read s t e in
    listed_all job_id (row_parsed s) (length s) (λ (js : List Job) (p : Place). All (λ (j : Job). j.id < 256) js) (All (λ (j : Job). j.id < 256))
    (λ js p j next ok x new. all_append (λ (k : Job). k.id < 256) js (j ∷ []) ok (row_id bytes (row_is s p (length js) x), tt))
    (λ js p next ok x end. ok)
    (suc most_jobs) [] r.first tt t.jobs r.jobs
