-- The bytes of a number and of a table's jobs, and how many a record takes. That an accepted byte string is exactly the bytes of its table is told by
-- `table_is` of crate faults. Assumes nothing.
use Prim.Native.Nat.{ℕ, ◌+◌, ◌≤◌}
use native.Mathlib.Omega.{arith}
use mathlib.Core.Path.{◌≡◌, refl, ap, sym, ◌∙◌}
use mathlib.Core.List.{List, [], ◌∷◌, ◌++◌, flat_map, append_assoc}
use Rattle.model.specs.declared.Job.{Job}
use Rattle.records.specs.declared.refusal.Place.{Place}
use Rattle.records.specs.Refusals.{past}
use Rattle.records.specs.Kinds.{table_end}
use Rattle.records.specs.Records.{one, last}
use Rattle.table.specs.Tables.{job_bytes, jobs_bytes}
use Rattle.table.proofs.Tables.{RowIs, row_here, row_either, row_end}

-- the bytes of a table are its frame record's, those of each job, and the end record's
pub jobs_flat : (js : List Job) → jobs_bytes js ≡ flat_map job_bytes js ++ (table_end ∷ [])
unfolding jobs_bytes flat_map
jobs_flat [] = refl
jobs_flat (j ∷ js) = ap (λ (l : List ℕ). job_bytes j ++ l) (jobs_flat js) ∙ sym (append_assoc (job_bytes j) (flat_map job_bytes js) (table_end ∷ []))

-- a job's record takes at most eight bytes, and the end record one
pub row_next : {s : List ℕ} {p : Place} {n : ℕ} {j : Job} {next : Place} → RowIs s p n (one j next) → next.at ≤ p.at + 8
row_next (row_here b h few t) = omega arith
row_next (row_either b h few t u v) = omega arith

pub end_next : {s : List ℕ} {p : Place} {n : ℕ} {next : Place} → RowIs s p n (last next) → next ≡ past p 0
end_next (row_end b h) = refl
