-- "1 to 6 return number and place, the rest the number": a fault of a file has one of the first six numbers, and its place is in the file or its length;
-- a plan that does not fit its table has one of 8 to 11. Assumes nothing.
use Prim.Native.Nat.{ℕ, ◌+◌, ◌*◌, ◌≤◌}
use native.Mathlib.Omega.{arith}
use mathlib.Core.Path.{◌≡◌, refl, ap, ◌∙◌}
use mathlib.Core.List.{List, [], ◌∷◌, ◌++◌, map, flat_map}
use lib.ListN.{length, length-append}
use Rattle.model.specs.declared.Sending.{Sending}
use Rattle.model.specs.declared.Sending.TheVariants.{HereOnly, Either}
use Rattle.model.specs.declared.Job.{Job}
use Rattle.records.specs.declared.refusal.Place.{Place}
use Rattle.records.specs.declared.refusal.Refusal.{Refusal}
use Rattle.records.specs.Refusals.{refusal_says, accepted}
use Rattle.records.specs.Limits.{longest_table, largest_time}
use Rattle.table.specs.Tables.{JobTable, TimesOk, sending_bytes, job_bytes, job_id}
use Rattle.plan.specs.declared.Step.{Step}
use Rattle.faults.specs.Faults.{ListFault, row_kinds, joined, behind, Unread, no_byte, not_allowed, cut, Faulty, unread, many, range, twice, after, fault}
use Rattle.faults.specs.Faults.{TableFault, in_frame, deadline, in_row, frame_bytes, PlanFault, TableIs, FaultAt}
use Rattle.faults.proofs.Files.{joined_map, behind_more}
use Rattle.faults.proofs.Tables.{table_flat}
use Rattle.faults.specs.Checks.{stranger, kept, Misfit, at_step, left, late}

unread_placed :
    {kinds : List (ℕ × ℕ)} {p : Place} {rest : List ℕ} {f : Refusal} → Unread kinds p rest f → (most : ℕ) → p.at ≤ most → FaultAt most (refusal_says f)
unread_placed {p = p} no_byte most h = record { number = 1; place = p.at; says = refl; low = omega arith; high = omega arith; within = h }
unread_placed {p = p} (not_allowed k) most h = record { number = 2; place = p.at; says = refl; low = omega arith; high = omega arith; within = h }
unread_placed {p = p} (cut m k) most h = record { number = 1; place = p.at; says = refl; low = omega arith; high = omega arith; within = h }

module _ {A : Type 0} {id_of : A → ℕ} {bytes_of : A → List ℕ} {InRange : A → Type 0} {kinds : List (ℕ × ℕ)} {end : ℕ} where
  -- a record that begins by `most`, and where it has bytes one before
  faulty_placed :
      {xs : List A} {rs : List (List ℕ)} {rest : List ℕ} {f : Refusal} → Faulty id_of bytes_of InRange kinds end xs rs rest f →
      (most : ℕ) → (behind rs).at ≤ most → (1 ≤ length rest → (behind rs).at + 1 ≤ most) → FaultAt most (refusal_says f)
  faulty_placed (unread u) most h k = unread_placed u most h
  faulty_placed {rs = rs} (many x more n) most h k =
      record { number = 4; place = (behind rs).at; says = refl; low = omega arith; high = omega arith; within = h }
  faulty_placed {rs = rs} (range x more n o) most h k =
      record { number = 3; place = (behind rs).at; says = refl; low = omega arith; high = omega arith; within = h }
  faulty_placed {rs = rs} (twice x more n o m) most h k =
      record { number = 5; place = (behind rs).at; says = refl; low = omega arith; high = omega arith; within = h }
  faulty_placed {rs = rs} after most h k =
      let far : (behind (rs ++ ((end ∷ []) ∷ []))).at ≡ (behind rs).at + 1 + 0 = ap (λ (p : Place). p.at) (behind_more rs (end ∷ []) (omega arith)) in
      record { number = 6; place = _; says = refl; low = omega arith; high = omega arith; within = omega (arith, k (omega arith)) }

  list_placed : {first : List (List ℕ)} {s : List ℕ} {f : Refusal} → ListFault id_of bytes_of InRange kinds end first s f → FaultAt (length s) (refusal_says f)
  list_placed {first} (fault xs rest good y) =
      let size = length-append (joined (first ++ map bytes_of xs)) rest in
      faulty_placed y _ (omega arith) (λ k. omega arith)

pub table_placed : {s : List ℕ} {f : Refusal} → TableFault s f → FaultAt (length s) (refusal_says f)
unfolding flat_map
table_placed (in_frame u) = unread_placed u _ (omega arith)
table_placed (deadline D more out) = record { number = 3; place = 0; says = refl; low = omega arith; high = omega arith; within = omega arith }
table_placed (in_row D ok y) = list_placed y

pub plan_placed : {s : List ℕ} {f : Refusal} → PlanFault s f → FaultAt (length s) (refusal_says f)
plan_placed y = list_placed y

-- However long the bytes are, a table is refused at 260 at the latest: a job takes at most eight bytes, so the 33rd begins at 259 at the latest.
sending_length : (id C : ℕ) (d : Sending) → length (sending_bytes id C d) ≤ 8
sending_length id C HereOnly = omega arith
sending_length id C (Either S I) = omega arith

jobs_length : (js : List Job) → length (flat_map job_bytes js) ≤ 8 * length js
unfolding flat_map
jobs_length [] = omega arith
jobs_length (j ∷ js) =
    omega (arith, length-append (job_bytes j) (flat_map job_bytes js), sending_length j.id j.local j.sending, jobs_length js)

row_near :
    (D : ℕ) {s : List ℕ} {f : Refusal} → ListFault job_id job_bytes (TimesOk largest_time) row_kinds 0x1F (frame_bytes D ∷ []) s f →
    FaultAt longest_table (refusal_says f)
unfolding flat_map
row_near D (fault js rest good y) =
    let size = ap length (joined_map job_bytes (frame_bytes D ∷ []) js) in
    let few = good.few in
    faulty_placed y longest_table (omega (arith, jobs_length js)) (λ k. omega (arith, jobs_length js))

pub table_near : {s : List ℕ} {f : Refusal} → TableFault s f → FaultAt longest_table (refusal_says f)
unfolding flat_map
table_near (in_frame u) = unread_placed u longest_table (omega arith)
table_near (deadline D more out) = record { number = 3; place = 0; says = refl; low = omega arith; high = omega arith; within = omega arith }
table_near (in_row D ok y) = row_near D y

-- and an accepted table has at most 260 bytes
pub table_short : {s : List ℕ} {t : JobTable} → TableIs s (accepted t) → length s ≤ longest_table
table_short {s} {t} is =
    let size = ap length (is.1 ∙ table_flat t.deadline t.jobs) in
    let parts = length-append (frame_bytes t.deadline ++ flat_map job_bytes t.jobs) (0x1F ∷ []) in
    omega (arith, length-append (frame_bytes t.deadline) (flat_map job_bytes t.jobs), jobs_length t.jobs, is.0.few)

-- STRANGER, KEPT, LEFT and LATE are 8 to 11, with no place
pub misfit_number : {t : JobTable} {xs : List Step} {f : Refusal} → Misfit t xs f → (n : ℕ) × (8 ≤ n) × (n ≤ 11) × (refusal_says f ≡ n ∷ [])
misfit_number (at_step before x later ok (stranger h)) = (8, omega arith, omega arith, refl)
misfit_number (at_step before x later ok (kept j m e here away)) = (9, omega arith, omega arith, refl)
misfit_number (left xs j ok m d) = (10, omega arith, omega arith, refl)
misfit_number (late cs plan out) = (11, omega arith, omega arith, refl)
