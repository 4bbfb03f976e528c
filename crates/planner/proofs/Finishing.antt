-- From what was found to the answer and the area: told once for both planners, over what may be found and what it has to be.
-- Assumes nothing.
use mathlib.Core.Path.{◌≡◌, refl, sym, ap, ◌∙◌}
use mathlib.Core.List.{List, ◌++◌}
use Rattle.std.specs.Prelude.{Option, None, Some, Result, Ok, Err}
use Prim.Native.Nat.{ℕ, ◌≤◌}
use native.Mathlib.Omega.{arith}
use lib.ListN.{length, drop}
use Rattle.model.specs.Timetable.{Chosen}
use Rattle.model.proofs.Lists.{clash}
use Rattle.table.specs.declared.Table.{Table}
use Rattle.records.specs.declared.refusal.Refusal.{Refusal}
use Rattle.records.specs.declared.refusal.Refusal.TheVariants as R
use Rattle.records.specs.Limits.{most_jobs, longest_plan}
use Rattle.table.specs.Tables.{JobTable, job_table, Sound, read_table, table_read}
use Rattle.table.proofs.Reading.{read_refused, read_whole}
use Rattle.plan.specs.Plans.{plan_bytes, steps_of, steps_for}
use Rattle.plan.proofs.Steps.{steps_of_plan, steps_length}
use Rattle.draft.specs.declared.Draft.{Draft}
use Rattle.draft.specs.Drafts.{draft_of, drafted_of}
use Rattle.planner.specs.Answers.{Planned, was_read, SoundRead, Writes, PlanAnswer, bad_table, no_plan, planned}
use Rattle.planner.specs.Orders.{Finds}

-- what the reader makes of bytes is what they mean, and sound
module _ (s : List ℕ) (x : Result Table Refusal) (e : x ≡ table_read (read_table s)) where
  pub was_read_lem : was_read x ≡ read_table s
  was_read_lem = step x refl
    where
      step : (y : Result Table Refusal) → x ≡ y → was_read y ≡ read_table s
      step (Ok t) h = sym (read_whole s x e t h).is
      step (Err f) h = sym (read_refused s x e f h)

  pub sound_read : SoundRead x
  sound_read = step x refl
    where
      step : (y : Result Table Refusal) → x ≡ y → SoundRead y
      step (Ok t) h = (read_whole s x e t h).sound
      step (Err f) h = tt

-- a draft that is written
written_as :
    (t : JobTable) (before : List ℕ) (xs : List Chosen) (draft : Draft) → draft ≡ draft_of xs → (n : ℕ) (after : List ℕ) →
    (n ≡ length (plan_bytes (steps_of draft.plan)))
    × (after ≡ plan_bytes (steps_of draft.plan) ++ drop (length (plan_bytes (steps_of draft.plan))) before) →
    Writes t xs before (Ok (record { bytes = n; busy = draft.laid.busy; last = draft.laid.last })) after
written_as t before xs draft d n after w =
    let steps : steps_of draft.plan ≡ steps_for xs = ap (λ (d : Draft). steps_of d.plan) d ∙ steps_of_plan (steps_for xs) in
    record { says = rw (w.0, steps, d) refl; front = w.1 ∙ rw steps refl }

-- An order over a sound table: what it finds is a plan, and has room in one.
module _
    (CanMeet : JobTable → Type 0) (IsPlan : JobTable → List Chosen → Type 0) (found : JobTable → Option (List Chosen)) (finds : Finds CanMeet IsPlan found)
    (t : Table) (sound : Sound t) (draft : Draft) (e : Some draft ≡ drafted_of (found (job_table t)))
  where
    pub plan_found : (xs : List Chosen) × IsPlan (job_table t) xs × (draft ≡ draft_of xs)
    plan_found = step (found (job_table t)) refl e
      where
        step : (o : Option (List Chosen)) → found (job_table t) ≡ o → Some draft ≡ drafted_of o → (xs : List Chosen) × IsPlan (job_table t) xs × (draft ≡ draft_of xs)
        step None q k = clash (cc)
        step (Some xs) q k = (xs, finds.plan (job_table t) sound.good.few xs q, cc)

    pub found_few : draft.plan.count ≤ most_jobs
    found_few =
        let p = plan_found in
        omega (arith, sound.good.few, ap (λ (d : Draft). d.plan.count) p.2, steps_length p.0, finds.as_many (job_table t) p.0 p.1)

-- An order over what was read, where the area has room for every plan.
module _
    (CanMeet : JobTable → Type 0) (IsPlan : JobTable → List Chosen → Type 0) (found : JobTable → Option (List Chosen)) (finds : Finds CanMeet IsPlan found)
    (x : Result Table Refusal) (sound : SoundRead x) (before : List ℕ) (room : longest_plan ≤ length before)
  where
    abbrev Answers : Planned → List ℕ → Type 0
    Answers r after = PlanAnswer CanMeet IsPlan (was_read x) before r after

    -- the table's refusal is passed on
    pub answered_refused : (f : Refusal) → x ≡ Err f → Answers (Err f) before
    answered_refused f h = bad_table room f (ap was_read h) (record { says = refl; left = refl })

    module _ (t : Table) (is : x ≡ Ok t) where
      pub here : Sound t
      here = rw is at sound

      -- nothing is found, and the area is left
      pub answered_none : None ≡ drafted_of (found (job_table t)) → Answers (Err R.None) before
      answered_none e = step (found (job_table t)) refl e
        where
          step : (o : Option (List Chosen)) → found (job_table t) ≡ o → None ≡ drafted_of o → Answers (Err R.None) before
          step None q k = no_plan room (job_table t) (ap was_read is) (finds.none (job_table t) here.good.few q) (record { says = refl; left = refl })
          step (Some xs) q k = clash (cc)

      -- a plan is found and written
      pub answered_planned :
          (draft : Draft) → Some draft ≡ drafted_of (found (job_table t)) → (n : ℕ) (after : List ℕ) →
          (n ≡ length (plan_bytes (steps_of draft.plan)))
          × (after ≡ plan_bytes (steps_of draft.plan) ++ drop (length (plan_bytes (steps_of draft.plan))) before) →
          Answers (Ok (record { bytes = n; busy = draft.laid.busy; last = draft.laid.last })) after
      answered_planned draft e n after w =
          let p = plan_found CanMeet IsPlan found finds t here draft e in
          planned room (job_table t) (ap was_read is) p.0 p.1 (written_as (job_table t) before p.0 draft p.2 n after w)
