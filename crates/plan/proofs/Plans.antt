-- What every accepted plan is: at most 32 steps with distinct ids, whose bytes are `plan_bytes` and no others; the k-th step is
-- read where it stands; and a plan that is written reads back as the same plan. Assumes nothing.
use Prim.Native.Nat.{ℕ, zero, suc, ◌+◌, ◌*◌, ◌≤◌, ◌<◌}
use mathlib.Core.Path.{◌≡◌, refl, sym, ap, ◌∙◌}
use mathlib.Core.Bool.{Bool, true, false, cond}
use mathlib.Core.List.{List, [], ◌∷◌, ◌++◌, flat_map}
use lib.ListN.{length, get_or, drop}
use lib.Dec.{eqb}
use native.Mathlib.Omega.{arith}
use borrow.Author.Tests.{lt-ltb}
use Rattle.model.proofs.Lists.{all_all}
use Rattle.records.specs.declared.refusal.Place.{Place}
use Rattle.records.specs.declared.kind.StepKind.{StepKind}
use Rattle.records.specs.declared.kind.StepKind.TheVariants.{HereStep, AwayStep, EndStep}
use Rattle.records.specs.Limits.{most_jobs, longest_plan}
use Rattle.records.specs.Refusals.{start, past, accepted}
use Rattle.records.specs.Kinds.{run_here, send_away, plan_end}
use Rattle.std.specs.Prelude.{Err}
use Rattle.records.specs.Records.{form_of, step_only, one, last, parsed}
use Rattle.records.proofs.Records.{step_byte, step_length, step_form, whole}
use Rattle.octets.proofs.Numbers.{byte_from}
use Rattle.table.proofs.ReadBack.{kind_byte, long}
use Rattle.records.proofs.Listed.{Distinct, listed_good, listed_bytes, listed_back}
use Rattle.plan.specs.declared.Step.{Step}
use Rattle.plan.specs.Plans.{step_body, record_at, step_id, read_plan, step_bytes, plan_bytes, no_step, step_at}
use Rattle.plan.proofs.Steps.{plan_entry, step_read, end_read, plan_length}

-- the bytes of a plan are those of its steps, and then the end record's
pub plan_flat : (xs : List Step) → plan_bytes xs ≡ flat_map step_bytes xs ++ (plan_end ∷ [])
unfolding plan_bytes flat_map
plan_flat [] = refl
plan_flat (x ∷ xs) = ap (λ (l : List ℕ). step_bytes x ++ l) (plan_flat xs)

module _ (s : List ℕ) (xs : List Step) (e : read_plan s ≡ accepted xs) where
  pub accepted_plan : (length xs ≤ most_jobs) × Distinct step_id xs
  unfolding read_plan
  accepted_plan = listed_good step_id (plan_entry s) (length s) (λ p n x next r. (step_read s p n x next r).0) start xs e

  -- one byte string reads as a plan: the plan's bytes
  pub read_bytes : s ≡ plan_bytes xs
  unfolding read_plan
  read_bytes =
      listed_bytes step_id s (plan_entry s) step_bytes (plan_end ∷ []) (λ p n x next r. (step_read s p n x next r).1) (end_read s) start xs e ∙
      sym (plan_flat xs)

  pub accepted_length : length s ≤ longest_plan
  accepted_length = omega (arith, ap length read_bytes, plan_length xs, accepted_plan.0)

-- the two bytes of the k-th step
bytes_at :
    (xs : List Step) (k : ℕ) → k < length xs →
    (get_or (plan_bytes xs) (2 * k) 0 ≡ cond (get_or xs k no_step).away send_away run_here) × (get_or (plan_bytes xs) (2 * k + 1) 0 ≡ (get_or xs k no_step).id)
unfolding plan_bytes
bytes_at [] k h = absurd (omega arith)
bytes_at (x ∷ xs) zero h = (refl, refl)
bytes_at (x ∷ xs) (suc k) h =
    let kind : 2 * suc k ≡ suc (suc (2 * k)) = omega arith in
    let id : 2 * suc k + 1 ≡ suc (suc (2 * k + 1)) = omega arith in
    let later = bytes_at xs k (omega arith) in
    (rw kind later.0, rw id later.1)

-- the kind byte tells the choice
kind_tells : (away : Bool) → eqb (cond away send_away run_here) send_away ≡ away
kind_tells true = refl
kind_tells false = refl

-- the k-th step of an accepted plan is read where it stands
pub step_at_lem : (s : List ℕ) (xs : List Step) → read_plan s ≡ accepted xs → (k : ℕ) → k < length xs → step_at s k ≡ get_or xs k no_step
unfolding step_at
step_at_lem s xs e k h =
    let there : 2 * k + 1 < length (plan_bytes xs) = omega (arith, plan_length xs) in
    let bytes = bytes_at xs k h in
    rw (read_bytes s xs e) (simp (lt-ltb _ _ there, bytes.0, bytes.1, kind_tells))

-- Reading back: what is read where the bytes of a step or of the end stand.
module _ (s : List ℕ) (p : Place) (n : ℕ) where
  -- a whole record of a kind is read as that kind's body
  pub opens :
      (k : StepKind) (body : List ℕ) → drop p.at s ≡ step_byte k ∷ body → step_length k ≤ length body →
      record_at s p n ≡ step_body s p n (past p (step_length k)) k
  unfolding record_at
  opens k body e fits =
      let size = long s p _ e in
      whole Err (step_body s p n) step_only s p (ap form_of (kind_byte s p _ e) ∙ step_form k) (omega arith) k refl (omega arith)

  pub step_back : (x : Step) (rest : List ℕ) → drop p.at s ≡ step_bytes x ++ rest → n < most_jobs → plan_entry s p n ≡ one x (past p 1)
  step_back x rest e few = go x.away e
    where
      go :
          (away : Bool) → drop p.at s ≡ cond away send_away run_here ∷ x.id ∷ rest →
          plan_entry s p n ≡ one (record { id = x.id; away = away }) (past p 1)
      go true b = ap parsed (opens AwayStep (x.id ∷ rest) b (omega arith)) ∙ simp (lt-ltb n most_jobs few, byte_from s p.at _ b 1)
      go false b = ap parsed (opens HereStep (x.id ∷ rest) b (omega arith)) ∙ simp (lt-ltb n most_jobs few, byte_from s p.at _ b 1)

  pub end_back : (more : List ℕ) → drop p.at s ≡ plan_end ∷ more → plan_entry s p n ≡ last (past p 0)
  end_back more e = ap parsed (opens EndStep more e (omega arith))

-- a plan that is written reads back as the same plan
pub plan_back : (xs : List Step) → length xs ≤ most_jobs → Distinct step_id xs → read_plan (plan_bytes xs) ≡ accepted xs
unfolding read_plan
plan_back xs few distinct =
    let s = plan_bytes xs in
    listed_back step_id s (plan_entry s) step_bytes (λ (x : Step). Unit {0}) (λ x. omega arith) (λ p n x rest e room u. step_back s p n x rest e room)
    plan_end (end_back s) start xs few distinct (all_all (λ x. tt) xs) (plan_flat xs)
