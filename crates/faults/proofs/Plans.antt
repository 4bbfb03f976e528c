-- Every byte string is the bytes of one good plan or has one fault, and `read_plan` says which (`plan_is`). Assumes nothing.
use Prim.Native.Nat.{ℕ, ◌≤◌}
use native.Mathlib.Omega.{arith}
use mathlib.Core.Path.{◌≡◌, refl, sym, ap, subst, ◌∙◌}
use mathlib.Core.Logic.{◌⊎◌, inl, inr, ◌↔◌}
use mathlib.Core.Bool.{Bool, true, false, cond}
use mathlib.Core.List.{List, [], ◌∷◌, ◌++◌, flat_map}
use Rattle.std.specs.Prelude.{None, Some, Err}
use lib.ListN.{length, drop}
use borrow.Author.Tests.{le-ltb}
use Rattle.model.specs.Lists.{All}
use Rattle.model.proofs.Lists.{all_all, clash, member_all}
use Rattle.records.specs.declared.refusal.Place.{Place}
use Rattle.records.specs.declared.refusal.Refusal.{Refusal}
use Rattle.records.specs.declared.refusal.Refusal.TheVariants.{Many}
use Rattle.records.specs.declared.kind.StepKind.{StepKind}
use Rattle.records.specs.declared.kind.StepKind.TheVariants.{HereStep, AwayStep, EndStep}
use Rattle.records.specs.declared.kind.Meaning.{Meaning}
use Rattle.records.specs.declared.kind.Meaning.TheVariants.{Frame, Row}
use Rattle.records.specs.declared.kind.Form.{Form}
use Rattle.records.specs.Limits.{most_jobs}
use Rattle.records.specs.Refusals.{Outcome, accepted, refused}
use Rattle.records.specs.Records.{form, form_of, step_only, bad, parsed}
use Rattle.records.proofs.Records.{step_byte, form_all}
use Rattle.plan.specs.declared.Step.{Step}
use Rattle.plan.specs.Plans.{step_body, record_at, step_id, read_plan, step_bytes}
use Rattle.plan.proofs.Steps.{plan_entry}
use Rattle.plan.proofs.Plans.{plan_flat, opens, step_back, end_back, plan_back}
use Rattle.faults.specs.Faults.{step_kinds, Unread, NoTimes, GoodPlan, PlanFault, PlanIs}
use Rattle.faults.proofs.Files.{Others, Whole, listed_or_fault, unread_refused, fault_refused, exactly, exactly_one}

-- of a plan's bytes nothing need be known
abbrev Any : ℕ → Type 0
Any b = Unit {0}

-- a whole record is a step, or the end
abbrev Record : List ℕ → Type 0
Record rest = ((x : Step) × (more : List ℕ) × (rest ≡ step_bytes x ++ more) × All Any more) ⊎ ((more : List ℕ) × (rest ≡ 0x2F ∷ more))

step_is : (away : Bool) (more : List ℕ) → 1 ≤ length more → Record (cond away 0x21 0x20 ∷ more)
step_is away [] h = absurd (omega arith)
step_is away (id ∷ more) h = inl (record { id = id; away = away }, more, refl, all_all (λ b. tt) more)

record_is : (rest : List ℕ) → Whole step_kinds rest → All Any rest → Record rest
record_is rest w bytes =
    subst Record (sym w.is)
    (member_all (λ (r : ℕ × ℕ). r.1 ≤ length w.more → Record (r.0 ∷ w.more))
    (step_is false w.more, (step_is true w.more, ((λ h. inr (w.more, refl)), tt))) w.allowed w.there)

-- the kinds of a plan's records
not_step : (k : StepKind) → All (λ (r : ℕ × ℕ). ¬ (step_byte k ≡ r.0)) step_kinds → ⊥
not_step HereStep h = h.0 refl
not_step AwayStep h = h.1.0 refl
not_step EndStep h = h.1.1.0 refl

others : (k : ℕ) → Others step_only step_kinds k (form_of k)
others k =
    form_all (Others step_only step_kinds)
    (λ h f e. other Frame refl f e) (λ j h f e. other (Row j) refl f e) (λ j h f e. absurd (not_step j h)) (λ b h f e. clash (cc)) k
  where
    other : (m : Meaning) {n : ℕ} → step_only m ≡ None → (f : Form) → form m n ≡ Some f → step_only f.meaning ≡ None
    other m q f e = let is : m ≡ f.meaning = cc in rw is at q

these : All (λ (r : ℕ × ℕ). (f : Form) × (form_of r.0 ≡ Some f) × (j : StepKind) × (step_only f.meaning ≡ Some j) × (f.body ≡ r.1)) step_kinds
unfolding form_of
these = ((_, refl, HereStep, refl, refl), ((_, refl, AwayStep, refl, refl), ((_, refl, EndStep, refl, refl), tt)))

module _ (s : List ℕ) (p : Place) (n : ℕ) where
  is_unread : (rest : List ℕ) (f : Refusal) → Unread step_kinds p rest f → drop p.at s ≡ rest → plan_entry s p n ≡ bad f
  unfolding record_at
  is_unread rest f u e = ap parsed (unread_refused Err (step_body s p n) step_only step_kinds others these s p u e)

  is_many : (x : Step) (more : List ℕ) → drop p.at s ≡ step_bytes x ++ more → most_jobs ≤ n → plan_entry s p n ≡ bad (Many p)
  is_many x more e h = go x.away e
    where
      go : (away : Bool) → drop p.at s ≡ cond away 0x21 0x20 ∷ x.id ∷ more → plan_entry s p n ≡ bad (Many p)
      go true b = ap parsed (opens s p n AwayStep (x.id ∷ more) b (omega arith)) ∙ simp (le-ltb n most_jobs h)
      go false b = ap parsed (opens s p n HereStep (x.id ∷ more) b (omega arith)) ∙ simp (le-ltb n most_jobs h)

-- every byte string is a plan's or has a fault
pub plan_or_fault : (s : List ℕ) → (o : Outcome (List Step)) × PlanIs s o
unfolding flat_map
plan_or_fault s = step (listed_or_fault step_id step_bytes NoTimes step_kinds 0x2F Any (λ x. inl tt) record_is [] s (all_all (λ b. tt) s))
  where
    step :
        ((xs : List Step) × GoodPlan xs × (s ≡ flat_map step_bytes xs ++ (0x2F ∷ []))) ⊎ ((f : Refusal) × PlanFault s f) →
        (o : Outcome (List Step)) × PlanIs s o
    step (inl p) = (accepted p.0, (p.1, p.2 ∙ sym (plan_flat p.0)))
    step (inr f) = (refused f.0, f.1)

-- and is read so
pub plan_read_lem : (s : List ℕ) (o : Outcome (List Step)) → PlanIs s o → read_plan s ≡ o
unfolding read_plan flat_map
plan_read_lem s (accepted xs) p = rw p.1 (plan_back xs p.0.few p.0.distinct)
plan_read_lem s (refused f) y =
    fault_refused step_id step_bytes NoTimes step_kinds 0x2F s (plan_entry s) (λ x. omega arith)
    (is_unread s) (is_many s) (λ p n x more e h out. absurd (out tt)) (λ p n x more e h ok. step_back s p n x more e h) (end_back s) y refl

pub plan_is : (s : List ℕ) (o : Outcome (List Step)) → (read_plan s ≡ o) ↔ PlanIs s o
plan_is s = exactly (PlanIs s) (read_plan s) (plan_or_fault s) (plan_read_lem s)

-- exactly one of all plans and refusals is it
pub plan_one : (s : List ℕ) → (o : Outcome (List Step)) × PlanIs s o × ((p : Outcome (List Step)) → PlanIs s p → o ≡ p)
plan_one s = exactly_one (PlanIs s) (read_plan s) (plan_or_fault s) (plan_read_lem s)
