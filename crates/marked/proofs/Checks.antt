-- No check that meets its contract passes all, or none: the plan of E passes at 45 and is late at 44.
-- Assumes nothing.
use mathlib.Core.Path.{◌≡◌, refl, sym, ap, ◌∙◌}
use mathlib.Core.List.{List, [], ◌∷◌}
use Prim.Native.Nat.{ℕ}
use native.Mathlib.Omega.{arith}
use lib.ListN.{get_or}
use Rattle.records.specs.Records.{form_of, judged, used, list_from}
use Rattle.table.specs.Tables.{frame_at, job_at, jobs_read, read_table}
use Rattle.lookup.specs.Lookup.{with_key}
use Rattle.plan.specs.Plans.{read_plan, record_at}
use Rattle.judge.specs.Check.{Checked}
use Rattle.judge.specs.Check.{checked_says, listed, lacks_one, check_plan}
use Rattle.marked.specs.Marked.{E, plan_e}
use Rattle.faults.specs.Allows.{CheckAllows}
use Rattle.marked.specs.Versions.{verdict, PassesAll, PassesNone}
use Rattle.marked.proofs.Examples.{bytes44}

-- E with its plan: last finish 45, busy total 40; with D 44: LATE
pub passes_45 : checked_says (check_plan E plan_e) ≡ 0 ∷ 45 ∷ 40 ∷ []
unfolding check_plan E read_table frame_at jobs_read job_at judged form_of list_from used read_plan record_at with_key listed lacks_one
passes_45 = refl

pub late_44 : checked_says (check_plan bytes44 plan_e) ≡ 11 ∷ []
unfolding check_plan read_table frame_at jobs_read job_at judged form_of list_from used read_plan record_at with_key listed lacks_one
late_44 = refl

module _ (check : List ℕ → List ℕ → Checked) (meets : (s p : List ℕ) → CheckAllows s p (check s p)) where
  pub not_passes_all : ¬ (PassesAll check)
  not_passes_all n =
      let z : ◌≡◌ {A = ℕ} 0 11 = sym (n bytes44 plan_e) ∙ (ap verdict (meets bytes44 plan_e) ∙ ap (λ (ns : List ℕ). get_or ns 0 0) late_44) in
      omega arith

  pub not_passes_none : ¬ (PassesNone check)
  not_passes_none n = n E plan_e (ap verdict (meets E plan_e) ∙ ap (λ (ns : List ℕ). get_or ns 0 0) passes_45)
