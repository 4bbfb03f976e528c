-- Every plan that the free-order or the given-order planner writes passes the check, with the same last finish and busy total.
-- Assumes nothing.
use Prim.Native.Nat.{ℕ}
use mathlib.Core.Path.{◌≡◌, ◌∙◌}
use mathlib.Core.List.{List, [], ◌∷◌}
use lib.ListN.{length, take}
use Rattle.model.specs.Lists.{All}
use Rattle.model.specs.Timetable.{Chosen}
use Rattle.model.specs.FreeOrder.{Fits, busy, last_from}
use Rattle.model.proofs.Runs.{fits_iff_runs}
use Rattle.records.specs.Refusals.{accepted}
use Rattle.table.specs.Tables.{JobTable}
use Rattle.plan.specs.Plans.{plan_bytes, steps_for}
use Rattle.planner.specs.Answers.{Planned}
use Rattle.planner.specs.Answers.{planned_says, Writes}
use Rattle.judge.specs.Check.{Checked}
use Rattle.judge.specs.Check.{checked_says}
use Rattle.faults.specs.Faults.{Byte, TableIs, PlanIs}
use Rattle.faults.specs.Checks.{PlanOf}
use Rattle.faults.specs.Allows.{CheckAllows}
use Rattle.faults.proofs.Says.{pass_iff_runs}
use Rattle.accord.specs.Allows.{FreeAllows, GivenAllows}
use Rattle.accord.proofs.Plans.{behind, free_of, given_of, reads}

module _ (s : List ℕ) (bytes : All Byte s) (before : List ℕ) (r : Planned) (after : List ℕ) (n b l : ℕ) (says : planned_says r ≡ 0 ∷ n ∷ b ∷ l ∷ []) where
  passes :
      (t : JobTable) → TableIs s (accepted t) → (xs : List Chosen) → PlanOf t.jobs xs × Fits t.deadline 0 xs → Writes t xs before r after →
      (c : Checked) → CheckAllows s (take n after) c → checked_says c ≡ 0 ∷ l ∷ b ∷ []
  passes t table xs p w c allows =
      let size : n ≡ length (plan_bytes (steps_for xs)) = cc (w.says, says) in
      let total : busy xs ≡ b = cc (w.says, says) in
      let finishes : last_from 0 xs ≡ l = cc (w.says, says) in
      let plan : PlanIs (take n after) (accepted (steps_for xs)) = rw size (reads t table.0 xs p.0 before r after w) in
      (pass_iff_runs s (take n after) c allows t xs table plan p.0).1 ((fits_iff_runs t.deadline xs).0 p.1) ∙ rw (total, finishes)

  pub free_passes : FreeAllows s before r after → (c : Checked) → CheckAllows s (take n after) c → checked_says c ≡ 0 ∷ l ∷ b ∷ []
  free_passes allows =
      let p = behind s bytes allows says in
      passes p.t p.table p.xs (free_of p.t p.xs p.is) p.writes

  pub given_passes : GivenAllows s before r after → (c : Checked) → CheckAllows s (take n after) c → checked_says c ≡ 0 ∷ l ∷ b ∷ []
  given_passes allows =
      let p = behind s bytes allows says in
      passes p.t p.table p.xs (given_of p.t p.xs p.is) p.writes
