-- What the own contracts of the planners, of what they ask, and of the lister allow, as Rattle reads them of src/ (`Reads`' `Learnt`):
-- for these bytes and this area, this answer and this area afterwards. Assumes nothing.
use Rattle.std.specs.Prelude.{ℕ, List, [], Option}
use Rattle.choice.specs.declared.Prepared.{Prepared}
use Rattle.choice.proofs as choice
use Rattle.planner.specs.Answers.{Planned, Least}
use Rattle.planner.proofs as planner
use Rattle.listing.proofs as listing
use Rattle.faults.specs.Allows.{to, to_mut}

abbrev pub FreeAllows : List ℕ → List ℕ → Planned → List ℕ → Type 0
FreeAllows s before r after = planner.plan_free.Reads.Learnt ([], ([], tt)) (to s, (to_mut before, tt)) r (to s, (to_mut after, tt))

abbrev pub GivenAllows : List ℕ → List ℕ → Planned → List ℕ → Type 0
GivenAllows s before r after = planner.plan_given.Reads.Learnt ([], ([], tt)) (to s, (to_mut before, tt)) r (to s, (to_mut after, tt))

abbrev pub LeastAllows : List ℕ → Least → Type 0
LeastAllows s r = planner.least_deadline.Reads.Learnt ([], tt) (to s, tt) r (to s, tt)

abbrev pub ListAllows : List ℕ → List ℕ → Option ℕ → List ℕ → Type 0
ListAllows s before r after = listing.list_plan.Reads.Learnt ([], ([], tt)) (to s, (to_mut before, tt)) r (to s, (to_mut after, tt))

-- what the planners ask of the table's jobs once they are prepared
abbrev pub BestAllows : ℕ → Prepared → Option ℕ → Type 0
BestAllows d p r = choice.best_choice.Reads.Learnt ([], tt) (d, (to p, tt)) r (d, (to p, tt))

abbrev pub EarliestAllows : Prepared → Option ℕ → Type 0
EarliestAllows p r = choice.earliest.Reads.Learnt ([], tt) (to p, tt) r (to p, tt)
