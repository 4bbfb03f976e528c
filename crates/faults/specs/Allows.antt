-- What the own contracts of the readers and of the check allow, as Rattle reads them of src/ (`Reads`' `Learnt`): for these bytes, this answer.
-- Assumes nothing.
use Rattle.std.specs.Prelude.{ℕ, List, [], Result}
use contract.Lifetimes.{Lfts}
use Rattle.std.specs.Borrow.{Bor, MutBor}
use denote.Triple.Entry.{Args, Res}
use denote.Triple.Clauses.{Ended, AtExit}
use Rattle.records.specs.declared.refusal.Refusal.{Refusal}
use Rattle.table.specs.declared.Table.{Table}
use Rattle.table.proofs as table
use Rattle.plan.proofs as plan
use Rattle.judge.specs.Check.{Checked}
use Rattle.judge.proofs as judge

-- what a contract tells: of a call's inputs, its answer and its parameters at exit
abbrev pub Tells : Ended → Type 1
Tells T = (κs : Lfts T.signature.lifetimes) → Args T.signature κs → Res T.signature κs → AtExit T κs → Type 0

-- a reference to this, `&` and `&mut`; where it lies, and for how long, no contract speaks of
abbrev pub to : {A : Type 0} → A → Bor A
to x = record { ref_ptr = (0, 0); now = x }

abbrev pub to_mut : {A : Type 0} → A → MutBor A
to_mut x = record { ref_ptr = (0, 0); ghost_name = 0; now = x }

abbrev pub TableAllows : List ℕ → Result Table Refusal → Type 0
TableAllows s r = table.read_table.Reads.Learnt ([], tt) (to s, tt) r (to s, tt)

abbrev pub PlanAllows : List ℕ → Result ℕ Refusal → Type 0
PlanAllows s r = plan.read_plan.Reads.Learnt ([], tt) (to s, tt) r (to s, tt)

abbrev pub CheckAllows : List ℕ → List ℕ → Checked → Type 0
CheckAllows s p r = judge.check_plan.Reads.Learnt ([], ([], tt)) (to s, (to p, tt)) r (to s, (to p, tt))
