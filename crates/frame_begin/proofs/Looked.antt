-- What `away_in` finds, step by step: a turn of its loop and the end. Assumes nothing.
use Prim.Native.Nat.{ℕ, ◌+◌, ◌-◌, ◌≤◌, ◌<◌}
use native.Mathlib.Omega.{arith}
use native.Mathlib.Nat.{sub-zero}
use mathlib.Core.Path.{◌≡◌, sym, ap, ◌∙◌}
use mathlib.Core.Bool.{false, cond}
use mathlib.Core.List.{List}
use Rattle.std.specs.Prelude.{Option, Some}
use lib.Dec.{eqb}
use lib.ListN.{length}
use borrow.Author.Tests.{eq-eqb, ne_eqb}
use Rattle.plan.specs.Plans.{step_id, no_step, step_at, read_plan}
use Rattle.lookup.specs.Lookup.{first}
use Rattle.lookup.proofs.Lookup.{first_turn, first_end}
use Rattle.frame_begin.specs.Begin.{steps_in, away_of, away_in}
use Rattle.frame_begin.proofs.Passed.{step_in}

module _ (plan : List ℕ) (count id : ℕ) where
  abbrev found_from : ℕ → Option ℕ
  found_from k = first step_id no_step (steps_in (read_plan plan)) id k (count - k)

  -- what is still to look at gives the same as the whole
  pub record Looked (k : ℕ) : Type 0 where
    pub rest : away_in (steps_in (read_plan plan)) count id ≡ away_of (steps_in (read_plan plan)) (found_from k)

  pub looked_none : Looked 0
  unfolding away_in
  looked_none = record { rest = simp sub-zero }

  module _ {k : ℕ} (l : Looked k) where
    pub looked_all : count ≤ k → false ≡ away_in (steps_in (read_plan plan)) count id
    looked_all h = sym (l.rest ∙ ap (away_of (steps_in (read_plan plan))) (first_end step_id no_step (steps_in (read_plan plan)) id k count h))

    module _ (few : count ≤ length (steps_in (read_plan plan))) (here : k < count) where
      turn : found_from k ≡ cond (eqb (step_at plan k).id id) (Some k) (found_from (k + 1))
      turn = rw (step_in plan k (omega arith)) (first_turn step_id no_step (steps_in (read_plan plan)) id k count here)

      pub looked_here : (step_at plan k).id ≡ id → (step_at plan k).away ≡ away_in (steps_in (read_plan plan)) count id
      looked_here e =
          let at : found_from k ≡ Some k = turn ∙ rw (eq-eqb _ _ e) in
          ap (λ (x : _). x.away) (step_in plan k (omega arith)) ∙ sym (l.rest ∙ ap (away_of (steps_in (read_plan plan))) at)

      pub looked_on : (¬ ((step_at plan k).id ≡ id)) → Looked (k + 1)
      looked_on e =
          let past : found_from k ≡ found_from (k + 1) = turn ∙ rw (ne_eqb _ _ e) in
          record { rest = l.rest ∙ ap (away_of (steps_in (read_plan plan))) past }
