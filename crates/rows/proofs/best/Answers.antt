-- `rows::best` meets its contract; what its loop keeps stands in Invariants.antt. Assumes nothing.
use mathlib.Core.Path.{◌≡◌, refl, ◌∙◌}
use Prim.Native.Nat.{suc, ◌+◌}
use mathlib.Core.Logic.{inl, inr}
use lib.ListN.{get_or}
use native.Mathlib.Numerals.{add-one}
use native.Mathlib.Omega.{arith}
use Rattle.rows.proofs.Bests.{Better, better_least, best_next, single_next}
use Rattle.rows.proofs.best.Goals as goal
use Rattle.rows.proofs.best.Goals.{then-next-found, else-next-found}

pub loop-t-preserved : goal.loop-t-preserved
loop-t-preserved c =
    let total = get_or c.args.totals.now c.loop-t.t 0 + c.loop-t.t + c.args.base in
    let better : Better c.loop-t.found (record { total = total; mask = get_or c.args.masks.now c.loop-t.t 0 }) c.if-next-found.found =
    elim c.if-next-found.branch [
      | then-next-found w ↦ better_least _ _ _ (w.found-is ∙ w.min-found.ensures)
      | else-next-found w ↦ inr (w.found-is, inl w.if-next-found.false)
    ] in (
      refl,
      omega arith,
      single_next _ _ _ better c.loop-t.invariant.2,
      (λ os r h. rw add-one (best_next c.args.d os c.args.base c.loop-t.t _ _ _ _ _ r h c.requires.3
          c.requires.2 (omega arith) refl refl better
          (c.loop-t.invariant.3 os r h))),
    )

pub returns : goal.returns
returns c =
    let e : c.loop-t.t ≡ suc c.args.d = omega arith in
    (c.loop-t.invariant.2, λ os r h. rw e at (c.loop-t.invariant.3 os r h))
