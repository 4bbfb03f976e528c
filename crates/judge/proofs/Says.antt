-- Two answers of the check that say the same numbers are equal: a pass says 0 first, and no refusal does.
-- Assumes nothing.
use Rattle.std.specs.Prelude.{Err, Ok}
use Prim.Native.Nat.{ℕ}
use mathlib.Core.Path.{◌≡◌, sym, ap}
use mathlib.Core.List.{[], ◌∷◌}
use Rattle.records.specs.declared.refusal.Refusal.{Refusal}
use Rattle.records.specs.Refusals.{refusal_says}
use Rattle.records.proofs.Refusals.{says_injective, says_not_zero}
use Rattle.judge.specs.Check.{Checked}
use Rattle.judge.specs.Check.{checked_says}

no_pass : {P : Type 0} (last busy : ℕ) (f : Refusal) → 0 ∷ last ∷ busy ∷ [] ≡ refusal_says f → P
no_pass last busy f e = absurd (says_not_zero f (last ∷ busy ∷ []) (sym e))

pub checked_says_injective : (a b : Checked) → checked_says a ≡ checked_says b → a ≡ b
checked_says_injective (Ok a) (Ok b) e =
    let last : a.last ≡ b.last = cc in
    let busy : a.busy ≡ b.busy = cc in
    λ i. Ok (record { last = last i; busy = busy i })
checked_says_injective (Ok a) (Err f) e = no_pass a.last a.busy f e
checked_says_injective (Err f) (Ok a) e = no_pass a.last a.busy f (sym e)
checked_says_injective (Err f) (Err g) e = ap Err (says_injective f g e)
