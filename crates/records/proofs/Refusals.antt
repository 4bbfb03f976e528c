-- Two refusals that say the same numbers are equal: `named` finds the refusal again from what it says.
-- And none says what an accepted call says. Assumes nothing.
use Prim.Native.Nat.{ℕ, ◌≤◌}
use native.Mathlib.Omega.{arith}
use mathlib.Core.Path.{◌≡◌, refl, ap, sym, ◌∙◌}
use mathlib.Core.List.{List, [], ◌∷◌}
use lib.ListN.{get_or}
use Rattle.records.specs.declared.refusal.Place.{Place}
use Rattle.records.specs.declared.refusal.Refusal.{Refusal}
use Rattle.records.specs.declared.refusal.Refusal.TheVariants.{Short, Kind, Range, Many, Twice, After, None, Stranger, Kept, Left, Late, Phase, Number}
use Rattle.records.specs.declared.refusal.Refusal.TheVariants.{Clock, Who, Value, Early, Room}
use Rattle.records.specs.Refusals.{refusal_says}

-- the refusals in the order of their numbers, from 1
in_order : Place → List Refusal
in_order p =
    Short p ∷ Kind p ∷ Range p ∷ Many p ∷ Twice p ∷ After p ∷ None ∷ Stranger ∷ Kept ∷ Left ∷ Late ∷ Phase ∷ Number ∷ Clock ∷ Who ∷ Value ∷ Early ∷ Room ∷ []

-- the refusal of a number and a place; there is no number 0
named : List ℕ → Refusal
named says = get_or (None ∷ in_order (record { at = get_or says 1 0 })) (get_or says 0 0) None

named_says : (f : Refusal) → named (refusal_says f) ≡ f
unfolding named in_order
named_says (Short p) = refl
named_says (Kind p) = refl
named_says (Range p) = refl
named_says (Many p) = refl
named_says (Twice p) = refl
named_says (After p) = refl
named_says None = refl
named_says Stranger = refl
named_says Kept = refl
named_says Left = refl
named_says Late = refl
named_says Phase = refl
named_says Number = refl
named_says Clock = refl
named_says Who = refl
named_says Value = refl
named_says Early = refl
named_says Room = refl

pub says_injective : (f g : Refusal) → refusal_says f ≡ refusal_says g → f ≡ g
says_injective f g e = sym (named_says f) ∙ (ap named e ∙ named_says g)

-- refusals are numbered from 1, so none says what an accepted call says
pub says_numbered : (f : Refusal) → 1 ≤ get_or (refusal_says f) 0 0
says_numbered (Short p) = omega arith
says_numbered (Kind p) = omega arith
says_numbered (Range p) = omega arith
says_numbered (Many p) = omega arith
says_numbered (Twice p) = omega arith
says_numbered (After p) = omega arith
says_numbered None = omega arith
says_numbered Stranger = omega arith
says_numbered Kept = omega arith
says_numbered Left = omega arith
says_numbered Late = omega arith
says_numbered Phase = omega arith
says_numbered Number = omega arith
says_numbered Clock = omega arith
says_numbered Who = omega arith
says_numbered Value = omega arith
says_numbered Early = omega arith
says_numbered Room = omega arith

pub says_not_zero : (f : Refusal) (ns : List ℕ) → refusal_says f ≡ 0 ∷ ns → ⊥
says_not_zero f ns e = omega (arith, says_numbered f, ap (λ (l : List ℕ). get_or l 0 0) e)
