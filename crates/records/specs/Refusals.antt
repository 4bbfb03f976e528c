-- Document 01, 'Refusal numbers': what each refusal says to the caller, its number and its values.
-- Assumes nothing.
use Rattle.std.specs.Prelude.{ℕ, ◌+◌, List, [], ◌∷◌, Some, None as no_place}
use Rattle.records.specs.declared.refusal.Place.{Place}
use Rattle.records.specs.declared.refusal.Said.{Said}
use Rattle.records.specs.declared.refusal.Refusal.{Refusal}
use Rattle.records.specs.declared.refusal.Refusal.TheVariants.{Short, Kind, Range, Many, Twice, After, None, Stranger, Kept, Left, Late, Phase, Number}
use Rattle.records.specs.declared.refusal.Refusal.TheVariants.{Clock, Who, Value, Early, Room}

-- "The place is the offset of the record's kind byte": that of a file's first record,
abbrev pub start : Place
start = record { at = 0 }

-- and that of the next, as one byte of kind and a body of this length stand before it
abbrev pub past : Place → ℕ → Place
past p body = record { at = p.at + 1 + body }

-- "1 to 6 return number and place, the rest the number."
abbrev pub refusal_says : Refusal → List ℕ
refusal_says (Short p) = 1 ∷ p.at ∷ []
refusal_says (Kind p) = 2 ∷ p.at ∷ []
refusal_says (Range p) = 3 ∷ p.at ∷ []
refusal_says (Many p) = 4 ∷ p.at ∷ []
refusal_says (Twice p) = 5 ∷ p.at ∷ []
refusal_says (After p) = 6 ∷ p.at ∷ []
refusal_says None = 7 ∷ []
refusal_says Stranger = 8 ∷ []
refusal_says Kept = 9 ∷ []
refusal_says Left = 10 ∷ []
refusal_says Late = 11 ∷ []
refusal_says Phase = 12 ∷ []
refusal_says Number = 13 ∷ []
refusal_says Clock = 14 ∷ []
refusal_says Who = 15 ∷ []
refusal_says Value = 16 ∷ []
refusal_says Early = 17 ∷ []
refusal_says Room = 18 ∷ []

-- the same as `numbers_of` answers it
abbrev pub said_by : List ℕ → Said
said_by [] = record { number = 0; place = no_place }
said_by (n ∷ []) = record { number = n; place = no_place }
said_by (n ∷ p ∷ rest) = record { number = n; place = Some p }

-- What bytes or a call come to: accepted with what they mean, or refused.
pub data Outcome (A : Type 0) : Type 0 where
  accepted : A → Outcome A
  refused : Refusal → Outcome A
