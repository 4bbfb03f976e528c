-- Words for lists: every element, every two elements, those that pass a test, a sum, a greatest number, and a stable sort.
-- Assumes nothing.
use Rattle.std.specs.Prelude.{Bool, cond, List, [], ◌∷◌, ℕ, ◌+◌, max, leb}

module _ {A : Type 0} where
  -- P holds of every element
  abbrev pub All : (A → Type 0) → List A → Type 0
  All P [] = Unit {0}
  All P (x ∷ xs) = P x × All P xs

  -- R holds of every two elements, the earlier one first
  abbrev pub Pairwise : (A → A → Type 0) → List A → Type 0
  Pairwise R [] = Unit {0}
  Pairwise R (x ∷ xs) = All (R x) xs × Pairwise R xs

  -- the elements that pass a test, in order
  abbrev pub filter : (A → Bool) → List A → List A
  filter f [] = []
  filter f (x ∷ xs) = cond (f x) (x ∷ filter f xs) (filter f xs)

  -- the sum of a number of each element
  abbrev pub total : (A → ℕ) → List A → ℕ
  total f [] = 0
  total f (x ∷ xs) = f x + total f xs

  -- the greatest of a number of each element, 0 where there is none
  abbrev pub greatest : (A → ℕ) → List A → ℕ
  greatest f [] = 0
  greatest f (x ∷ xs) = max (f x) (greatest f xs)

  -- x put before the first element whose key is not above x's
  abbrev pub insert : (A → ℕ) → A → List A → List A
  insert key x [] = x ∷ []
  insert key x (y ∷ ys) = cond (leb (key y) (key x)) (x ∷ y ∷ ys) (y ∷ insert key x ys)

  -- sorted by falling key; elements with equal keys stay in order
  abbrev pub falling : (A → ℕ) → List A → List A
  falling key [] = []
  falling key (x ∷ xs) = insert key x (falling key xs)
