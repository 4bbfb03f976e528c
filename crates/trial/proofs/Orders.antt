-- How many orders a list has; the numbers below that give each of them, and nothing else.
-- Assumes nothing.
use Rattle.std.specs.Prelude.{◌≡◌, List, [], ◌∷◌, ℕ, zero, suc, ◌+◌, ◌*◌, ◌/◌, ◌%◌, ◌<◌, ◌≤◌}
use Rattle.std.specs.Prelude.{Bool, true, false, cond, get_or, length, set}
use Rattle.std.specs.List.{sum_by, swap}
use Rattle.std.specs.List.Sorted.{IsPermutation}
use Rattle.std.proofs.Common.{arith, refl, ap, subst, ◌∙◌, mod-lt, zero-add, suc-mul, mul_comm, mul-le-mul_right}
use Rattle.std.proofs.lemmas.List.{get_or_default}
use Rattle.std.proofs.lemmas.List.Edits.{length-swap, swap_is}
use Rattle.std.proofs.lemmas.List.Sums.{sum_by-cons}
use Rattle.std.proofs.lemmas.List.Sorted.{IsPermutation-refl, IsPermutation-swap, IsPermutation-trans, sum_by-IsPermutation}
use Rattle.std.proofs.lemmas.Nat.{mod-mul-add, div-mul-add}
use Rattle.trial.specs.Orders.{arranged_from}

-- how many orders so many items have, and as the code's list tells it
unfoldable pub orders_of : ℕ → ℕ
orders_of zero = 1
orders_of (suc n) = suc n * orders_of n

pub orders_listed : (n : ℕ) → n ≤ 6 → get_or (1 ∷ 1 ∷ 2 ∷ 6 ∷ 24 ∷ 120 ∷ 720 ∷ []) n 0 ≡ orders_of n
unfolding orders_of
orders_listed zero h = refl
orders_listed (suc zero) h = refl
orders_listed (suc (suc zero)) h = refl
orders_listed (suc (suc (suc zero))) h = refl
orders_listed (suc (suc (suc (suc zero)))) h = refl
orders_listed (suc (suc (suc (suc (suc zero))))) h = refl
orders_listed (suc (suc (suc (suc (suc (suc zero)))))) h = refl
orders_listed (suc (suc (suc (suc (suc (suc (suc n))))))) h = absurd (omega (arith, h))

pub orders_some : (n : ℕ) → 0 < orders_of n
unfolding orders_of
orders_some zero = omega arith
orders_some (suc n) = let h = orders_some n in omega arith

-- ---- each number gives an order

pub arranged_permutation : {X : Type 0} (k left number : ℕ) (xs : List X) → k + left ≤ length xs → IsPermutation xs (arranged_from k left xs number)
unfolding arranged_from
arranged_permutation k zero number xs room = IsPermutation-refl xs
arranged_permutation k (suc left) number xs room =
    let r : number % suc left < suc left = mod-lt number (omega arith) in
    let one = IsPermutation-swap xs _ k (k + number % suc left) (omega arith) (omega arith) refl in
    let same = length-swap xs k (k + number % suc left) in
    IsPermutation-trans _ _ _ one (arranged_permutation (suc k) left (number / suc left) (swap xs k (k + number % suc left)) (omega arith))

-- ---- what stands in front stays there

swap_cons : {X : Type 0} (x : X) (xs : List X) (i j : ℕ) → i < length xs → j < length xs → swap (x ∷ xs) (suc i) (suc j) ≡ x ∷ swap xs i j
swap_cons x xs i j h g = ap (λ ys. x ∷ ys) (swap_is xs i j x h g)

arranged_cons :
    {X : Type 0} (k left number : ℕ) (x : X) (xs : List X) → k + left ≤ length xs →
    arranged_from (suc k) left (x ∷ xs) number ≡ x ∷ arranged_from k left xs number
unfolding arranged_from
arranged_cons k zero number x xs room = refl
arranged_cons k (suc left) number x xs room =
    let r : number % suc left < suc left = mod-lt number (omega arith) in
    let at : suc k + number % suc left ≡ suc (k + number % suc left) = omega arith in
    let moved = swap_cons x xs k (k + number % suc left) (omega arith) (omega arith) in
    let same = length-swap xs k (k + number % suc left) in
    rw (at, moved) (arranged_cons (suc k) left (number / suc left) x (swap xs k (k + number % suc left)) (omega arith))

-- an item that stands at a place comes to the front
swap_front :
    {X : Type 0} (xs : List X) (y : X) (k : ℕ) → k < length xs → get_or xs k y ≡ y → (rest : List X) × (swap xs 0 k ≡ y ∷ rest)
swap_front [] y k h e = absurd (omega (arith, h))
swap_front (x ∷ xs) y zero h e = (xs, ap (λ z. z ∷ xs) e)
swap_front (x ∷ xs) y (suc k) h e = (set xs k x, ap (λ z. z ∷ set xs k x) (get_or_default xs k x y (omega arith) ∙ e))

-- ---- each order has a number: that of its first item's place, and below it that of the order of the others

nothing : {X : Type 0} (xs : List X) → length xs ≡ 0 → xs ≡ []
nothing [] h = refl
nothing (x ∷ xs) h = absurd (omega (arith, h))

digits : (m r n orders : ℕ) → m < orders → r < suc n → m * suc n + r < suc n * orders
digits m r n orders h g =
    let p : suc m * suc n ≤ orders * suc n = mul-le-mul_right (suc n) h in
    let q = suc-mul m (suc n) in
    let s = mul_comm orders (suc n) in omega arith

-- the number of an order, by the place of its first item and the number of the order of the others
arranged_next :
    {X : Type 0} (n r m : ℕ) (xs rest ys : List X) (y : X) → r < suc n → swap xs 0 r ≡ y ∷ rest → n ≤ length rest →
    arranged_from 0 n rest m ≡ ys → arranged_from 0 (suc n) xs (m * suc n + r) ≡ y ∷ ys
unfolding arranged_from
arranged_next n r m xs rest ys y below front room others =
    let remainder : 0 + (m * suc n + r) % suc n ≡ r = zero-add _ ∙ mod-mul-add m (suc n) r below in
    let quotient : (m * suc n + r) / suc n ≡ m = div-mul-add m (suc n) r below in
    rw (remainder, quotient, front) (arranged_cons 0 n m y rest (omega arith) ∙ ap (λ zs. y ∷ zs) others)

-- Two lists that are orders of one another have the same sums. Of sums, what stands in both can be taken away, so this holds of what is left
-- too; and a sum of ones where an item is the one looked for tells that it stands in the list. Equality is to be decided for this.
module _ {X : Type 0} (same : X → X → Bool) (itself : (x : X) → same x x ≡ true) (told : (x y : X) → same x y ≡ true → x ≡ y) where
  -- 1 for an item, 0 for the others
  abbrev one : X → X → ℕ
  one y x = cond (same x y) 1 0

  find : (y : X) (xs : List X) → 0 < sum_by (one y) xs → (k : ℕ) × (k < length xs) × (get_or xs k y ≡ y)
  find y [] h = absurd (omega (arith, h))
  find y (x ∷ xs) h = step (same x y) refl (find y xs)
    where
      step :
          (b : Bool) → same x y ≡ b → (0 < sum_by (one y) xs → (k : ℕ) × (k < length xs) × (get_or xs k y ≡ y)) →
          (k : ℕ) × (k < length (x ∷ xs)) × (get_or (x ∷ xs) k y ≡ y)
      step true e later = (0, omega arith, told x y e)
      step false e later =
          let none : one y x ≡ 0 = rw e in
          let w = later (omega (arith, h, sum_by-cons (one y) x xs)) in (suc w.0, omega (arith, w.1), w.2)

  stands : (y : X) (ys : List X) → 0 < sum_by (one y) (y ∷ ys)
  stands y ys = let once : one y y ≡ 1 = rw (itself y) in omega (arith, sum_by-cons (one y) y ys)

  -- what is left without the item has the same sums
  left :
      (f : X → ℕ) (y : X) (xs swapped rest ys : List X) → IsPermutation xs swapped → swapped ≡ y ∷ rest → sum_by f (y ∷ ys) ≡ sum_by f xs →
      sum_by f ys ≡ sum_by f rest
  left f y xs swapped rest ys moved front all =
      let kept = sum_by-IsPermutation f _ _ moved in
      let seen : sum_by f swapped ≡ sum_by f (y ∷ rest) = ap (sum_by f) front in omega (arith, sum_by-cons f y ys, sum_by-cons f y rest)

  pub reached :
      (ys xs : List X) → length xs ≡ length ys → ((f : X → ℕ) → sum_by f ys ≡ sum_by f xs) →
      (number : ℕ) × (number < orders_of (length ys)) × (arranged_from 0 (length ys) xs number ≡ ys)
  unfolding arranged_from orders_of
  reached [] xs long sums = (0, omega arith, nothing xs long)
  reached (y ∷ ys) xs long sums =
      let w = find y xs (subst (λ n. 0 < n) (sums (one y)) (stands y ys)) in
      let front = swap_front xs y w.0 w.1 w.2 in
      let moved = IsPermutation-swap xs _ 0 w.0 (omega arith) w.1 refl in
      let among : length (swap xs 0 w.0) ≡ suc (length front.0) = ap length front.1 in
      let rest_long : length front.0 ≡ length ys = omega (arith, length-swap xs 0 w.0) in
      let others = reached ys front.0 rest_long (λ f. left f y xs (swap xs 0 w.0) front.0 ys moved front.1 (sums f)) in
      let below : w.0 < suc (length ys) = omega arith in
      let number = others.0 * suc (length ys) + w.0 in
      let is = arranged_next (length ys) w.0 others.0 xs front.0 ys y below front.1 (omega arith) others.2 in
      (number, digits others.0 w.0 (length ys) _ others.1 below, is)
