-- General laws of lists: of `All` and `Pairwise`, of what passes a test, of the first so many, of elements by position and of members.
-- Assumes nothing.
use mathlib.Core.Path.{◌≡◌, refl, ap, sym, subst, ◌∙◌}
use mathlib.Core.Bool.{Bool, true, false, cond}
use mathlib.Core.List.{List, [], ◌∷◌, ◌++◌, map, Memᴰ}
use Prim.Native.Nat.{ℕ, zero, suc, ◌+◌, ◌-◌, ◌≤◌, ◌<◌}
use native.Mathlib.Omega.{arith}
use native.Mathlib.Decide.{dec_lt}
use lib.Dec.{T}
use lib.ListN.{length, get_or, take, replicate, length-replicate, get_or-append, get_or-eq_default, get_or-replicate}
use lib.Seq.{get_or-append-add}
use Rattle.model.specs.Lists.{All, Pairwise, filter}

-- two different constructors are not equal: `clash (cc)`
pub clash : {P : Type 0} → ◌≡◌ {A = ℕ} 0 1 → P
clash e = let z : ⊥ = omega arith in absurd z

module _ {A : Type 0} where
  pub all_map : {P Q : A → Type 0} → ((x : A) → P x → Q x) → (xs : List A) → All P xs → All Q xs
  all_map f [] h = tt
  all_map f (x ∷ xs) h = (f x h.0, all_map f xs h.1)

  pub all_zip : (P Q : A → Type 0) (xs : List A) → All P xs → All Q xs → All (λ (x : A). P x × Q x) xs
  all_zip P Q [] p q = tt
  all_zip P Q (x ∷ xs) p q = ((p.0, q.0), all_zip P Q xs p.1 q.1)

  pub all_all : {P : A → Type 0} → ((x : A) → P x) → (xs : List A) → All P xs
  all_all f [] = tt
  all_all f (x ∷ xs) = (f x, all_all f xs)

  pub all_filter : (P : A → Type 0) (f : A → Bool) (xs : List A) → All P xs → All P (filter f xs)
  all_filter P f [] h = tt
  all_filter P f (x ∷ xs) h = step (f x) (all_filter P f xs h.1)
    where
      step : (b : Bool) → All P (filter f xs) → All P (cond b (x ∷ filter f xs) (filter f xs))
      step true r = (h.0, r)
      step false r = r

  -- what passed the test
  pub all_passed : (f : A → Bool) (xs : List A) → All (λ (x : A). T (f x)) (filter f xs)
  all_passed f [] = tt
  all_passed f (x ∷ xs) = step (f x) (λ t. t) (all_passed f xs)
    where
      step : (b : Bool) → (T b → T (f x)) → All (λ (y : A). T (f y)) (filter f xs) → All (λ (y : A). T (f y)) (cond b (x ∷ filter f xs) (filter f xs))
      step true i r = (i tt, r)
      step false i r = r

  pub all_at : (P : A → Type 0) (xs : List A) (d : A) → All P xs → (k : ℕ) → k < length xs → P (get_or xs k d)
  all_at P [] d a k h = absurd (omega arith)
  all_at P (x ∷ xs) d a zero h = a.0
  all_at P (x ∷ xs) d a (suc k) h = all_at P xs d a.1 k (omega arith)

  pub all_take : (P : A → Type 0) (xs : List A) (i : ℕ) → All P xs → All P (take i xs)
  all_take P [] zero a = tt
  all_take P [] (suc i) a = tt
  all_take P (x ∷ xs) zero a = tt
  all_take P (x ∷ xs) (suc i) a = (a.0, all_take P xs i a.1)

  pub member_all : (P : A → Type 0) {x : A} {xs : List A} → All P xs → Memᴰ x xs → P x
  member_all P h (Memᴰ.head e) = subst P (sym e) h.0
  member_all P h (Memᴰ.tail m) = member_all P h.1 m

  pub all_members : (xs : List A) → All (λ (x : A). Memᴰ x xs) xs
  all_members [] = tt
  all_members (x ∷ xs) = (Memᴰ.head refl, all_map (λ y m. Memᴰ.tail m) xs (all_members xs))

  -- below a list's length the default does not matter
  pub at_any : (xs : List A) (k : ℕ) (d e : A) → k < length xs → get_or xs k d ≡ get_or xs k e
  at_any [] k d e h = absurd (omega arith)
  at_any (x ∷ xs) zero d e h = refl
  at_any (x ∷ xs) (suc k) d e h = at_any xs k d e (omega arith)

  pub filter_length : (f : A → Bool) (xs : List A) → length (filter f xs) ≤ length xs
  filter_length f [] = omega arith
  filter_length f (x ∷ xs) = step (f x) (filter_length f xs)
    where
      step : (b : Bool) → length (filter f xs) ≤ length xs → length (cond b (x ∷ filter f xs) (filter f xs)) ≤ suc (length xs)
      step true h = omega arith
      step false h = omega arith

  pub filter_take : (f : A → Bool) (xs : List A) (i : ℕ) → length (filter f (take i xs)) ≤ length (filter f xs)
  filter_take f [] zero = omega arith
  filter_take f [] (suc i) = omega arith
  filter_take f (x ∷ xs) zero = omega arith
  filter_take f (x ∷ xs) (suc i) = step (f x) (filter f (take i xs)) (filter f xs) (filter_take f xs i)
    where
      step : (b : Bool) (ys zs : List A) → length ys ≤ length zs → length (cond b (x ∷ ys) ys) ≤ length (cond b (x ∷ zs) zs)
      step true ys zs h = omega arith
      step false ys zs h = h

  pub pairwise_map : {R Q : A → A → Type 0} → ((x y : A) → R x y → Q x y) → (xs : List A) → Pairwise R xs → Pairwise Q xs
  pairwise_map f [] h = tt
  pairwise_map f (x ∷ xs) h = (all_map (f x) xs h.0, pairwise_map f xs h.1)

  pub pairwise_all : {R : A → A → Type 0} → ((x y : A) → R x y) → (xs : List A) → Pairwise R xs
  pairwise_all f [] = tt
  pairwise_all f (x ∷ xs) = (all_all (f x) xs, pairwise_all f xs)

  pub pairwise_at : (d : A) (R : A → A → Type 0) (xs : List A) → Pairwise R xs → (i k : ℕ) → i < k → k < length xs → R (get_or xs i d) (get_or xs k d)
  pairwise_at d R [] p i k h b = absurd (omega arith)
  pairwise_at d R (x ∷ xs) p i zero h b = absurd (omega arith)
  pairwise_at d R (x ∷ xs) p zero (suc k) h b = all_at (R x) xs d p.0 k (omega arith)
  pairwise_at d R (x ∷ xs) p (suc i) (suc k) h b = pairwise_at d R xs p.1 i k (omega arith) (omega arith)

  pub pairwise_filter : (R : A → A → Type 0) (f : A → Bool) (xs : List A) → Pairwise R xs → Pairwise R (filter f xs)
  pairwise_filter R f [] h = tt
  pairwise_filter R f (x ∷ xs) h = step (f x) (pairwise_filter R f xs h.1)
    where
      step : (b : Bool) → Pairwise R (filter f xs) → Pairwise R (cond b (x ∷ filter f xs) (filter f xs))
      step true r = (all_filter (R x) f xs h.0, r)
      step false r = r

  pub all_append : (P : A → Type 0) (xs ys : List A) → All P xs → All P ys → All P (xs ++ ys)
  all_append P [] ys p q = q
  all_append P (x ∷ xs) ys p q = (p.0, all_append P xs ys p.1 q)

  pub pairwise_append : (R : A → A → Type 0) (xs ys : List A) → Pairwise R xs → Pairwise R ys → All (λ (x : A). All (R x) ys) xs → Pairwise R (xs ++ ys)
  pairwise_append R [] ys p q r = q
  pairwise_append R (x ∷ xs) ys p q r = (all_append (R x) xs ys p.0 r.0, pairwise_append R xs ys p.1 q r.1)

module _ {A B : Type 0} (g : A → B) where
  pub all_of_map : (P : B → Type 0) (xs : List A) → All P (map g xs) → All (λ (x : A). P (g x)) xs
  all_of_map P [] h = tt
  all_of_map P (x ∷ xs) h = (h.0, all_of_map P xs h.1)

  pub map_all : (P : B → Type 0) (xs : List A) → All (λ (x : A). P (g x)) xs → All P (map g xs)
  map_all P [] h = tt
  map_all P (x ∷ xs) h = (h.0, map_all P xs h.1)

  pub pairwise_of_map : (R : B → B → Type 0) (xs : List A) → Pairwise R (map g xs) → Pairwise (λ (x y : A). R (g x) (g y)) xs
  pairwise_of_map R [] h = tt
  pairwise_of_map R (x ∷ xs) h = (all_of_map (R (g x)) xs h.0, pairwise_of_map R xs h.1)

  pub map_pairwise : (R : B → B → Type 0) (xs : List A) → Pairwise (λ (x y : A). R (g x) (g y)) xs → Pairwise R (map g xs)
  map_pairwise R [] h = tt
  map_pairwise R (x ∷ xs) h = (map_all (R (g x)) xs h.0, map_pairwise R xs h.1)

-- zeros behind a list do not show
pub padded : (xs : List ℕ) (n i : ℕ) → get_or (xs ++ replicate n 0) i 0 ≡ get_or xs i 0
padded xs n i = step (dec_lt i (length xs))
  where
    zeros : (k : ℕ) → Dec (k < n) → ◌≡◌ {A = ℕ} (get_or (replicate n 0) k 0) 0
    zeros k (yes h) = get_or-replicate {A = ℕ} n k 0 0 h
    zeros k (no h) = get_or-eq_default (replicate n 0) 0 (omega (arith, length-replicate {A = ℕ} n 0))

    step : Dec (i < length xs) → get_or (xs ++ replicate n 0) i 0 ≡ get_or xs i 0
    step (yes h) = get_or-append xs (replicate n 0) 0 i h
    step (no h) =
        let k : i ≡ length xs + (i - length xs) = omega arith in
        ap (λ (m : ℕ). get_or (xs ++ replicate n 0) m 0) k ∙ get_or-append-add xs (replicate n 0) (i - length xs) 0
        ∙ zeros (i - length xs) (dec_lt (i - length xs) n) ∙ sym (get_or-eq_default xs 0 (omega arith))
