-- Decimal text reads back as its number, has digits alone and no leading zero (`reads_back`, `digits_alone`, `no_leading_zero`); how many digits a number has
-- at most; and the laws behind: below ten one digit, else the remainder by ten behind the digits of the tens. Assumes nothing.
use Prim.Native.Nat.{ℕ, zero, suc, ◌+◌, ◌-◌, ◌*◌, ◌/◌, ◌%◌, ◌≤◌, ◌<◌}
use mathlib.Core.Path.{◌≡◌, refl, sym, ap, ◌∙◌}
use mathlib.Core.Bool.{Bool, true, false, cond}
use mathlib.Core.List.{List, [], ◌∷◌, ◌++◌}
use lib.ListN.{length, get_or, length-append}
use lib.Dec.{ltb}
use borrow.Author.Tests.{lt-ltb, le-ltb, ltb-true, ltb-false}
use native.Mathlib.Omega.{arith}
use Rattle.octets.specs.Decimals.{digits_in, decimal, number_from, number_in, Digits}

-- how many digits there may be does not matter, where it is above the number
enough : (f g n : ℕ) → n < f → n < g → digits_in f n ≡ digits_in g n
unfolding digits_in
enough zero g n hf hg = absurd (omega arith)
enough (suc f) zero n hf hg = absurd (omega arith)
enough (suc f) (suc g) n hf hg = go (ltb n 10) refl (λ a b. enough f g (n / 10) a b)
  where
    go :
        (t : Bool) → ltb n 10 ≡ t → (n / 10 < f → n / 10 < g → digits_in f (n / 10) ≡ digits_in g (n / 10)) →
        cond t ((48 + n) ∷ []) (digits_in f (n / 10) ++ ((48 + n % 10) ∷ [])) ≡ cond t ((48 + n) ∷ []) (digits_in g (n / 10) ++ ((48 + n % 10) ∷ []))
    go true e ih = refl
    go false e ih = let large : 10 ≤ n = ltb-false n 10 e in ap (λ (l : List ℕ). l ++ ((48 + n % 10) ∷ [])) (ih (omega arith) (omega arith))

pub decimal_small : (n : ℕ) → n < 10 → decimal n ≡ (48 + n) ∷ []
unfolding decimal digits_in
decimal_small n h = simp (lt-ltb n 10 h)

pub decimal_large : (n : ℕ) → 10 ≤ n → decimal n ≡ decimal (n / 10) ++ ((48 + n % 10) ∷ [])
unfolding decimal digits_in
decimal_large n h = simp (le-ltb n 10 h) (ap (λ (l : List ℕ). l ++ ((48 + n % 10) ∷ [])) (enough n (suc (n / 10)) (n / 10) (omega arith) (omega arith)))

pub small_length : (n : ℕ) → n < 10 → length (decimal n) ≡ 1
small_length n h = ap length (decimal_small n h)

pub large_length : (n : ℕ) → 10 ≤ n → length (decimal n) ≡ length (decimal (n / 10)) + 1
large_length n h = ap length (decimal_large n h) ∙ simp length-append

-- ten to the k
abbrev pub tens : ℕ → ℕ
tens zero = 1
tens (suc k) = 10 * tens k

-- a number below ten to the k + 1 has at most k + 1 digits
pub few_digits : (k n : ℕ) → n < 10 * tens k → length (decimal n) ≤ suc k
few_digits zero n h = omega (arith, small_length n (omega arith))
few_digits (suc k) n h = go (ltb n 10) refl (λ x. few_digits k (n / 10) x)
  where
    go : (t : Bool) → ltb n 10 ≡ t → (n / 10 < 10 * tens k → length (decimal (n / 10)) ≤ suc k) → length (decimal n) ≤ suc (suc k)
    go true e ih = let small : n < 10 = ltb-true n 10 e in omega (arith, small_length n small)
    go false e ih = let large : 10 ≤ n = ltb-false n 10 e in omega (arith, large_length n large, ih (omega arith))

-- one digit more at the end
number_more : (k : ℕ) (bs : List ℕ) (d : ℕ) → number_from k (bs ++ ((48 + d) ∷ [])) ≡ 10 * number_from k bs + d
number_more k [] d = omega arith
number_more k (b ∷ bs) d = number_more (10 * k + (b - 48)) bs d

digits_more : (bs : List ℕ) (d : ℕ) → d < 10 → Digits bs → Digits (bs ++ ((48 + d) ∷ []))
digits_more [] d h a = (omega arith, omega arith, tt)
digits_more (b ∷ bs) d h a = (a.0, a.1, digits_more bs d h a.2)

first_more : (bs : List ℕ) (d : ℕ) → 1 ≤ length bs → get_or (bs ++ (d ∷ [])) 0 0 ≡ get_or bs 0 0
first_more [] d h = absurd (omega arith)
first_more (b ∷ bs) d h = refl

-- what holds of numbers below ten, and of a number where it holds of its tens, holds of every number
tens_all : (P : ℕ → Type 0) → ((n : ℕ) → n < 10 → P n) → ((n : ℕ) → 10 ≤ n → P (n / 10) → P n) → (n : ℕ) → P n
tens_all P small large n = go (suc n) n (omega arith)
  where
    step : (n : ℕ) (b : Bool) → ltb n 10 ≡ b → ((m : ℕ) → m < n → P m) → P n
    step n true e on = small n (ltb-true n 10 e)
    step n false e on = let h : 10 ≤ n = ltb-false n 10 e in large n h (on (n / 10) (omega arith))

    go : (left n : ℕ) → n < left → P n
    go zero n h = absurd (omega arith)
    go (suc left) n h = step n (ltb n 10) refl (λ m k. go left m (omega arith))

-- the decimal text of n reads back as n
pub reads_back : (n : ℕ) → number_in (decimal n) ≡ n
reads_back =
    tens_all (λ (n : ℕ). number_in (decimal n) ≡ n) (λ n h. rw (decimal_small n h) (omega arith))
    (λ n h e. rw (decimal_large n h) (number_more 0 (decimal (n / 10)) (n % 10) ∙ rw e (omega arith)))

pub digits_alone : (n : ℕ) → Digits (decimal n)
digits_alone =
    tens_all (λ (n : ℕ). Digits (decimal n)) (λ n h. rw (decimal_small n h) (omega arith, omega arith, tt))
    (λ n h e. rw (decimal_large n h) (digits_more (decimal (n / 10)) (n % 10) (omega arith) e))

-- there is a first digit, and it is '0' for the number 0 alone
pub no_leading_zero : (n : ℕ) → (1 ≤ length (decimal n)) × (get_or (decimal n) 0 0 ≡ 48 → n ≡ 0)
no_leading_zero =
    tens_all (λ (n : ℕ). (1 ≤ length (decimal n)) × (get_or (decimal n) 0 0 ≡ 48 → n ≡ 0))
    (λ n h. rw (decimal_small n h) (omega arith, λ e. omega arith))
    (λ n h i. (
      omega (arith, large_length n h),
      λ e. let tens : n / 10 ≡ 0 = i.1 (sym (first_more (decimal (n / 10)) (48 + n % 10) i.0) ∙ rw (← decimal_large n h) e) in omega arith,
    ))
