-- The least pair (total, mask) of a set of pairs, if there is one: of a union, of a shifted set, and below a bound.
-- Assumes nothing.
use mathlib.Core.Path.{◌≡◌, refl, sym}
use mathlib.Core.Logic.{◌⊎◌, inl, inr}
use mathlib.Core.Bool.{Bool, true, false, cond, ◌&&◌, ◌||◌}
use Prim.Native.Nat.{ℕ, ◌+◌, ◌≤◌, ◌<◌}
use native.Mathlib.Omega.{arith}
use borrow.Author.Tests.{leb-true, leb-false, ltb-true, ltb-false, eqb-true, eqb-false}
use lib.Dec.{leb, ltb, eqb}
use Rattle.model.specs.Recurrence.{Cell, empty, cell, pick, shift, cap}

-- a lower total, or the same and no higher mask
abbrev pub LexLe : ℕ → ℕ → ℕ → ℕ → Type 0
LexLe a m b n = (a < b) ⊎ ((a ≡ b) × (m ≤ n))

pub lex_trans : (a m b n c o : ℕ) → LexLe a m b n → LexLe b n c o → LexLe a m c o
lex_trans a m b n c o (inl h) (inl k) = inl (omega arith)
lex_trans a m b n c o (inl h) (inr k) = inl (omega (arith, k.0))
lex_trans a m b n c o (inr h) (inl k) = inl (omega (arith, h.0))
lex_trans a m b n c o (inr h) (inr k) = inr (omega (arith, h, k))

-- the cell holds the least pair of P, or P has none
abbrev pub IsLeast : (ℕ → ℕ → Type 0) → Cell → Type 0
IsLeast P empty = (a m : ℕ) → P a m → ⊥
IsLeast P (cell a m) = P a m × ((b n : ℕ) → P b n → LexLe a m b n)

pub least_iff : (P Q : ℕ → ℕ → Type 0) → ((a m : ℕ) → P a m → Q a m) → ((a m : ℕ) → Q a m → P a m) → (c : Cell) → IsLeast P c → IsLeast Q c
least_iff P Q f g empty h = λ a m q. h a m (g a m q)
least_iff P Q f g (cell a m) h = (f a m h.0, λ b n q. h.1 b n (g b n q))

module _ (P Q : ℕ → ℕ → Type 0) where
  abbrev Either : ℕ → ℕ → Type 0
  Either a m = P a m ⊎ Q a m

  no_either : (a m : ℕ) → (P a m → ⊥) → (Q a m → ⊥) → Either a m → ⊥
  no_either a m f g (inl p) = f p
  no_either a m f g (inr q) = g q

  below : (a m b n : ℕ) → (P b n → LexLe a m b n) → (Q b n → LexLe a m b n) → Either b n → LexLe a m b n
  below a m b n f g (inl p) = f p
  below a m b n f g (inr q) = g q

  pub pick_least : (c d : Cell) → IsLeast P c → IsLeast Q d → IsLeast (λ (a m : ℕ). P a m ⊎ Q a m) (pick c d)
  pick_least empty empty h k = λ a m e. no_either a m (h a m) (k a m) e
  pick_least empty (cell b n) h k = (inr k.0, λ a m e. below b n a m (λ p. absurd (h a m p)) (k.1 a m) e)
  pick_least (cell a m) empty h k = (inl h.0, λ b n e. below a m b n (h.1 b n) (λ q. absurd (k b n q)) e)
  pick_least (cell a m) (cell b n) h k = first (ltb a b) refl
    where
      left : LexLe a m b n → IsLeast Either (cell a m)
      left l = (inl h.0, λ c o e. below a m c o (h.1 c o) (λ q. lex_trans a m b n c o l (k.1 c o q)) e)

      right : LexLe b n a m → IsLeast Either (cell b n)
      right l = (inr k.0, λ c o e. below b n c o (λ p. lex_trans b n a m c o l (h.1 c o p)) (k.1 c o) e)

      third : (t : Bool) → leb m n ≡ t → a ≡ b → IsLeast Either (cond t (cell a m) (cell b n))
      third true e q = left (inr (q, leb-true m n e))
      third false e q = right (inr (sym q, omega (arith, leb-false m n e)))

      second : (t : Bool) → eqb a b ≡ t → b ≤ a → IsLeast Either (cond (t && leb m n) (cell a m) (cell b n))
      second true e g = third (leb m n) refl (eqb-true a b e)
      second false e g = right (inl (omega (arith, eqb-false a b e)))

      first : (t : Bool) → ltb a b ≡ t → IsLeast Either (cond (t || (eqb a b && leb m n)) (cell a m) (cell b n))
      first true e = left (inl (ltb-true a b e))
      first false e = second (eqb a b) refl (ltb-false a b e)

abbrev pub Shifted : ℕ → ℕ → (ℕ → ℕ → Type 0) → ℕ → ℕ → Type 0
Shifted C B P a m = (b : ℕ) × (n : ℕ) × P b n × (a ≡ b + C) × (m ≡ n + B)

lex_shift : (C B a m b n : ℕ) → LexLe a m b n → LexLe (a + C) (m + B) (b + C) (n + B)
lex_shift C B a m b n (inl h) = inl (omega arith)
lex_shift C B a m b n (inr h) = inr (omega arith)

pub shift_least : (C B : ℕ) (P : ℕ → ℕ → Type 0) (c : Cell) → IsLeast P c → IsLeast (Shifted C B P) (shift C B c)
shift_least C B P empty h = λ a m s. h s.0 s.1 s.2
shift_least C B P (cell a m) h = (
  (a, m, h.0, refl, refl),
  λ b n s. rw (s.3, s.4) (lex_shift C B a m s.0 s.1 (h.1 s.0 s.1 s.2)),
)

lex_le : (a m b n : ℕ) → LexLe a m b n → a ≤ b
lex_le a m b n (inl h) = omega arith
lex_le a m b n (inr h) = omega arith

pub cap_least : (D : ℕ) (P : ℕ → ℕ → Type 0) (c : Cell) → IsLeast P c → IsLeast (λ (a m : ℕ). P a m × (a ≤ D)) (cap D c)
cap_least D P empty h = λ a m p. h a m p.0
cap_least D P (cell a m) h = step (leb a D) refl
  where
    step : (t : Bool) → leb a D ≡ t → IsLeast (λ (b n : ℕ). P b n × (b ≤ D)) (cond t (cell a m) empty)
    step true e = ((h.0, leb-true a D e), λ b n p. h.1 b n p.0)
    step false e = λ b n p. omega (arith, leb-false a D e, lex_le a m b n (h.1 b n p.0), p.1)

-- a cell that stands only where a test passes
pub when_least : (t : Bool) (X : Type 0) (P : ℕ → ℕ → Type 0) (c : Cell) → (t ≡ true → X) → (t ≡ false → X → ⊥) → (X → IsLeast P c)
    → IsLeast (λ (a m : ℕ). X × P a m) (cond t c empty)
when_least true X P c y n h = least_iff P (λ (a m : ℕ). X × P a m) (λ a m p. (y refl, p)) (λ a m p. p.1) c (h (y refl))
when_least false X P c y n h = λ a m p. n refl p.0
