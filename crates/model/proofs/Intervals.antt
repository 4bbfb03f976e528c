-- Intervals of which any two are apart and that all end by B have lengths that sum to at most B.
-- Assumes nothing.
use mathlib.Core.Logic.{◌⊎◌, inl, inr}
use mathlib.Core.List.{List, [], ◌∷◌}
use Prim.Native.Nat.{ℕ, ◌+◌, ◌-◌, ◌≤◌, min, max}
use native.Mathlib.Omega.{arith}
use native.Mathlib.Decide.{dec_le}
use Rattle.model.specs.Lists.{All, Pairwise, total}

module _ {X : Type 0} (start end : X → ℕ) where
  -- the length of what lies between A and B
  clip : ℕ → ℕ → X → ℕ
  clip A B x = min B (end x) - max A (start x)

  clip_left : (A B a : ℕ) (x : X) → end x ≤ a → a ≤ B → clip A B x ≤ clip A a x
  unfolding clip
  clip_left A B a x h k = omega arith

  clip_right : (A B b : ℕ) (x : X) → b ≤ start x → A ≤ b → clip A B x ≤ clip b B x
  unfolding clip
  clip_right A B b x h k = omega arith

  clip_inside : (A B : ℕ) (x : X) → max A (start x) ≤ min B (end x) → max A (start x) + clip A B x ≤ min B (end x)
  unfolding clip
  clip_inside A B x h = omega arith

  clip_outside : (A B : ℕ) (x : X) → ¬ (max A (start x) ≤ min B (end x)) → clip A B x ≤ 0
  unfolding clip
  clip_outside A B x h = omega arith

  clip_whole : (B : ℕ) (x : X) → end x ≤ B → end x ≤ start x + clip 0 B x
  unfolding clip
  clip_whole B x h = omega arith

  abbrev pub Off : X → X → Type 0
  Off x y = (end x ≤ start y) ⊎ (end y ≤ start x)

  -- apart from x, what lies between A and B lies before a or after b, where x covers [a, b]
  clip_split : (A B a b : ℕ) (x y : X) → Off x y → start x ≤ a → b ≤ end x → a ≤ B → A ≤ b → clip A B y ≤ clip A a y + clip b B y
  clip_split A B a b x y (inl h) p q r s = omega (arith, clip_right A B b y (omega arith) s)
  clip_split A B a b x y (inr h) p q r s = omega (arith, clip_left A B a y (omega arith) r)

  clips_split : (A B a b : ℕ) (x : X) (ys : List X) → All (Off x) ys → start x ≤ a → b ≤ end x → a ≤ B → A ≤ b
      → total (clip A B) ys ≤ total (clip A a) ys + total (clip b B) ys
  clips_split A B a b x [] h p q r s = omega arith
  clips_split A B a b x (y ∷ ys) h p q r s = omega (arith, clip_split A B a b x y h.0 p q r s, clips_split A B a b x ys h.1 p q r s)

  clipped : (xs : List X) (A B : ℕ) → A ≤ B → Pairwise Off xs → A + total (clip A B) xs ≤ B
  clipped [] A B h p = omega arith
  clipped (x ∷ xs) A B h p = step (dec_le (max A (start x)) (min B (end x))) (λ C D i. clipped xs C D i p.1)
    where
      step : Dec (max A (start x) ≤ min B (end x)) → ((C D : ℕ) → C ≤ D → C + total (clip C D) xs ≤ D) → A + total (clip A B) (x ∷ xs) ≤ B
      step (no n) f = omega (arith, clip_outside A B x n, f A B h)
      step (yes i) f =
          omega (
            arith,
            clip_inside A B x i,
            f A (max A (start x)) (omega arith),
            f (min B (end x)) B (omega arith),
            clips_split A B (max A (start x)) (min B (end x)) x xs p.0 (omega arith) (omega arith) (omega arith) (omega arith),
          )

  -- pairwise apart, all ended by B: the lengths sum to at most B
  pub packed : (len : X → ℕ) → ((x : X) → start x + len x ≤ end x) → (xs : List X) (B : ℕ)
      → Pairwise Off xs → All (λ (x : X). end x ≤ B) xs → total len xs ≤ B
  packed len e xs B p h = omega (arith, clipped xs 0 B (omega arith) p, sum xs h)
    where
      sum : (ys : List X) → All (λ (x : X). end x ≤ B) ys → total len ys ≤ total (clip 0 B) ys
      sum [] k = omega arith
      sum (y ∷ ys) k = omega (arith, e y, clip_whole B y k.0, sum ys k.1)
