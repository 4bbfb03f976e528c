-- A range of columns is changed one column after another: what a store at its end, or just before its start, leaves.
-- Assumes nothing.
use mathlib.Core.Path.{◌≡◌, refl, sym, ap, ◌∙◌}
use mathlib.Core.Logic.{◌⊎◌, inl, inr}
use mathlib.Core.List.{List}
use Prim.Native.Nat.{ℕ, ◌+◌, ◌-◌, ◌≤◌, ◌<◌}
use native.Mathlib.Omega.{arith}
use native.Mathlib.Decide.{ℕ_discrete}
use lib.ListN.{length, get_or, set, length-set}
use lib.Seq.{get_or-set_same, get_or-set_other}
use Rattle.rows.specs.Columns.{Fit, Changed, Sent, lower, lower_total, lower_mask}
use Rattle.rows.specs.Rows.{columns}

-- no column is changed yet
pub changed_none : (n : ℕ) (new : ℕ → ℕ) (xs : List ℕ) → length xs ≡ columns → Changed n n new xs xs
changed_none n new xs l = record { sized = l; inside = λ t h k. absurd (omega arith); outside = λ t h. refl }

-- one column more, t: with those of a..b it makes up a'..b'
pub changed_more : (a b a' b' t v : ℕ) (new : ℕ → ℕ) (xs xs' : List ℕ) → Changed a b new xs xs' → t < columns → a' ≤ t → t < b' → a' ≤ a → b ≤ b'
    → ((i : ℕ) → a' ≤ i → i < b' → (i ≡ t → ⊥) → (a ≤ i) × (i < b)) → v ≡ new t → Changed a' b' new xs (set xs' t v)
changed_more a b a' b' t v new xs xs' c w h k l m old e =
    record {
      sized = length-set xs' t v ∙ c.sized;
      inside = λ i p q. at i p q (ℕ_discrete i t);
      outside = λ i p. else i p;
    }
  where
    at : (i : ℕ) → a' ≤ i → i < b' → Dec (i ≡ t) → get_or (set xs' t v) i 0 ≡ new i
    at i p q (yes s) =
        ap (λ (u : ℕ). get_or (set xs' t v) u 0) s ∙ get_or-set_same xs' t v 0 (omega (arith, c.sized)) ∙ e ∙ ap new (sym s)
    at i p q (no s) =
        get_or-set_other xs' t i v 0 s ∙ c.inside i (old i p q s).0 (old i p q s).1

    else : (i : ℕ) → (i < a') ⊎ (b' ≤ i) → get_or (set xs' t v) i 0 ≡ get_or xs i 0
    else i (inl p) = get_or-set_other xs' t i v 0 (omega arith) ∙ c.outside i (inl (omega arith))
    else i (inr p) = get_or-set_other xs' t i v 0 (omega arith) ∙ c.outside i (inr (omega arith))

-- the column after the range
pub changed_up : (a t v : ℕ) (new : ℕ → ℕ) (xs xs' : List ℕ) → Changed a t new xs xs' → t < columns → a ≤ t → v ≡ new t
    → Changed a (t + 1) new xs (set xs' t v)
changed_up a t v new xs xs' c w h e =
    changed_more a t a (t + 1) t v new xs xs' c w h (omega arith) (omega arith) (omega arith) (λ i p q s. (p, omega arith)) e

-- the column before the range
pub changed_down : (n b v : ℕ) (new : ℕ → ℕ) (xs xs' : List ℕ) → Changed n b new xs xs' → b ≤ columns → 0 < n → n ≤ b → v ≡ new (n - 1)
    → Changed (n - 1) b new xs (set xs' (n - 1) v)
changed_down n b v new xs xs' c w h k e =
    changed_more n b (n - 1) b (n - 1) v new xs xs' c (omega arith) (omega arith) (omega arith) (omega arith) (omega arith) (λ i p q s. (omega arith, q)) e

-- the column before the range keeps the job or sends it: the columns before it are the row's before
pub sent_down : (n to setup local bit x y : ℕ) (ts ms ts' ms' : List ℕ) → Sent n to setup local bit ts ms ts' ms' → to ≤ columns → 0 < n → n ≤ to
    → x ≡ lower (get_or ts' (n - 1) 0 + local) (get_or ts' (n - 1 - setup) 0) (get_or ts' (n - 1) 0 + local) (get_or ts' (n - 1 - setup) 0)
    → y ≡ lower (get_or ts' (n - 1) 0 + local) (get_or ts' (n - 1 - setup) 0) (get_or ms' (n - 1) 0) (get_or ms' (n - 1 - setup) 0 + bit)
    → Sent (n - 1) to setup local bit ts ms (set ts' (n - 1) x) (set ms' (n - 1) y)
sent_down n to setup local bit x y ts ms ts' ms' s w h k e f =
    let p : get_or ts' (n - 1) 0 ≡ get_or ts (n - 1) 0 = s.totals.outside (n - 1) (inl (omega arith)) in
    let q : get_or ts' (n - 1 - setup) 0 ≡ get_or ts (n - 1 - setup) 0 = s.totals.outside (n - 1 - setup) (inl (omega arith)) in
    let u : get_or ms' (n - 1) 0 ≡ get_or ms (n - 1) 0 = s.masks.outside (n - 1) (inl (omega arith)) in
    let v : get_or ms' (n - 1 - setup) 0 ≡ get_or ms (n - 1 - setup) 0 = s.masks.outside (n - 1 - setup) (inl (omega arith)) in
    record {
      totals = changed_down n to x (lower_total setup local ts) ts ts' s.totals w h k (e ∙ rw (p, q));
      masks = changed_down n to y (lower_mask setup local bit ts ms) ms ms' s.masks w h k (f ∙ rw (p, q, u, v));
    }

-- the columns before a changed range have room as they had
pub fit_before : (a b n m more : ℕ) (new : ℕ → ℕ) (xs xs' : List ℕ) → Changed a b new xs xs' → n ≤ a → n ≤ m → Fit m more xs → Fit n more xs'
fit_before a b n m more new xs xs' c h k f t l = omega (arith, c.outside t (inl (omega arith)), f t (omega arith))
