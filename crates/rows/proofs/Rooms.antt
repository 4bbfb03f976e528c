-- The columns at which a job can be sent away, and what a job more leaves in the columns there and elsewhere.
-- Assumes nothing.
use mathlib.Core.Path.{◌≡◌, subst, ◌∙◌}
use mathlib.Core.Logic.{◌⊎◌, inl, inr}
use mathlib.Core.List.{List}
use Prim.Native.Nat.{ℕ, ◌+◌, ◌-◌, ◌≤◌, ◌<◌}
use native.Mathlib.Omega.{arith}
use lib.ListN.{get_or}
use Rattle.model.specs.declared.Job.{Job}
use Rattle.model.specs.Timetable.{setup_time, return_time}
use Rattle.rows.specs.Columns.{Raised, Sent, RoomFor, Stepped, kept_total, lower_total, lower_mask}

pub room_within : (D S I s e : ℕ) → RoomFor D S I s e → (s ≤ e) × (e ≤ D + 1)
room_within D S I s e (inl r) = (r.2, omega (arith, r.1))
room_within D S I s e (inr r) = (omega (arith, r.0), omega (arith, r.1))

-- a job more in three ranges: kept in the columns e..D, kept or sent in s..e, kept below s
module _ (D : ℕ) (o : Job) (bit s e : ℕ) (ts ms ts₁ ts₂ ms₂ ts₃ : List ℕ) (room : RoomFor D (setup_time o) (return_time o) s e)
    (k : Raised e (D + 1) o.local ts ts₁) (w : Sent s e s o.local bit ts₁ ms ts₂ ms₂) (l : Raised 0 s o.local ts₂ ts₃) where
  ordered : s ≤ e
  ordered = (room_within D (setup_time o) (return_time o) s e room).0

  before : (t : ℕ) → t < e → get_or ts₁ t 0 ≡ get_or ts t 0
  before t h = k.outside t (inl h)

  in_room : (t : ℕ) → s ≤ t → t < e → (get_or ts₃ t 0 ≡ lower_total s o.local ts t) × (get_or ms₂ t 0 ≡ lower_mask s o.local bit ts ms t)
  in_room t h g =
      let p : get_or ts₁ t 0 ≡ get_or ts t 0 = before t g in
      let q : get_or ts₁ (t - s) 0 ≡ get_or ts (t - s) 0 = before (t - s) (omega arith) in
      (l.outside t (inr h) ∙ w.totals.inside t h g ∙ rw (p, q), w.masks.inside t h g ∙ rw (p, q))

  above : (t : ℕ) → e ≤ t → t ≤ D → (get_or ts₃ t 0 ≡ kept_total o.local ts t) × (get_or ms₂ t 0 ≡ get_or ms t 0)
  above t h g =
      (l.outside t (inr (omega (arith, ordered))) ∙ w.totals.outside t (inr h) ∙ k.inside t h (omega arith), w.masks.outside t (inr h))

  below : (t : ℕ) → t < s → (get_or ts₃ t 0 ≡ kept_total o.local ts t) × (get_or ms₂ t 0 ≡ get_or ms t 0)
  below t h =
      let p : get_or ts₂ t 0 ≡ get_or ts t 0 = w.totals.outside t (inl h) ∙ before t (omega (arith, ordered)) in
      (l.inside t (omega arith) h ∙ rw p, w.masks.outside t (inl h))

  pub stepped : Stepped D o bit ts ms ts₃ ms₂
  stepped =
      record {
        total_columns = l.sized;
        mask_columns = w.masks.sized;
        sent = λ t h g. sent room t h g;
        kept = λ t h c. kept room t h c;
      }
    where
      sent : RoomFor D (setup_time o) (return_time o) s e → (t : ℕ) → setup_time o ≤ t → t + return_time o ≤ D
          → (get_or ts₃ t 0 ≡ lower_total (setup_time o) o.local ts t) × (get_or ms₂ t 0 ≡ lower_mask (setup_time o) o.local bit ts ms t)
      sent (inl r) t h g =
          subst (λ (u : ℕ). (get_or ts₃ t 0 ≡ lower_total u o.local ts t) × (get_or ms₂ t 0 ≡ lower_mask u o.local bit ts ms t)) r.0
          (in_room t (omega (arith, r.0)) (omega (arith, r.1)))
      sent (inr r) t h g = absurd (omega (arith, r.2))

      kept : RoomFor D (setup_time o) (return_time o) s e → (t : ℕ) → t ≤ D → (t < setup_time o) ⊎ (D < t + return_time o)
          → (get_or ts₃ t 0 ≡ kept_total o.local ts t) × (get_or ms₂ t 0 ≡ get_or ms t 0)
      kept (inl r) t h (inl c) = below t (omega (arith, r.0))
      kept (inl r) t h (inr c) = above t (omega (arith, r.1)) h
      kept (inr r) t h c = above t (omega (arith, r.1)) h
