-- The run at full entries is on time exactly when every run is.
-- Assumes nothing.
use mathlib.Core.Path.{◌≡◌, refl, sym, ap, subst}
use mathlib.Core.Logic.{◌↔◌}
use mathlib.Core.List.{List, [], ◌∷◌, map}
use Prim.Native.Nat.{ℕ, ◌+◌, ◌≤◌}
use native.Mathlib.Omega.{arith}
use Rattle.model.specs.Lists.{All}
use Rattle.model.specs.Timetable.{Chosen, span, wait}
use Rattle.model.specs.FreeOrder.{Fits}
use Rattle.model.specs.Run.{Took, RunOf, OnTime}

abbrev listed : List Took → List Chosen
listed rs = map (λ (r : Took). r.what) rs

sooner : (D t u : ℕ) (rs : List Took) → t ≤ u → All (λ (r : Took). (r.spent ≤ span r.what) × (r.waited ≤ wait r.what)) rs
    → Fits D u (listed rs) → OnTime D t rs
sooner D t u [] h w f = tt
sooner D t u (r ∷ rs) h w f = (omega (arith, w.0, f.0), sooner D (t + r.spent) (u + span r.what) rs (omega (arith, w.0)) w.1 f.1)

abbrev full : Chosen → Took
full c = record { what = c; spent = span c; waited = wait c }

full_listed : (cs : List Chosen) → listed (map full cs) ≡ cs
full_listed [] = refl
full_listed (c ∷ cs) = ap (λ (l : List Chosen). c ∷ l) (full_listed cs)

full_within : (cs : List Chosen) → All (λ (r : Took). (r.spent ≤ span r.what) × (r.waited ≤ wait r.what)) (map full cs)
full_within [] = tt
full_within (c ∷ cs) = ((omega arith, omega arith), full_within cs)

full_time : (D t : ℕ) (cs : List Chosen) → OnTime D t (map full cs) → Fits D t cs
full_time D t [] h = tt
full_time D t (c ∷ cs) h = (h.0, full_time D (t + span c) cs h.1)

pub fits_iff_runs : (D : ℕ) (cs : List Chosen) → Fits D 0 cs ↔ ((rs : List Took) → RunOf cs rs → OnTime D 0 rs)
fits_iff_runs D cs = (
  (λ f rs r. sooner D 0 0 rs (omega arith) r.within (subst (Fits D 0) (sym r.each) f)),
  (λ h. full_time D 0 cs (h (map full cs) (record { each = full_listed cs; within = full_within cs }))),
)
