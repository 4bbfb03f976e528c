-- One job more behind others that are laid back to back: the code's count goes on as the definitions do.
-- Assumes nothing.
use mathlib.Core.Path.{◌≡◌}
use mathlib.Core.Bool.{Bool, true, false, not}
use mathlib.Core.List.{List, [], ◌∷◌, ◌++◌}
use Prim.Native.Nat.{ℕ, ◌+◌, ◌≤◌, ◌<◌, max}
use native.Mathlib.Omega.{arith}
use borrow.Author.Tests.{not-true, not-false}
use Rattle.model.specs.declared.Sending.TheVariants.{HereOnly, Either}
use Rattle.model.specs.declared.Job.{Job}
use Rattle.model.specs.declared.Laid.{Laid}
use Rattle.model.specs.Timetable.{Chosen, span, wait}
use Rattle.model.specs.FreeOrder.{busy, last_from}
use Rattle.model.specs.Laying.{chosen, laid_of, laid_with}
use Rattle.model.proofs.Permutations.{total_append}

last_more : (t : ℕ) (cs : List Chosen) (c : Chosen) → last_from t (cs ++ (c ∷ [])) ≡ max (last_from t cs) (t + busy cs + span c + wait c)
last_more t [] c = omega arith
last_more t (d ∷ cs) c = omega (arith, last_more (t + span d) cs c)

pub laid_more : (cs : List Chosen) (c : Chosen) → laid_with (laid_of cs) c ≡ laid_of (cs ++ (c ∷ []))
laid_more cs c =
    let b : busy cs + span c ≡ busy (cs ++ (c ∷ [])) = omega (arith, total_append span cs (c ∷ [])) in
    let l : max (last_from 0 cs) (busy cs + span c + wait c) ≡ last_from 0 (cs ++ (c ∷ [])) = omega (arith, last_more 0 cs c) in
    λ i. record { busy = b i; last = l i }

-- a job's span and wait, by its choice and by what it may do
module _ (j : Job) (w : Bool) where
  pub here_parts : not w ≡ true → (j.local ≡ span (chosen j w)) × (0 ≡ wait (chosen j w))
  here_parts h = let e : w ≡ false = not-true w h in (rw e, rw e)

  pub stuck_parts : not w ≡ false → j.sending ≡ HereOnly → (0 ≡ span (chosen j w)) × (0 ≡ wait (chosen j w))
  stuck_parts h k = let e : w ≡ true = not-false w h in (rw (e, k), rw (e, k))

  pub away_parts : (s i : ℕ) → not w ≡ false → j.sending ≡ Either s i → (s ≡ span (chosen j w)) × (i ≡ wait (chosen j w))
  away_parts s i h k = let e : w ≡ true = not-false w h in (rw (e, k), rw (e, k))

-- the two ways in which the latest finish goes on; s and w are the new job's span and wait
module _ (l : Laid) (c : Chosen) {s w : ℕ} (e : s ≡ span c) (h : w ≡ wait c) where
  pub laid_later : l.last < l.busy + s + w → ◌≡◌ {A = Laid} (record { busy = l.busy + s; last = l.busy + s + w }) (laid_with l c)
  laid_later k =
      let b : l.busy + s ≡ l.busy + span c = omega arith in
      let m : l.busy + s + w ≡ max l.last (l.busy + span c + wait c) = omega arith in
      λ i. record { busy = b i; last = m i }

  pub laid_sooner : l.busy + s + w ≤ l.last → ◌≡◌ {A = Laid} (record { busy = l.busy + s; last = l.last }) (laid_with l c)
  laid_sooner k =
      let b : l.busy + s ≡ l.busy + span c = omega arith in
      let m : l.last ≡ max l.last (l.busy + span c + wait c) = omega arith in
      λ i. record { busy = b i; last = m i }
