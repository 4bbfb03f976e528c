-- The plan of a choice: it has the choice's jobs, and they stand by falling wait.
-- Assumes nothing.
use mathlib.Core.Path.{◌≡◌, refl, sym, ap, subst, ◌∙◌}
use mathlib.Core.Logic.{inl, inr}
use mathlib.Core.Bool.{Bool, true, false, cond, not, ◌||◌}
use mathlib.Core.List.Permᴰ
use mathlib.Core.List.{List, [], ◌∷◌, ◌++◌, Permᴰ, map}
use Prim.Native.Nat.{◌≤◌}
use native.Mathlib.Omega.{arith}
use lib.Dec.{T}
use Rattle.model.specs.declared.Job.{Job}
use Rattle.model.specs.Lists.{All, Pairwise, filter}
use Rattle.model.specs.Timetable.{here, either, Chosen, Allowed, wait}
use Rattle.model.specs.FreeOrder.{back, away_order, is_away, plan}
use Rattle.model.proofs.Lists.{all_map, all_zip, all_all, all_passed, pairwise_map, pairwise_all, pairwise_filter, pairwise_append}
use Rattle.model.proofs.Permutations.{perm_falling, filter_perm, perm_split}
use Rattle.model.proofs.Sorts.{Ranks, falling_ranks}

abbrev pub job_of : Chosen → Job
job_of c = c.job

-- the jobs of a choice, in its order
abbrev pub jobs : List Chosen → List Job
jobs cs = map job_of cs

module _ {A : Type 0} where
  filter_filter : (f g : A → Bool) (xs : List A) → All (λ (x : A). T (g x || not (f x))) xs → filter f (filter g xs) ≡ filter f xs
  filter_filter f g [] h = refl
  filter_filter f g (x ∷ xs) h = step (g x) h.0 (filter_filter f g xs h.1)
    where
      dropped : (b : Bool) (u v : List A) → T (not b) → cond b u v ≡ v
      dropped true u v t = absurd t
      dropped false u v t = refl

      step : (b : Bool) → T (b || not (f x)) → filter f (filter g xs) ≡ filter f xs
          → filter f (cond b (x ∷ filter g xs) (filter g xs)) ≡ cond (f x) (x ∷ filter f xs) (filter f xs)
      step true t ih = ap (λ (l : List A). cond (f x) (x ∷ l) l) ih
      step false t ih = ih ∙ sym (dropped (f x) _ _ t)

-- away order is by falling return time
order_falls : (cs : List Chosen) → Pairwise (λ (c d : Chosen). back d ≤ back c) (away_order cs)
order_falls cs =
    pairwise_map (λ (c d : Chosen). weaken c d) (away_order cs)
    (falling_ranks back (λ (c d : Chosen). Unit {0}) (filter either cs) (pairwise_all (λ (c d : Chosen). tt) (filter either cs)))
  where
    weaken : (c d : Chosen) → Ranks back (λ (c d : Chosen). Unit {0}) c d → back d ≤ back c
    weaken c d (inl h) = omega arith
    weaken c d (inr h) = omega (arith, h.0)

-- the plan has the choice's jobs
pub perm_plan : (cs : List Chosen) → All Allowed cs → Permᴰ (plan cs) cs
perm_plan cs h =
    Permᴰ.trans (Permᴰ.append_right (filter here cs) (filter_perm is_away (perm_falling back (filter either cs))))
    (subst (λ (l : List Chosen). Permᴰ (l ++ filter here cs) cs) (sym (filter_filter is_away either cs h)) (perm_split is_away cs))

wait_away : (c : Chosen) → T c.away → wait c ≡ back c
wait_away c t = step c.away t
  where
    step : (b : Bool) → T b → cond b (back c) 0 ≡ back c
    step true t = refl
    step false t = absurd t

pub wait_here : (c : Chosen) → T (here c) → wait c ≡ 0
wait_here c t = step c.away t
  where
    step : (b : Bool) → T (not b) → cond b (back c) 0 ≡ 0
    step true t = absurd t
    step false t = refl

abbrev Waits : Chosen → Chosen → Type 0
Waits c d = wait d ≤ wait c

away_waits : (cs : List Chosen) → All (λ (c : Chosen). T c.away) cs → Pairwise (λ (c d : Chosen). back d ≤ back c) cs → Pairwise Waits cs
away_waits [] a h = tt
away_waits (c ∷ cs) a h = (
  all_map (λ d k. omega (arith, wait_away c a.0, wait_away d k.0, k.1)) cs
      (all_zip (λ (d : Chosen). T d.away) (λ (d : Chosen). back d ≤ back c) cs a.1 h.0),
  away_waits cs a.1 h.1,
)

here_waits : (cs : List Chosen) → All (λ (c : Chosen). T (here c)) cs → Pairwise Waits cs
here_waits [] a = tt
here_waits (c ∷ cs) a = (all_map (λ d k. omega (arith, wait_here d k)) cs a.1, here_waits cs a.1)

-- the plan stands by falling wait
pub plan_waits : (cs : List Chosen) → Pairwise (λ (c d : Chosen). wait d ≤ wait c) (plan cs)
plan_waits cs =
    pairwise_append Waits (filter is_away (away_order cs)) (filter here cs)
    (away_waits (filter is_away (away_order cs)) (all_passed is_away (away_order cs))
    (pairwise_filter (λ (c d : Chosen). back d ≤ back c) is_away (away_order cs) (order_falls cs)))
    (here_waits (filter here cs) (all_passed here cs))
    (all_all (λ c. all_map (λ d k. omega (arith, wait_here d k)) (filter here cs) (all_passed here cs)) (filter is_away (away_order cs)))
