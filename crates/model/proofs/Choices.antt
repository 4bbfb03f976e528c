-- A choice of the table and its jobs in away order: each gives the other, and the busy total.
-- Assumes nothing.
use mathlib.Core.Path.{◌≡◌, refl, sym, ap, subst, ◌∙◌}
use mathlib.Core.Bool.{Bool, true, false, cond, not, ◌||◌}
use mathlib.Core.List.Permᴰ
use mathlib.Core.List.{List, [], ◌∷◌, map, reverse, reverse_aux}
use Prim.Native.Nat.{ℕ, ◌+◌}
use native.Mathlib.Omega.{arith}
use lib.Dec.{T}
use Rattle.model.specs.declared.Job.{Job}
use Rattle.model.specs.Lists.{All, filter, total, insert, falling}
use Rattle.model.specs.Timetable.{here, either, is_either, setup_time, return_time, Chosen, Allowed, span}
use Rattle.model.specs.FreeOrder.{Choice, back, away_order, busy}
use Rattle.model.specs.Recurrence.{base, jobs_in_away_order}
use Rattle.model.proofs.Lists.{clash}
use Rattle.model.proofs.Permutations.{total_perm, perm_falling}
use Rattle.model.proofs.Sorts.{map_filter, map_falling, uninsert, insert_inj}
use Rattle.model.proofs.PlanOrder.{job_of, jobs}
use Rattle.model.proofs.Rows.{setup_part, here_part}

pub order_jobs : (cs : List Chosen) → jobs (away_order cs) ≡ jobs_in_away_order (jobs cs)
order_jobs cs = map_falling job_of return_time (filter either cs) ∙ ap (falling return_time) (map_filter job_of is_either cs)

module _ {A B : Type 0} (g : A → B) where
  map_reverse_aux : (xs r : List A) → map g (reverse_aux xs r) ≡ reverse_aux (map g xs) (map g r)
  map_reverse_aux [] r = refl
  map_reverse_aux (x ∷ xs) r = map_reverse_aux xs (x ∷ r)

  pub map_reverse : (xs : List A) → map g (reverse xs) ≡ reverse (map g xs)
  map_reverse xs = map_reverse_aux xs []

pub last_jobs : (cs : List Chosen) → jobs (reverse (away_order cs)) ≡ reverse (jobs_in_away_order (jobs cs))
last_jobs cs = map_reverse job_of (away_order cs) ∙ ap reverse (order_jobs cs)

-- a choice of the jobs in away order is that of one choice of the table
pub restore : (js : List Job) (zs : List Chosen) → jobs zs ≡ jobs_in_away_order js → (cs : List Chosen) × Choice js cs × (away_order cs ≡ zs)
restore [] [] e = ([], record { each = refl; allowed = tt }, refl)
restore [] (z ∷ zs) e = clash (cc)
restore (j ∷ js) zs e = step (is_either j) refl zs e (λ ys f. restore js ys f)
  where
    ordered : (t : Bool) (c : Chosen) (cs : List Chosen) → either c ≡ t → away_order (c ∷ cs) ≡ falling back (cond t (c ∷ filter either cs) (filter either cs))
    ordered t c cs h = ap (λ (u : Bool). falling back (cond u (c ∷ filter either cs) (filter either cs))) h

    step : (t : Bool) → is_either j ≡ t → (zs : List Chosen) → jobs zs ≡ falling return_time (cond t (j ∷ filter is_either js) (filter is_either js))
        → ((ys : List Chosen) → jobs ys ≡ jobs_in_away_order js → (cs : List Chosen) × Choice js cs × (away_order cs ≡ ys))
        → (cs : List Chosen) × Choice (j ∷ js) cs × (away_order cs ≡ zs)
    step false h zs e ih =
        let r = ih zs e in
        let c : Chosen = record { job = j; away = false } in (
          c ∷ r.0,
          record { each = ap (λ (l : List Job). j ∷ l) r.1.each; allowed = (subst (λ (u : Bool). T (u || true)) (sym h) tt, r.1.allowed) },
          ordered false c r.0 h ∙ r.2,
        )
    step true h zs e ih =
        let u = uninsert job_of return_time j (jobs_in_away_order js) zs e in
        let z : Chosen = u.0 in
        let p : z.job ≡ j = u.2 in
        let r = ih u.1 u.3 in
        let k : either z ≡ true = ap is_either p ∙ h in (
          z ∷ r.0,
          record { each = (cc r.1.each); allowed = (subst (λ (v : Bool). T (v || here z)) (sym k) tt, r.1.allowed) },
          ordered true z r.0 k ∙ ap (insert back z) r.2 ∙ u.4,
        )

pub chosen_path : (c d : Chosen) → c.job ≡ d.job → c.away ≡ d.away → c ≡ d
chosen_path c d p q = λ i. record { job = p i; away = q i }

-- two choices of one table with the same jobs in away order are one
pub order_inj : (cs ds : List Chosen) → jobs cs ≡ jobs ds → All Allowed cs → All Allowed ds → away_order cs ≡ away_order ds → cs ≡ ds
order_inj [] [] p a b e = refl
order_inj [] (d ∷ ds) p a b e = clash (cc)
order_inj (c ∷ cs) [] p a b e = clash (cc)
order_inj (c ∷ cs) (d ∷ ds) p a b e =
    step (either c) (either d) (ap is_either same) a.0 b.0 e (λ f. order_inj cs ds rest a.1 b.1 f)
  where
    same : c.job ≡ d.job
    same = cc

    rest : jobs cs ≡ jobs ds
    rest = cc

    stays : (x y : Bool) → T (not x) → T (not y) → x ≡ y
    stays false false h k = refl
    stays true y h k = absurd h
    stays false true h k = absurd k

    step : (t u : Bool) → t ≡ u → T (t || here c) → T (u || here d)
        → falling back (cond t (c ∷ filter either cs) (filter either cs)) ≡ falling back (cond u (d ∷ filter either ds) (filter either ds))
        → (away_order cs ≡ away_order ds → cs ≡ ds) → c ∷ cs ≡ d ∷ ds
    step true true q h k f ih =
        let r = insert_inj job_of return_time c d (away_order cs) (away_order ds) same (order_jobs cs ∙ ap jobs_in_away_order rest ∙ sym (order_jobs ds)) f in
        let i : cs ≡ ds = ih r.1 in
        let j : c ≡ d = r.0 in
        cc
    step true false q h k f ih = clash (cc)
    step false true q h k f ih = clash (cc)
    step false false q h k f ih =
        let i : cs ≡ ds = ih f in
        let j : c ≡ d = chosen_path c d same (stays c.away d.away h k) in
        cc

span_parts : (c : Chosen) → span c ≡ setup_part c + here_part c
span_parts c = step c.away
  where
    step : (w : Bool) → cond w (setup_time c.job) c.job.local ≡ cond w (setup_time c.job) 0 + cond w 0 c.job.local
    step true = omega arith
    step false = omega arith

span_here : (c : Chosen) → T (here c) → span c ≡ c.job.local
span_here c h = step c.away h
  where
    step : (w : Bool) → T (not w) → cond w (setup_time c.job) c.job.local ≡ c.job.local
    step true t = absurd t
    step false t = refl

busy_parts : (cs : List Chosen) → All Allowed cs → total setup_part (filter either cs) + total here_part (filter either cs) + base (jobs cs) ≡ busy cs
busy_parts [] a = refl
busy_parts (c ∷ cs) a = step (either c) a.0 (busy_parts cs a.1)
  where
    step : (t : Bool) → T (t || here c) → total setup_part (filter either cs) + total here_part (filter either cs) + base (jobs cs) ≡ busy cs
        → total setup_part (cond t (c ∷ filter either cs) (filter either cs)) + total here_part (cond t (c ∷ filter either cs) (filter either cs))
        + (cond t 0 c.job.local + base (jobs cs)) ≡ span c + busy cs
    step true h ih = omega (arith, span_parts c)
    step false h ih = omega (arith, span_here c h)

pub busy_sum : (cs : List Chosen) → All Allowed cs
    → total setup_part (reverse (away_order cs)) + total here_part (reverse (away_order cs)) + base (jobs cs) ≡ busy cs
busy_sum cs a = omega (arith, busy_parts cs a, same setup_part, same here_part)
  where
    same : (f : Chosen → ℕ) → total f (reverse (away_order cs)) ≡ total f (filter either cs)
    same f = total_perm f (Permᴰ.trans (Permᴰ.reverse (away_order cs)) (perm_falling back (filter either cs)))
