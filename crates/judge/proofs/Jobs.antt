-- What it means that a plan's steps are listed: which job each step names, that listed jobs and steps tell each other, and that steps
-- which all name jobs of the table leave one out exactly when they are fewer than its jobs. Assumes nothing.
use Prim.Native.Nat.{ℕ, ◌≤◌, ◌<◌}
use native.Mathlib.Omega.{arith}
use mathlib.Core.Path.{◌≡◌, refl, sym, ap, subst}
use mathlib.Core.Logic.{◌⊎◌, inl, inr}
use mathlib.Core.Bool.{Bool, true, false, cond, not, ◌&&◌, ◌||◌, or-true}
use mathlib.Core.List.Memᴰ
use mathlib.Core.List.{List, [], ◌∷◌, ◌++◌, map, Memᴰ, Permᴰ}
use mathlib.Core.List.{append-nil}
use Rattle.std.specs.Prelude.{Option, None, Some}
use lib.ListN.{length, length-map, length-append}
use lib.Dec.{T}
use borrow.Author.Tests.{ne_eqb}
use Rattle.model.specs.declared.Job.{Job}
use Rattle.model.specs.Lists.{All}
use Rattle.model.specs.Timetable.{Chosen, Allowed, is_either}
use Rattle.model.specs.Laying.{chosen}
use Rattle.model.proofs.PlanOrder.{job_of as the_job, jobs as jobs_of}
use Rattle.model.proofs.Lists.{clash, all_map, all_zip, member_all, all_members, all_of_map, pairwise_of_map}
use Rattle.model.proofs.Permutations.{all_perm, pairwise_perm, length_perm}
use Rattle.records.specs.declared.refusal.Refusal.TheVariants.{Kept}
use Rattle.records.specs.Refusals.{Outcome, accepted, refused}
use Rattle.records.specs.Records.{used}
use Rattle.table.specs.Tables.{job_id}
use Rattle.records.proofs.Listed.{Distinct, used_member}
use Rattle.lookup.specs.Lookup.{job_of}
use Rattle.lookup.proofs.Lookup.{with_tells}
use Rattle.plan.specs.declared.Step.{Step}
use Rattle.plan.specs.Plans.{step_id, step_of, steps_for}
use Rattle.judge.specs.Check.{chosen_by, before, listed, lacks_one}

-- Members of a list.
module _ {A : Type 0} where
  -- permuted lists have the same members
  pub perm_members : {xs ys : List A} → Permᴰ xs ys → All (λ (x : A). Memᴰ x ys) xs
  perm_members {xs} {ys} d = all_perm (λ (x : A). Memᴰ x ys) (mathlib.Core.List.Permᴰ.symm d) (all_members ys)

  -- a member stands first in a permutation
  member_first : {x : A} {ys : List A} → Memᴰ x ys → (zs : List A) × Permᴰ (x ∷ zs) ys
  member_first (Memᴰ.head {xs = ys} e) = (ys, mathlib.Core.List.Permᴰ.cons e (mathlib.Core.List.Permᴰ.refl ys))
  member_first (Memᴰ.tail {x = y} m) = let r = member_first m in
      (y ∷ r.0, mathlib.Core.List.Permᴰ.trans (mathlib.Core.List.Permᴰ.swap refl refl) (mathlib.Core.List.Permᴰ.cons refl r.1))

  all_front : (P : A → Type 0) (xs ys : List A) → All P (xs ++ ys) → All P xs
  all_front P [] ys h = tt
  all_front P (x ∷ xs) ys h = (h.0, all_front P xs ys h.1)

-- Things whose ids differ and which are all in a list are that list, but for the rest.
module _ {A B : Type 0} (g : A → B) (id_of : B → ℕ) where
  rest_of :
      (xs : List A) (ys : List B) → Distinct (λ (x : A). id_of (g x)) xs → All (λ (x : A). Memᴰ (g x) ys) xs →
      (rest : List B) × Permᴰ (map g xs ++ rest) ys
  rest_of [] ys d h = (ys, mathlib.Core.List.Permᴰ.refl ys)
  rest_of (x ∷ xs) ys d h =
      let first = member_first h.0 in
      let r = rest_of xs first.0 d.1 (all_map (λ y w. still first.1 y w.0 w.1) xs (all_zip _ _ xs d.0 h.1)) in
      (r.0, mathlib.Core.List.Permᴰ.trans (mathlib.Core.List.Permᴰ.cons refl r.1) first.1)
    where
      still : {zs : List B} → Permᴰ (g x ∷ zs) ys → (y : A) → ¬ (id_of (g x) ≡ id_of (g y)) → Memᴰ (g y) ys → Memᴰ (g y) zs
      still {zs} p y n m = other (Memᴰ.cases_cons (member_all _ (perm_members (mathlib.Core.List.Permᴰ.symm p)) m))
        where
          other : (g y ≡ g x) ⊎ Memᴰ (g y) zs → Memᴰ (g y) zs
          other (inl e) = absurd (n (ap id_of (sym e)))
          other (inr k) = k

-- the table's job with the id is this one
abbrev pub Named : List Job → Chosen → Type 0
Named js c = job_of js c.job.id ≡ Some c.job

-- Steps that are listed as these jobs with their choices.
pub record ListedAs (js : List Job) (xs : List Step) (cs : List Chosen) : Type 0 where
  pub steps : steps_for cs ≡ xs
  pub allowed : All Allowed cs
  pub named : All (Named js) cs

-- what a step that is let through tells of its job and choice
chosen_tells : (x : Step) (o : Option Job) (c : Chosen) → chosen_by x o ≡ accepted c → (o ≡ Some c.job) × (c.away ≡ x.away) × Allowed c
chosen_tells x None c e = clash (cc)
chosen_tells x (Some j) c e = step x.away (is_either j) refl e
  where
    step :
        (w i : Bool) → is_either j ≡ i → cond (w && not i) (refused Kept) (accepted (chosen j w)) ≡ accepted c →
        (Some j ≡ Some c.job) × (c.away ≡ w) × Allowed c
    step true false q e = clash (cc)
    step true true q e =
        let is : chosen j true ≡ c = cc in
        (ap (λ (d : Chosen). Some d.job) is, ap (λ (d : Chosen). d.away) (sym is), subst Allowed is (subst (λ (b : Bool). T (b || false)) (sym q) tt))
    step false i q e =
        let is : chosen j false ≡ c = cc in
        (ap (λ (d : Chosen). Some d.job) is, ap (λ (d : Chosen). d.away) (sym is), subst Allowed is (subst T (sym (or-true (is_either j))) tt))

-- a list is accepted only where its first and the others are
pub before_tells :
    (o : Outcome Chosen) (p : Outcome (List Chosen)) (cs : List Chosen) → before o p ≡ accepted cs →
    (c : Chosen) × (ds : List Chosen) × (o ≡ accepted c) × (p ≡ accepted ds) × (c ∷ ds ≡ cs)
before_tells (refused f) p cs e = clash (cc)
before_tells (accepted c) (refused f) cs e = clash (cc)
before_tells (accepted c) (accepted ds) cs e = (c, ds, refl, refl, (cc))

pub listed_tells : (js : List Job) (xs : List Step) (cs : List Chosen) → listed js xs ≡ accepted cs → ListedAs js xs cs
unfolding listed
listed_tells js [] cs e = let none : [] ≡ cs = cc in subst (ListedAs js []) none (record { steps = refl; allowed = tt; named = tt })
listed_tells js (x ∷ xs) cs e =
    let r = before_tells (chosen_by x (job_of js x.id)) (listed js xs) cs e in
    let c = chosen_tells x (job_of js x.id) r.0 r.2 in
    let id : r.0.job.id ≡ x.id = (with_tells job_id js x.id r.0.job c.0).1 in
    let l = listed_tells js xs r.1 r.3 in
    let first : step_of r.0 ≡ x = λ i. record { id = id i; away = c.1 i } in
    subst (ListedAs js (x ∷ xs)) r.4
    (record { steps = (cc l.steps); allowed = (c.2, l.allowed); named = (rw id c.0, l.named) })

pub listed_from : (js : List Job) (cs : List Chosen) → All Allowed cs → All (Named js) cs → listed js (steps_for cs) ≡ accepted cs
unfolding listed
listed_from js [] a h = refl
listed_from js (c ∷ cs) a h = rw (h.0, listed_from js cs a.1 h.1) (step c.away (is_either c.job) a.0)
  where
    step :
        (w i : Bool) → T (i || not w) →
        before (cond (w && not i) (refused Kept) (accepted (chosen c.job w))) (accepted cs) ≡ accepted (chosen c.job w ∷ cs)
    step true true k = refl
    step true false k = absurd k
    step false true k = refl
    step false false k = refl

-- "LEFT: plan lacks a job of the table": an id that no step has is not used
unused : (cs : List Chosen) (id : ℕ) → All (λ (c : Chosen). ¬ (id ≡ c.job.id)) cs → used (map step_id (steps_for cs)) id ≡ false
unfolding used
unused [] id h = refl
unused (c ∷ cs) id h = rw (ne_eqb c.job.id id (λ e. h.0 (sym e)), unused cs id h.1)

-- so no job is lacking where each job's id is used, and one is where its id is not
lacks_none : (ids : List ℕ) (js : List Job) → All (λ (j : Job). used ids j.id ≡ true) js → lacks_one js ids ≡ false
unfolding lacks_one
lacks_none ids [] h = refl
lacks_none ids (j ∷ js) h = rw (h.0, lacks_none ids js h.1)

pub lacks_that : (ids : List ℕ) {j : Job} {js : List Job} → used ids j.id ≡ false → Memᴰ j js → lacks_one js ids ≡ true
unfolding lacks_one
lacks_that ids {j} e (Memᴰ.head {x = i} q) = rw (← q, e)
lacks_that ids {j} e (Memᴰ.tail {x = i} m) = rw (lacks_that ids e m) (or-true (not (used ids i.id)))

-- a plan of exactly the table's jobs leaves none out
pub none_left : (js : List Job) (cs : List Chosen) → Permᴰ (jobs_of cs) js → lacks_one js (map step_id (steps_for cs)) ≡ false
none_left js cs d =
    lacks_none _ js
    (all_map
    (λ j m.
    let c = Memᴰ.of_map the_job cs m in
    used_member _ j.id (subst (λ (n : ℕ). Memᴰ n (map step_id (steps_for cs))) (ap job_id c.2) (Memᴰ.map step_id (Memᴰ.map step_of c.1))))
    js (perm_members (mathlib.Core.List.Permᴰ.symm d)))

-- all jobs are there, or one is left out and the steps are fewer
pub all_or_left :
    (js : List Job) (cs : List Chosen) → Distinct job_id js → Distinct step_id (steps_for cs) → All (Named js) cs →
    ((length js ≤ length cs) × Permᴰ (jobs_of cs) js) ⊎ ((length cs < length js) × (lacks_one js (map step_id (steps_for cs)) ≡ true))
all_or_left js cs table plan h =
    let r = rest_of the_job job_id cs js (pairwise_of_map step_of _ cs plan) (all_map (λ c e. (with_tells job_id js _ _ e).0) cs h) in
    step r.0 r.1
  where
    step :
        (rest : List Job) → Permᴰ (jobs_of cs ++ rest) js →
        ((length js ≤ length cs) × Permᴰ (jobs_of cs) js) ⊎ ((length cs < length js) × (lacks_one js (map step_id (steps_for cs)) ≡ true))
    step [] d =
        let all : Permᴰ (jobs_of cs) js = rw append-nil at d in
        inl (omega (arith, length_perm all, length-map cs the_job), all)
    step (j ∷ rest) d =
        let first : Permᴰ js (j ∷ (jobs_of cs ++ rest)) = mathlib.Core.List.Permᴰ.trans (mathlib.Core.List.Permᴰ.symm d)
        (mathlib.Core.List.Permᴰ.middle j (jobs_of cs) rest) in
        let others = (pairwise_perm (λ (x y : Job). ¬ (x.id ≡ y.id)) (λ x y n e. n (sym e)) first table).0 in
        let not_there = all_of_map the_job _ cs (all_front (λ (x : Job). ¬ (j.id ≡ x.id)) (jobs_of cs) rest others) in
        inr (
          omega (arith, length_perm d, length-append (jobs_of cs) (j ∷ rest), length-map cs the_job),
          lacks_that _ (unused cs j.id not_there) (perm_members (mathlib.Core.List.Permᴰ.symm first)).0,
        )
