-- The walk over a plan's steps: what `check_steps` keeps from turn to turn, and what each way out of the loop says.
-- Assumes nothing.
use Prim.Native.Nat.{ℕ, ◌+◌, ◌≤◌, ◌<◌}
use native.Mathlib.Numerals.{add-one}
use native.Mathlib.Omega.{arith}
use mathlib.Core.Path.{◌≡◌, refl, sym, ap, ◌∙◌}
use mathlib.Core.Logic.{◌⊎◌, inl, inr, ⊎_elim}
use mathlib.Core.Bool.{true, false, not, ◌&&◌}
use mathlib.Core.List.{List, [], ◌∷◌, ◌++◌, map}
use Rattle.std.specs.Prelude.{None, Some, Err, Ok}
use lib.ListN.{length, take, drop, length-take}
use lib.Seq.{split_at, take-suc, take_all}
use borrow.Author.Tests.{le-leb, lt-leb}
use Rattle.model.specs.declared.Job.{Job}
use Rattle.model.specs.declared.Laid.{Laid}
use Rattle.model.specs.Lists.{All}
use Rattle.model.specs.Timetable.{Chosen, is_either, span}
use Rattle.model.specs.FreeOrder.{last_from}
use Rattle.model.specs.Laying.{chosen, laid_of, laid_with, most_busy}
use Rattle.model.proofs.Lists.{clash, all_map, member_all}
use Rattle.model.proofs.Laying.{laid_more}
use Rattle.records.specs.declared.refusal.Refusal.{Refusal}
use Rattle.records.specs.declared.refusal.Refusal.TheVariants.{Stranger, Kept, Left, Late}
use Rattle.records.specs.Limits.{largest_time}
use Rattle.records.specs.Refusals.{Outcome, accepted, refused}
use Rattle.table.specs.Tables.{JobTable, TimesOk, GoodTable, job_id}
use Rattle.lookup.specs.Lookup.{job_of}
use Rattle.lookup.proofs.Lookup.{with_tells}
use Rattle.plan.specs.declared.Step.{Step}
use Rattle.plan.specs.Plans.{step_id, read_plan, plan_read, no_step, step_at}
use Rattle.model.proofs.Bounds.{span_short, spans_short}
use Rattle.plan.proofs.Steps.{steps_length}
use Rattle.plan.proofs.Plans.{accepted_plan, step_at_lem}
use Rattle.judge.specs.Check.{pass}
use Rattle.judge.specs.Check.{chosen_by, before, listed, lacks_one, timed, after_plan}
use Rattle.judge.proofs.Jobs.{before_tells, listed_tells, none_left, all_or_left}

-- what the steps behind others come to
abbrev behind : List Chosen → Outcome (List Chosen) → Outcome (List Chosen)
behind cs (accepted ds) = accepted (cs ++ ds)
behind cs (refused f) = refused f

behind_none : (o : Outcome (List Chosen)) → o ≡ behind [] o
behind_none (accepted ds) = refl
behind_none (refused f) = refl

before_behind : (c : Chosen) (cs : List Chosen) (o : Outcome (List Chosen)) → before (accepted c) (behind cs o) ≡ behind (c ∷ cs) o
before_behind c cs (accepted ds) = refl
before_behind c cs (refused f) = refl

-- steps behind others that are listed
listed_append : (js : List Job) (xs ys : List Step) (cs : List Chosen) → listed js xs ≡ accepted cs → listed js (xs ++ ys) ≡ behind cs (listed js ys)
unfolding listed
listed_append js [] ys cs e = let none : [] ≡ cs = cc in rw (← none) (behind_none (listed js ys))
listed_append js (x ∷ xs) ys cs e =
    let r = before_tells (chosen_by x (job_of js x.id)) (listed js xs) cs e in
    step r.0 r.1 r.2 r.4 (listed_append js xs ys r.1 r.3)
  where
    step :
        (c : Chosen) (ds : List Chosen) → chosen_by x (job_of js x.id) ≡ accepted c → c ∷ ds ≡ cs →
        listed js (xs ++ ys) ≡ behind ds (listed js ys) → before (chosen_by x (job_of js x.id)) (listed js (xs ++ ys)) ≡ behind cs (listed js ys)
    step c ds a b on = rw (← b, a, on) (before_behind c ds (listed js ys))

-- What is kept: the plan reads as xs, of which the first k are listed as cs, and cs is laid.
pub record Walked (t : JobTable) (plan : List ℕ) (steps : ℕ) (laid : Laid) (k : ℕ) : Type 0 where
  pub xs : List Step
  pub reads : read_plan plan ≡ accepted xs
  pub counted : steps ≡ length xs
  pub within : k ≤ steps
  pub cs : List Chosen
  pub so : listed t.jobs (take k xs) ≡ accepted cs
  pub held : laid ≡ laid_of cs

module _ (t : JobTable) (plan : List ℕ) (steps : ℕ) where
  pub walk_begin : plan_read (read_plan plan) ≡ Ok steps → Walked t plan steps (laid_of []) 0
  unfolding listed
  walk_begin e = begin (read_plan plan) refl e
    where
      begin : (o : Outcome (List Step)) → read_plan plan ≡ o → plan_read o ≡ Ok steps → Walked t plan steps (laid_of []) 0
      begin (accepted xs) r e = record { xs = xs; reads = r; counted = (cc); within = omega arith; cs = []; so = refl; held = refl }
      begin (refused f) r e = clash (cc)

  module _ {laid : Laid} {k : ℕ} (w : Walked t plan steps laid k) where
    -- the busy total stays far below what a u32 holds
    pub walk_room : GoodTable t → laid.busy ≤ most_busy
    walk_room good =
        let l = listed_tells t.jobs (take k w.xs) w.cs w.so in
        let short : All (λ (c : Chosen). span c ≤ largest_time) w.cs =
        all_map
        (λ c e.
        let ok = member_all (TimesOk largest_time) good.times (with_tells job_id t.jobs _ _ e).0 in
        span_short largest_time c ok.local ok.setup)
        w.cs l.named in
        let few = (accepted_plan plan w.xs w.reads).0 in
        rw w.held (omega (arith, spans_short largest_time w.cs short, steps_length w.cs, ap length l.steps, length-take k w.xs))

    module _ (more : k < steps) where
      -- the k-th step is the next one
      next : listed t.jobs w.xs ≡ behind w.cs (listed t.jobs (step_at plan k ∷ drop (k + 1) w.xs))
      next =
          let there : k < length w.xs = rw w.counted at more in
          let split : w.xs ≡ take k w.xs ++ (step_at plan k ∷ drop (k + 1) w.xs) =
          rw (add-one, step_at_lem plan w.xs w.reads k there) (split_at w.xs k no_step there) in
          ap (listed t.jobs) split ∙ listed_append t.jobs (take k w.xs) _ w.cs w.so

      -- a step that is refused is the plan's refusal
      stops : (f : Refusal) → chosen_by (step_at plan k) (job_of t.jobs (step_at plan k).id) ≡ refused f → Err f ≡ after_plan t (read_plan plan)
      unfolding listed
      stops f e = rw (w.reads, next, e)

      pub walk_stranger : job_of t.jobs (step_at plan k).id ≡ None → Err Stranger ≡ after_plan t (read_plan plan)
      walk_stranger e = stops Stranger (rw e)

      module _ (j : Job) (named : job_of t.jobs (step_at plan k).id ≡ Some j) where
        pub walk_kept : ((step_at plan k).away && not (is_either j)) ≡ true → Err Kept ≡ after_plan t (read_plan plan)
        walk_kept e = stops Kept (rw (named, e))

        -- one step more is listed
        pub walk_more : ((step_at plan k).away && not (is_either j)) ≡ false → Walked t plan steps (laid_with laid (chosen j (step_at plan k).away)) (k + 1)
        unfolding listed
        walk_more e =
            let there : k < length w.xs = rw w.counted at more in
            let c = chosen j (step_at plan k).away in
            let is : chosen_by (step_at plan k) (job_of t.jobs (step_at plan k).id) ≡ accepted c = rw (named, e) in
            record {
              xs = w.xs;
              reads = w.reads;
              counted = w.counted;
              within = omega arith;
              cs = w.cs ++ (c ∷ []);
              so = rw (add-one, take-suc w.xs k no_step there, ← step_at_lem plan w.xs w.reads k there)
                  (listed_append t.jobs (take k w.xs) _ w.cs w.so ∙ rw is);
              held = rw w.held (laid_more w.cs c);
            }

    module _ (end : steps ≤ k) where
      -- all steps are listed
      whole : listed t.jobs w.xs ≡ accepted w.cs
      whole = rw (take_all k w.xs (rw w.counted at end)) at w.so

      -- no job is left out, or one is and the steps are fewer
      told :
          GoodTable t → ((length t.jobs ≤ steps) × (lacks_one t.jobs (map step_id w.xs) ≡ false)) ⊎
          ((steps < length t.jobs) × (lacks_one t.jobs (map step_id w.xs) ≡ true))
      told good =
          let l = listed_tells t.jobs w.xs w.cs whole in
          let n : steps ≡ length w.cs = w.counted ∙ (sym (ap length l.steps) ∙ steps_length w.cs) in
          rw (n, ← l.steps)
          (⊎_elim (λ a. inl (a.0, none_left t.jobs w.cs a.1)) inr
          (all_or_left t.jobs w.cs good.distinct (rw l.steps (accepted_plan plan w.xs w.reads).1) l.named))

      pub walk_left : GoodTable t → steps < length t.jobs → Err Left ≡ after_plan t (read_plan plan)
      walk_left good h = ⊎_elim (λ a. absurd (omega (arith, a.0))) (λ a. rw (w.reads, whole, a.1)) (told good)

      module _ (good : GoodTable t) (h : length t.jobs ≤ steps) where
        -- what is left is the time
        walk_timed : timed t.deadline w.cs ≡ after_plan t (read_plan plan)
        walk_timed = ⊎_elim (λ a. rw (w.reads, whole, a.1)) (λ a. absurd (omega (arith, a.0))) (told good)

        pub walk_passes : laid.last ≤ t.deadline → pass laid.last laid.busy ≡ after_plan t (read_plan plan)
        walk_passes on = rw w.held (rw (le-leb (last_from 0 w.cs) t.deadline (rw w.held at on)) at walk_timed)

        pub walk_late : t.deadline < laid.last → Err Late ≡ after_plan t (read_plan plan)
        walk_late late = rw (lt-leb (last_from 0 w.cs) t.deadline (rw w.held at late)) at walk_timed
