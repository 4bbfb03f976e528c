-- The planner's answer is the best choice, or there is no workable one; and there is only one best choice.
-- Assumes nothing.
use mathlib.Core.Path.{◌≡◌, refl, sym, ap, subst, ◌∙◌}
use mathlib.Core.Logic.{inl, inr, ◌↔◌, ⊎_elim}
use mathlib.Core.List.{List, [], ◌∷◌, map, reverse, reverse-reverse}
use Prim.Native.Nat.{ℕ, ◌+◌, ◌≤◌}
use native.Mathlib.Omega.{arith}
use lib.ListN.{length, length-map}
use Rattle.model.specs.declared.Job.{Job}
use Rattle.model.specs.Lists.{total}
use Rattle.model.specs.Timetable.{Chosen, Placed, Timetable, Meets, Met}
use Rattle.model.specs.FreeOrder.{Choice, away_order, Workable, busy, spans, from_last, Keeps, Ahead, Best}
use Rattle.model.specs.Recurrence.{answer, Cell, empty, cell, base, jobs_in_away_order, mask, mask_of}
use Rattle.model.proofs.Lists.{clash}
use Rattle.model.proofs.PlanOrder.{job_of, jobs}
use Rattle.model.proofs.Timetables.{what, spans_what, timetable_choice, timetable_iff_workable}
use Rattle.model.proofs.Least.{LexLe, IsLeast, least_iff}
use Rattle.model.proofs.Rows.{setup_part, here_part, Feasible, job_count}
use Rattle.model.proofs.Columns.{Total, total_least}
use Rattle.model.proofs.Choices.{map_reverse, last_jobs, restore, order_inj, busy_sum}
use Rattle.model.proofs.Workable.{workable_feasible, feasible_workable, mask_keeps, keeps_antisym}

-- (a, m) is the busy total and the mask of a workable choice
pub record Work (D : ℕ) (js : List Job) (a m : ℕ) : Type 0 where
  pub of : List Chosen
  pub choice : Choice js of
  pub workable : Workable D of
  pub sum : busy of ≡ a
  pub bits : mask_of of ≡ m

module _ (D : ℕ) (js : List Job) where
  last_of : (cs : List Chosen) → Choice js cs → jobs (reverse (away_order cs)) ≡ reverse (jobs_in_away_order js)
  last_of cs c = last_jobs cs ∙ ap (λ (l : List Job). reverse (jobs_in_away_order l)) c.each

  to_work : (a m : ℕ) → Total D (reverse (jobs_in_away_order js)) (base js) a m × (a ≤ D) → Work D js a m
  to_work a m (t, h) =
      let r = restore js (reverse t.of) (map_reverse job_of t.of ∙ ap reverse t.jobs ∙ reverse-reverse (jobs_in_away_order js)) in
      build r.0 r.1 (ap reverse r.2 ∙ reverse-reverse t.of)
    where
      build : (cs : List Chosen) → Choice js cs → reverse (away_order cs) ≡ t.of → Work D js a m
      build cs c e =
          let s : busy cs ≡ a =
          sym (busy_sum cs c.allowed) ∙ ap (λ (l : List Chosen). total setup_part l + total here_part l + base (jobs cs)) e
          ∙ ap (λ (l : List Job). total setup_part t.of + total here_part t.of + base l) c.each ∙ t.sum in
          record {
            of = cs;
            choice = c;
            workable = feasible_workable D cs c.allowed (subst (Feasible D) (sym e) t.feasible) (omega arith);
            sum = s;
            bits = ap mask e ∙ t.bits;
          }

  from_work : (a m : ℕ) → Work D js a m → Total D (reverse (jobs_in_away_order js)) (base js) a m × (a ≤ D)
  from_work a m w =
      let cs = w.of in
      let f = workable_feasible D cs w.choice.allowed w.workable in (
        record {
          of = reverse (away_order cs);
          jobs = last_of cs w.choice;
          feasible = f.0;
          sum =
              ap (λ (l : List Job). total setup_part (reverse (away_order cs)) + total here_part (reverse (away_order cs)) + base l)
              (sym w.choice.each) ∙ busy_sum cs w.choice.allowed ∙ w.sum;
          bits = w.bits;
        },
        omega (arith, f.1, w.sum),
      )

  -- the answer is the least (busy total, mask) of the workable choices, or there is none
  pub answer_least : IsLeast (Work D js) (answer D js)
  answer_least =
      least_iff (λ (a m : ℕ). Total D (reverse (jobs_in_away_order js)) (base js) a m × (a ≤ D)) (Work D js) to_work from_work (answer D js)
      (total_least D (reverse (jobs_in_away_order js)) (base js))

  -- any two choices of a table have as many either jobs
  pub as_long : (cs ds : List Chosen) → Choice js cs → Choice js ds → length (reverse (away_order cs)) ≡ length (reverse (away_order ds))
  as_long cs ds c d =
      job_count (reverse (away_order cs)) (reverse (jobs_in_away_order js)) (last_of cs c)
      ∙ sym (job_count (reverse (away_order ds)) (reverse (jobs_in_away_order js)) (last_of ds d))

  -- the least of the workable choices is the best
  pub least_best : (a m : ℕ) → IsLeast (Work D js) (cell a m) → (cs : List Chosen) × Best D js cs × (busy cs ≡ a) × (mask_of cs ≡ m)
  least_best a m (w, l) = (
    w.of,
    record {
      choice = w.choice;
      workable = w.workable;
      ahead = λ ds c h. turn ds c (l (busy ds) (mask_of ds) (record { of = ds; choice = c; workable = h; sum = refl; bits = refl }));
    },
    w.sum,
    w.bits,
  )
    where
      turn : (ds : List Chosen) → Choice js ds → LexLe a m (busy ds) (mask_of ds) → Ahead w.of ds
      turn ds c (inl h) = inl (omega (arith, w.sum))
      turn ds c (inr h) =
          inr (
            w.sum ∙ h.0,
            mask_keeps (reverse (away_order w.of)) (reverse (away_order ds)) (as_long w.of ds w.choice c)
                (omega (arith, w.bits, h.1)),
          )

  -- the answer's cell is that of the best choice
  pub answer_best : (a m : ℕ) → answer D js ≡ cell a m → (cs : List Chosen) × Best D js cs × (busy cs ≡ a) × (mask_of cs ≡ m)
  answer_best a m e = least_best a m (subst (IsLeast (Work D js)) e answer_least)

  -- no answer: no choice is workable
  pub answer_none : answer D js ≡ empty → (cs : List Chosen) → Choice js cs → Workable D cs → ⊥
  answer_none e cs c w =
      subst (IsLeast (Work D js)) e answer_least (busy cs) (mask_of cs) (record { of = cs; choice = c; workable = w; sum = refl; bits = refl })

  -- some choice is best exactly when some choice is workable
  pub best_iff_workable : ((cs : List Chosen) × Best D js cs) ↔ ((cs : List Chosen) × Choice js cs × Workable D cs)
  best_iff_workable = ((λ b. (b.0, b.1.choice, b.1.workable)), (λ w. from (answer D js) refl w))
    where
      from : (c : Cell) → answer D js ≡ c → (cs : List Chosen) × Choice js cs × Workable D cs → (cs : List Chosen) × Best D js cs
      from empty e w = absurd (answer_none e w.0 w.1 w.2)
      from (cell a m) e w = let r = answer_best a m e in (r.0, r.1)

  chosen_ext : (xs ys : List Chosen) → jobs xs ≡ jobs ys → map (λ (c : Chosen). c.away) xs ≡ map (λ (c : Chosen). c.away) ys → xs ≡ ys
  chosen_ext [] [] p q = refl
  chosen_ext [] (y ∷ ys) p q = clash (cc)
  chosen_ext (x ∷ xs) [] p q = clash (cc)
  chosen_ext (x ∷ xs) (y ∷ ys) p q =
      let a : x.job ≡ y.job = cc in
      let b : x.away ≡ y.away = cc in
      let r : xs ≡ ys = chosen_ext xs ys (cc) (cc) in
      λ i. record { job = a i; away = b i } ∷ r i

  -- two best choices of a table are one
  pub best_unique : (cs ds : List Chosen) → Best D js cs → Best D js ds → cs ≡ ds
  best_unique cs ds b d = tied (b.ahead ds d.choice d.workable) (d.ahead cs b.choice b.workable)
    where
      long : length (from_last cs) ≡ length (from_last ds)
      long =
          length-map (reverse (away_order cs)) (λ (c : Chosen). c.away) ∙ as_long cs ds b.choice d.choice
          ∙ sym (length-map (reverse (away_order ds)) (λ (c : Chosen). c.away))

      same : Keeps (from_last cs) (from_last ds) → Keeps (from_last ds) (from_last cs) → cs ≡ ds
      same k l =
          let r : reverse (away_order cs) ≡ reverse (away_order ds) =
          chosen_ext (reverse (away_order cs)) (reverse (away_order ds)) (last_of cs b.choice ∙ sym (last_of ds d.choice))
          (keeps_antisym (from_last cs) (from_last ds) long k l) in
          order_inj cs ds (b.choice.each ∙ sym d.choice.each) b.choice.allowed d.choice.allowed
          (sym (reverse-reverse (away_order cs)) ∙ ap reverse r ∙ reverse-reverse (away_order ds))

      tied : Ahead cs ds → Ahead ds cs → cs ≡ ds
      tied (inl h) (inl k) = absurd (omega arith)
      tied (inl h) (inr k) = absurd (omega (arith, k.0))
      tied (inr h) (inl k) = absurd (omega (arith, h.0))
      tied (inr h) (inr k) = same h.1 k.1

  -- a choice is known by its mask
  pub mask_inj : (cs ds : List Chosen) → Choice js cs → Choice js ds → mask_of cs ≡ mask_of ds → cs ≡ ds
  mask_inj cs ds c d e =
      let n = as_long cs ds c d in
      let r : reverse (away_order cs) ≡ reverse (away_order ds) =
      chosen_ext (reverse (away_order cs)) (reverse (away_order ds)) (last_of cs c ∙ sym (last_of ds d))
      (keeps_antisym (from_last cs) (from_last ds)
      (length-map (reverse (away_order cs)) (λ (x : Chosen). x.away) ∙ n ∙ sym (length-map (reverse (away_order ds)) (λ (x : Chosen). x.away)))
      (mask_keeps (reverse (away_order cs)) (reverse (away_order ds)) n (omega arith))
      (mask_keeps (reverse (away_order ds)) (reverse (away_order cs)) (sym n) (omega arith))) in
      order_inj cs ds (c.each ∙ sym d.each) c.allowed d.allowed (sym (reverse-reverse (away_order cs)) ∙ ap reverse r ∙ reverse-reverse (away_order ds))

  -- the choice with the answer's mask is the best
  pub best_by_mask : (a m : ℕ) (cs : List Chosen) → answer D js ≡ cell a m → Choice js cs → mask_of cs ≡ m → Best D js cs
  best_by_mask a m cs e c h = let r = answer_best a m e in subst (Best D js) (mask_inj r.0 cs r.1.choice c (r.3 ∙ sym h)) r.1

  -- NONE exactly when no timetable meets D
  pub none_iff_no_timetable : (answer D js ≡ empty) ↔ ¬ (Met D js)
  none_iff_no_timetable = (
    (λ e m. let c = (timetable_iff_workable D js).0 m in answer_none e c.0 c.1 c.2),
    (λ f. from (answer D js) refl f),
  )
    where
      from : (c : Cell) → answer D js ≡ c → ¬ (Met D js) → answer D js ≡ empty
      from empty e f = e
      from (cell a m) e f = let r = answer_best a m e in absurd (f ((timetable_iff_workable D js).1 (r.0, r.1.choice, r.1.workable)))

  -- no timetable that meets D has a smaller sum of spans
  pub best_least : (cs : List Chosen) → Best D js cs → (ps : List Placed) → Timetable js ps → Meets D ps → busy cs ≤ spans ps
  best_least cs b ps t m =
      let c = timetable_choice D js ps t m in
      ⊎_elim (λ h. omega (arith, h, spans_what ps)) (λ h. omega (arith, h.0, spans_what ps)) (b.ahead (map what ps) c.0 c.1)
