-- Some timetable meets D exactly when some choice is workable at D; and the plan of a workable choice is such a timetable.
-- Assumes nothing.
use mathlib.Core.Path.{◌≡◌, refl, sym, ap, subst, ◌∙◌}
use mathlib.Core.Logic.{inl, inr, ◌↔◌}
use mathlib.Core.List.Permᴰ
use mathlib.Core.List.{List, [], ◌∷◌, map, Permᴰ}
use Prim.Native.Nat.{ℕ, ◌+◌, ◌-◌, ◌≤◌}
use native.Mathlib.Omega.{arith}
use native.Mathlib.Nat.{add_comm}
use Rattle.model.specs.declared.Job.{Job}
use Rattle.model.specs.Lists.{greatest, All, Pairwise, total}
use Rattle.model.specs.Timetable.{Chosen, Allowed, Placed, span, span_end, Apart, Timetable, wait, finish, Meets, Met}
use Rattle.model.specs.FreeOrder.{Choice, plan, laid, Fits, Workable, busy, spans, last_finish}
use Rattle.model.proofs.Lists.{all_map, all_zip, all_all, all_of_map, map_all, pairwise_of_map}
use Rattle.model.proofs.Permutations.{all_perm, pairwise_perm, total_perm, greatest_perm, perm_lift}
use Rattle.model.proofs.Intervals.{packed}
use Rattle.model.proofs.PlanOrder.{jobs, perm_plan, plan_waits}

abbrev pub what : Placed → Chosen
what p = p.what

flip : (p q : Placed) → Apart p q → Apart q p
flip p q (inl h) = inr h
flip p q (inr h) = inl h

pub jobs_what : (ps : List Placed) → map (λ (p : Placed). p.what.job) ps ≡ jobs (map what ps)
jobs_what [] = refl
jobs_what (p ∷ ps) = ap (λ (l : List Job). p.what.job ∷ l) (jobs_what ps)

-- From a timetable to a workable choice.

-- p before q in the plan: apart, and p ends early enough for q's wait
abbrev Before : ℕ → Placed → Placed → Type 0
Before D p q = Apart q p × (span_end p + wait q.what ≤ D)

before : (D : ℕ) (ps : List Placed) → Pairwise Apart ps → Meets D ps → Pairwise (λ (p q : Placed). wait q.what ≤ wait p.what) ps → Pairwise (Before D) ps
before D [] a m w = tt
before D (p ∷ ps) a m w = (
  all_map (λ q k. (flip p q k.0, omega (arith, m.0, k.1))) ps
      (all_zip (Apart p) (λ (q : Placed). wait q.what ≤ wait p.what) ps a.0 w.0),
  before D ps a.1 m.1 w.1,
)

-- what precedes in the plan (`pre`) and the next job fill no more than D less that job's wait
fits : (D : ℕ) (pre ps : List Placed) → Pairwise Apart pre → All (λ (q : Placed). All (λ (p : Placed). Before D p q) pre) ps
    → Pairwise (Before D) ps → Meets D ps
    → Fits D (total (λ (p : Placed). span p.what) pre) (map what ps)
fits D pre [] a b c m = tt
fits D pre (q ∷ ps) a b c m = (
  omega (arith, m.0, room),
  subst (λ (t : ℕ). Fits D t (map what ps)) (add_comm (span q.what) (total (λ (p : Placed). span p.what) pre))
      (fits D (q ∷ pre) ps pairs (all_zip (Before D q) (λ (r : Placed). All (λ (p : Placed). Before D p r) pre) ps c.0 b.1) c.1 m.1),
)
  where
    pairs : Pairwise Apart (q ∷ pre)
    pairs = (all_map (λ p k. k.0) pre b.0, a)

    room : total (λ (p : Placed). span p.what) (q ∷ pre) ≤ D - wait q.what
    room =
        packed (λ (p : Placed). p.start) span_end (λ (p : Placed). span p.what) (λ p. omega arith) (q ∷ pre) (D - wait q.what) pairs
        (omega (arith, m.0), all_map (λ p k. omega (arith, k.1)) pre b.0)

-- the spans of a timetable are those of its choice
pub spans_what : (ps : List Placed) → busy (map what ps) ≡ spans ps
spans_what [] = refl
spans_what (p ∷ ps) = ap (λ (n : ℕ). span p.what + n) (spans_what ps)

pub timetable_choice : (D : ℕ) (js : List Job) (ps : List Placed) → Timetable js ps → Meets D ps → Choice js (map what ps) × Workable D (map what ps)
timetable_choice D js ps t m =
    let cs = map what ps in
    let al : All Allowed cs = map_all what Allowed ps t.allowed in
    let r = perm_lift what (Permᴰ.symm (perm_plan cs al)) ps refl in
    let qs = r.0 in
    let aq : Pairwise Apart qs = pairwise_perm Apart flip r.1 t.apart in
    let mq : Meets D qs = all_perm (λ (p : Placed). finish p ≤ D) r.1 m in
    let wq : Pairwise (λ (p q : Placed). wait q.what ≤ wait p.what) qs =
    pairwise_of_map what (λ (c d : Chosen). wait d ≤ wait c) qs
    (subst (λ (l : List Chosen). Pairwise (λ (c d : Chosen). wait d ≤ wait c) l) (sym r.2) (plan_waits cs)) in (
      record { each = sym (jobs_what ps) ∙ t.each; allowed = al },
      subst (λ (l : List Chosen). Fits D 0 l) r.2 (fits D [] qs tt (all_all (λ q. tt) qs) (before D qs aq mq wq) mq),
    )

-- From a workable choice to a timetable.

pub laid_what : (t : ℕ) (cs : List Chosen) → map what (laid t cs) ≡ cs
laid_what t [] = refl
laid_what t (c ∷ cs) = ap (λ (l : List Chosen). c ∷ l) (laid_what (t + span c) cs)

pub laid_from : (t u : ℕ) (cs : List Chosen) → t ≤ u → All (λ (p : Placed). t ≤ p.start) (laid u cs)
laid_from t u [] h = tt
laid_from t u (c ∷ cs) h = (h, laid_from t (u + span c) cs (omega arith))

pub laid_apart : (t : ℕ) (cs : List Chosen) → Pairwise Apart (laid t cs)
laid_apart t [] = tt
laid_apart t (c ∷ cs) = (all_map (λ p k. inl k) (laid (t + span c) cs) (laid_from (t + span c) (t + span c) cs (omega arith)), laid_apart (t + span c) cs)

-- The plan of a choice is a timetable: the placements of its jobs back to back, put in table order.
pub record PlanTimetable (js : List Job) (cs : List Chosen) (ps : List Placed) : Type 0 where
  pub timetable : Timetable js ps
  pub same : Permᴰ (laid 0 (plan cs)) ps
  pub spans : spans ps ≡ busy cs
  pub last : greatest finish ps ≡ last_finish cs

pub laid_spans : (t : ℕ) (cs : List Chosen) → spans (laid t cs) ≡ busy cs
laid_spans t [] = refl
laid_spans t (c ∷ cs) = omega (arith, laid_spans (t + span c) cs)

pub plan_timetable : (js : List Job) (cs : List Chosen) → Choice js cs → (ps : List Placed) × PlanTimetable js cs ps
plan_timetable js cs c =
    let r = perm_lift what (perm_plan cs c.allowed) (laid 0 (plan cs)) (laid_what 0 (plan cs)) in (
      r.0,
      record {
        timetable = record {
          each = jobs_what r.0 ∙ ap jobs r.2 ∙ c.each;
          allowed = all_of_map what Allowed r.0 (subst (All Allowed) (sym r.2) c.allowed);
          apart = pairwise_perm Apart flip r.1 (laid_apart 0 (plan cs));
        };
        same = r.1;
        spans = sym (total_perm (λ (p : Placed). span p.what) r.1) ∙ (laid_spans 0 (plan cs) ∙ total_perm span (perm_plan cs c.allowed));
        last = sym (greatest_perm finish r.1);
      },
    )

-- it meets D where the choice is workable
pub plan_meets : (D : ℕ) (js : List Job) (cs : List Chosen) (ps : List Placed) → PlanTimetable js cs ps → Workable D cs → Meets D ps
plan_meets D js cs ps t w = all_perm (λ (p : Placed). finish p ≤ D) t.same w

-- some timetable meets D exactly when some choice is workable
pub timetable_iff_workable : (D : ℕ) (js : List Job) → Met D js ↔ ((cs : List Chosen) × Choice js cs × Workable D cs)
timetable_iff_workable D js = (
  (λ t. let r = timetable_choice D js t.0 t.1 t.2 in (map what t.0, r.0, r.1)),
  (λ w. let t = plan_timetable js w.0 w.1 in (t.0, t.1.timetable, plan_meets D js w.0 t.0 t.1 w.2)),
)
