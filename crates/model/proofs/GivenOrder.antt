-- Algorithm 1 finds a plan exactly when some timetable in table order meets D, and then the least busy one, which keeps jobs here at equal totals.
-- Assumes nothing.
use mathlib.Core.Path.{◌≡◌, refl, sym, ap, subst, ◌∙◌}
use mathlib.Core.Logic.{◌↔◌}
use mathlib.Core.Bool.{Bool, true, false, cond, not, ◌&&◌, ◌||◌}
use mathlib.Core.List.{List, [], ◌∷◌, map}
use Rattle.std.specs.Prelude.{Option, None, Some}
use Prim.Native.Nat.{ℕ, ◌+◌, ◌≤◌, ◌<◌}
use native.Mathlib.Omega.{arith}
use borrow.Author.Tests.{leb-true, leb-false, le-leb, ltb-true, ltb-false}
use lib.Dec.{T, leb, ltb}
use Rattle.model.specs.declared.Job.{Job}
use Rattle.model.specs.Lists.{All, Pairwise}
use Rattle.model.specs.Timetable.{is_either, setup_time, return_time, Chosen, Allowed, Placed, span, span_end, wait, Meets}
use Rattle.model.specs.FreeOrder.{Choice, laid, Fits, busy, spans}
use Rattle.model.specs.GivenOrder.{InOrder, MetInOrder, goes, decide, put, given, KeepsAll, BestInOrder}
use Rattle.model.proofs.Lists.{clash, all_map, all_all, all_of_map, map_all}
use Rattle.model.proofs.PlanOrder.{jobs}
use Rattle.model.proofs.Timetables.{what, jobs_what, spans_what, laid_what, laid_from}
use Rattle.model.proofs.Choices.{chosen_path}

-- One step of the algorithm.

module _ (D t : ℕ) (j : Job) where
  abbrev C : ℕ
  C = j.local

  abbrev S : ℕ
  S = setup_time j

  abbrev I : ℕ
  I = return_time j

  goes_yes : goes D t j ≡ true → (is_either j ≡ true) × (S < C) × (t + S + I ≤ D)
  goes_yes e = step (is_either j) (ltb S C) (leb (t + S + I) D) refl refl refl e
    where
      step : (a b c : Bool) → is_either j ≡ a → ltb S C ≡ b → leb (t + S + I) D ≡ c → (a && (b && c)) ≡ true
          → (is_either j ≡ true) × (S < C) × (t + S + I ≤ D)
      step true true true p q r e = (p, ltb-true S C q, leb-true (t + S + I) D r)
      step true true false p q r e = clash (cc)
      step true false c p q r e = clash (cc)
      step false b c p q r e = clash (cc)

  goes_no : goes D t j ≡ false → is_either j ≡ true → t + S + I ≤ D → C ≤ S
  goes_no e k h = step (is_either j) (ltb S C) (leb (t + S + I) D) refl refl refl e
    where
      step : (a b c : Bool) → is_either j ≡ a → ltb S C ≡ b → leb (t + S + I) D ≡ c → (a && (b && c)) ≡ false → C ≤ S
      step true true true p q r e = clash (cc)
      step true true false p q r e = absurd (omega (arith, leb-false (t + S + I) D r))
      step true false c p q r e = ltb-false S C q
      step false b c p q r e = clash (cc)

  abbrev sent : Chosen
  sent = record { job = j; away = true }

  abbrev kept : Chosen
  kept = record { job = j; away = false }

  decide_sent : goes D t j ≡ true → decide D t j ≡ Some sent
  decide_sent e = ap (λ (b : Bool). cond b (Some sent) (cond (leb (t + C) D) (Some kept) None)) e

  decide_kept : goes D t j ≡ false → t + C ≤ D → decide D t j ≡ Some kept
  decide_kept e h =
      ap (λ (b : Bool). cond b (Some sent) (cond (leb (t + C) D) (Some kept) None)) e ∙ ap (λ (b : Bool). cond b (Some kept) None) (le-leb (t + C) D h)

  -- what is decided finishes by D
  pub decide_fits : (c : Chosen) → decide D t j ≡ Some c → (c.job ≡ j) × Allowed c × (t + span c + wait c ≤ D)
  decide_fits c e = step (goes D t j) (leb (t + C) D) refl refl e
    where
      as_is : (x : Chosen) → (x.job ≡ j) × Allowed x × (t + span x + wait x ≤ D) → Some x ≡ Some c → (c.job ≡ j) × Allowed c × (t + span c + wait c ≤ D)
      as_is x h q = let p : x ≡ c = cc in subst (λ (y : Chosen). (y.job ≡ j) × Allowed y × (t + span y + wait y ≤ D)) p h

      step : (a b : Bool) → goes D t j ≡ a → leb (t + C) D ≡ b → cond a (Some sent) (cond b (Some kept) None) ≡ Some c
          → (c.job ≡ j) × Allowed c × (t + span c + wait c ≤ D)
      step true b p q e = let g = goes_yes p in as_is sent (refl, subst (λ (b : Bool). T (b || false)) (sym g.0) tt, g.2) e
      step false true p q e = as_is kept (refl, allow (is_either j), omega (arith, leb-true (t + C) D q)) e
        where
          allow : (b : Bool) → T (b || true)
          allow true = tt
          allow false = tt
      step false false p q e = clash (cc)

-- the decision against any other choice d of the job that is on time from a later u
pub record Beats (D t : ℕ) (d : Chosen) : Type 0 where
  pub one : Chosen
  pub decided : decide D t d.job ≡ Some one
  pub less : span one ≤ span d
  pub tie : span one ≡ span d → T one.away → T d.away

beats : (D t u : ℕ) (d : Chosen) → t ≤ u → Allowed d → u + span d + wait d ≤ D → Beats D t d
beats D t u d h a f = step (goes D t d.job) d.away refl refl a f
  where
    j : Job
    j = d.job

    can : (b : Bool) → T (b || false) → b ≡ true
    can true x = refl
    can false x = absurd x

    step : (g w : Bool) → goes D t j ≡ g → d.away ≡ w → T (is_either j || not w) → u + cond w (S D t j) (C D t j) + cond w (I D t j) 0 ≤ D → Beats D t d
    step true true e q a f =
        record { one = sent D t j; decided = decide_sent D t j e; less = rw q (omega arith); tie = λ k x. subst T (sym q) tt }
    step true false e q a f =
        record {
          one = sent D t j;
          decided = decide_sent D t j e;
          less = rw q (omega (arith, (goes_yes D t j e).1));
          tie = λ k x. absurd (omega (arith, (goes_yes D t j e).1, rw q at k));
        }
    step false true e q a f =
        let k : C D t j ≤ S D t j = goes_no D t j e (can (is_either j) a) (omega arith) in
        record { one = kept D t j; decided = decide_kept D t j e (omega arith); less = rw q (omega arith); tie = λ k x. absurd x }
    step false false e q a f =
        record { one = kept D t j; decided = decide_kept D t j e (omega arith); less = rw q (omega arith); tie = λ k x. absurd x }

-- The whole run.

pub given_on : (D t : ℕ) (j : Job) (js : List Job) (c : Chosen) → decide D t j ≡ Some c → given D t (j ∷ js) ≡ put c (given D (t + span c) js)
given_on D t j js c e =
    ap (λ (o : Option Chosen). elim o as (λ (x : Option Chosen). Option (List Chosen)) [ None ↦ None | Some x ↦ put x (given D (t + span x) js) ]) e

pub record Greedy (D t : ℕ) (ds : List Chosen) : Type 0 where
  pub cs : List Chosen
  pub is : given D t (jobs ds) ≡ Some cs
  pub less : busy cs ≤ busy ds
  pub tie : busy cs ≡ busy ds → KeepsAll cs ds

-- from an earlier t the algorithm finds a plan that is no busier
greedy : (D t u : ℕ) (ds : List Chosen) → t ≤ u → All Allowed ds → Fits D u ds → Greedy D t ds
greedy D t u [] h a f = record { cs = []; is = refl; less = omega arith; tie = λ e. tt }
greedy D t u (d ∷ ds) h a f =
    let b = beats D t u d h a.0 f.0 in
    let r = greedy D (t + span b.one) (u + span d) ds (omega (arith, b.less)) a.1 f.1 in
    record {
      cs = b.one ∷ r.cs;
      is = given_on D t d.job (jobs ds) b.one b.decided ∙ ap (put b.one) r.is;
      less = omega (arith, b.less, r.less);
      tie = λ e. (b.tie (omega (arith, e, b.less, r.less)), r.tie (omega (arith, e, b.less, r.less)));
    }

-- what it finds is a choice of the table, on time back to back from t
given_sound : (D t : ℕ) (js : List Job) (cs : List Chosen) → given D t js ≡ Some cs → Choice js cs × Fits D t cs
given_sound D t [] cs e =
    let q : [] ≡ cs = cc in
    subst (λ (l : List Chosen). Choice [] l × Fits D t l) q (record { each = refl; allowed = tt }, tt)
given_sound D t (j ∷ js) cs e = first (decide D t j) refl e (λ u ds f. given_sound D u js ds f)
  where
    second : (c : Chosen) → decide D t j ≡ Some c → (o : Option (List Chosen)) → given D (t + span c) js ≡ o → put c o ≡ Some cs
        → ((u : ℕ) (ds : List Chosen) → given D u js ≡ Some ds → Choice js ds × Fits D u ds) → Choice (j ∷ js) cs × Fits D t cs
    second c p None g e ih = clash (cc)
    second c p (Some ds) g e ih =
        let q : c ∷ ds ≡ cs = cc in
        let r = ih (t + span c) ds g in
        let s = decide_fits D t j c p in
        let k : c.job ≡ j = s.0 in
        let l : jobs ds ≡ js = r.0.each in
        subst (λ (l : List Chosen). Choice (j ∷ js) l × Fits D t l) q (record { each = (cc); allowed = (s.1, r.0.allowed) }, (s.2, r.1))

    first : (o : Option Chosen) → decide D t j ≡ o
        → (elim o as (λ (x : Option Chosen). Option (List Chosen)) [ None ↦ None | Some x ↦ put x (given D (t + span x) js) ]) ≡ Some cs
        → ((u : ℕ) (ds : List Chosen) → given D u js ≡ Some ds → Choice js ds × Fits D u ds) → Choice (j ∷ js) cs × Fits D t cs
    first None p e ih = clash (cc)
    first (Some c) p e ih = second c p (given D (t + span c) js) refl e ih

-- Timetables in table order are choices that fit back to back.

inorder_fits : (D t : ℕ) (ps : List Placed) → All (λ (p : Placed). t ≤ p.start) ps → Pairwise (λ (p q : Placed). span_end p ≤ q.start) ps
    → Meets D ps → Fits D t (map what ps)
inorder_fits D t [] a o m = tt
inorder_fits D t (p ∷ ps) a o m = (
  omega (arith, a.0, m.0),
  inorder_fits D (t + span p.what) ps
      (all_map (λ (q : Placed) (k : span_end p ≤ q.start). omega (arith, k, a.0)) ps o.0) o.1 m.1,
)

laid_inorder : (t : ℕ) (cs : List Chosen) → Pairwise (λ (p q : Placed). span_end p ≤ q.start) (laid t cs)
laid_inorder t [] = tt
laid_inorder t (c ∷ cs) = (laid_from (t + span c) (t + span c) cs (omega arith), laid_inorder (t + span c) cs)

-- two choices of which each keeps what the other keeps are one
pub keeps_all_antisym : (xs ys : List Chosen) → jobs xs ≡ jobs ys → KeepsAll xs ys → KeepsAll ys xs → xs ≡ ys
keeps_all_antisym [] [] e k l = refl
keeps_all_antisym [] (y ∷ ys) e k l = clash (cc)
keeps_all_antisym (x ∷ xs) [] e k l = clash (cc)
keeps_all_antisym (x ∷ xs) (y ∷ ys) e k l =
    let p : x ≡ y = chosen_path x y (cc) (same x.away y.away k.0 l.0) in
    let q : xs ≡ ys = keeps_all_antisym xs ys (cc) k.1 l.1 in
    cc
  where
    same : (x y : Bool) → (T x → T y) → (T y → T x) → x ≡ y
    same true true f g = refl
    same true false f g = absurd (f tt)
    same false true f g = absurd (g tt)
    same false false f g = refl

module _ (D : ℕ) (js : List Job) where
  -- the choices of a timetable in table order are on time back to back
  pub inorder_choice : (ps : List Placed) → InOrder js ps → Meets D ps → Choice js (map what ps) × Fits D 0 (map what ps)
  inorder_choice ps i m = (
    record { each = sym (jobs_what ps) ∙ i.each; allowed = map_all what Allowed ps i.allowed },
    inorder_fits D 0 ps (all_all (λ (p : Placed). omega arith) ps) i.inorder m,
  )

  -- a choice that is on time back to back is a timetable in table order
  pub choice_inorder : (cs : List Chosen) → Choice js cs → Fits D 0 cs → InOrder js (laid 0 cs) × Meets D (laid 0 cs)
  choice_inorder cs c f = (
    record {
      each = jobs_what (laid 0 cs) ∙ ap jobs (laid_what 0 cs) ∙ c.each;
      allowed = all_of_map what Allowed (laid 0 cs) (subst (All Allowed) (sym (laid_what 0 cs)) c.allowed);
      inorder = laid_inorder 0 cs;
    },
    f,
  )

  -- the algorithm against any choice that is on time back to back
  against : (ds : List Chosen) → Choice js ds → Fits D 0 ds
      → (cs : List Chosen) × (given D 0 js ≡ Some cs) × (busy cs ≤ busy ds) × (busy cs ≡ busy ds → KeepsAll cs ds)
  against ds c f =
      let r = greedy D 0 0 ds (omega arith) c.allowed f in
      (r.cs, subst (λ (l : List Job). given D 0 l ≡ Some r.cs) c.each r.is, r.less, r.tie)

  -- NONE exactly when no timetable in table order meets D
  pub given_none_iff : (given D 0 js ≡ None) ↔ ¬ (MetInOrder D js)
  given_none_iff = (no_plan, λ f. other (given D 0 js) refl f)
    where
      no_plan : given D 0 js ≡ None → ¬ (MetInOrder D js)
      no_plan e m =
          let c = inorder_choice m.0 m.1 m.2 in
          let r = against (map what m.0) c.0 c.1 in
          let q = r.1 in
          clash (cc)

      other : (o : Option (List Chosen)) → given D 0 js ≡ o → ¬ (MetInOrder D js) → given D 0 js ≡ None
      other None e f = e
      other (Some cs) e f =
          let s = given_sound D 0 js cs e in
          let t = choice_inorder cs s.0 s.1 in
          absurd (f (laid 0 cs, t.0, t.1))

  -- what it finds is the best choice in table order
  pub given_best : (cs : List Chosen) → given D 0 js ≡ Some cs → BestInOrder D js cs
  given_best cs e =
      let s = given_sound D 0 js cs e in
      record { choice = s.0; fits = s.1; less = λ ds c f. (beaten ds c f).0; tie = λ ds c f. (beaten ds c f).1 }
    where
      beaten : (ds : List Chosen) → Choice js ds → Fits D 0 ds → (busy cs ≤ busy ds) × (busy cs ≡ busy ds → KeepsAll cs ds)
      beaten ds c f =
          let r = against ds c f in
          let p = r.1 in
          let q : r.0 ≡ cs = cc in
          subst (λ (l : List Chosen). (busy l ≤ busy ds) × (busy l ≡ busy ds → KeepsAll l ds)) q (r.2, r.3)

  -- there is one exactly when some timetable in table order meets D
  pub best_in_order_iff : ((cs : List Chosen) × BestInOrder D js cs) ↔ MetInOrder D js
  best_in_order_iff = (
    (λ b. let t = choice_inorder b.0 b.1.choice b.1.fits in (laid 0 b.0, t.0, t.1)),
    (λ m. let c = inorder_choice m.0 m.1 m.2 in let r = against (map what m.0) c.0 c.1 in (r.0, given_best r.0 r.1)),
  )

  -- and only one
  pub best_in_order_unique : (cs ds : List Chosen) → BestInOrder D js cs → BestInOrder D js ds → cs ≡ ds
  best_in_order_unique cs ds b d =
      let p = b.less ds d.choice d.fits in
      let q = d.less cs b.choice b.fits in
      let e : busy cs ≡ busy ds = omega arith in
      keeps_all_antisym cs ds (b.choice.each ∙ sym d.choice.each) (b.tie ds d.choice d.fits e) (d.tie cs b.choice b.fits (sym e))

  -- it is Algorithm 1's plan
  pub best_is_given : (cs : List Chosen) → BestInOrder D js cs → given D 0 js ≡ Some cs
  best_is_given cs b =
      let r = against cs b.choice b.fits in
      r.1 ∙ ap Some (best_in_order_unique r.0 cs (given_best r.0 r.1) b)

  -- no timetable in table order that meets D has a smaller sum of spans
  pub best_in_order_least : (cs : List Chosen) → BestInOrder D js cs → (ps : List Placed) → InOrder js ps → Meets D ps → busy cs ≤ spans ps
  best_in_order_least cs b ps i m =
      let c = inorder_choice ps i m in
      omega (arith, b.less (map what ps) c.0 c.1, spans_what ps)
