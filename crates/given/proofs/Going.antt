-- What the pass over the jobs keeps: the jobs placed so far as a draft, on time, and that what is still to do gives the same as the whole.
-- Assumes nothing.
use mathlib.Core.Path.{◌≡◌, refl, sym, ap, ◌∙◌}
use mathlib.Core.Bool.{Bool}
use mathlib.Core.List.{List, [], ◌∷◌, ◌++◌, append_assoc, append-nil}
use Rattle.std.specs.Prelude.{Option, None, Some}
use Prim.Native.Nat.{ℕ, ◌+◌, ◌≤◌, ◌<◌}
use native.Mathlib.Omega.{arith}
use native.Mathlib.Numerals.{add-one}
use lib.ListN.{length, get_or, drop, length-append, drop_of_length-le}
use lib.Seq.{drop-cons}
use Rattle.model.specs.declared.Job.{Job}
use Rattle.model.specs.Timetable.{Chosen, span}
use Rattle.model.specs.FreeOrder.{busy}
use Rattle.model.specs.GivenOrder.{decide, put, given}
use Rattle.model.specs.Laying.{chosen}
use Rattle.model.specs.Positions.{no_job}
use Rattle.model.proofs.Lists.{clash}
use Rattle.model.proofs.Permutations.{total_append}
use Rattle.model.proofs.GivenOrder.{given_on, decide_fits}
use Rattle.records.specs.Limits.{most_jobs}
use Rattle.draft.specs.declared.Draft.{Draft}
use Rattle.draft.specs.Drafts.{draft_of, with_chosen, drafted_of}
use Rattle.draft.proofs.Drafts.{draft_more}
use Rattle.given.specs.Given.{decision_of}
use Rattle.plan.proofs.Steps.{steps_length}

-- what is found later stands behind what is placed
abbrev pub behind : List Chosen → Option (List Chosen) → Option (List Chosen)
behind cs None = None
behind cs (Some ds) = Some (cs ++ ds)

behind_put : (cs : List Chosen) (c : Chosen) (o : Option (List Chosen)) → behind cs (put c o) ≡ behind (cs ++ (c ∷ [])) o
behind_put cs c None = refl
behind_put cs c (Some ds) = ap Some (sym (append_assoc cs (c ∷ []) ds))

pub record Going (D : ℕ) (js : List Job) (draft : Draft) (i : ℕ) : Type 0 where
  pub placed : List Chosen
  pub held : draft ≡ draft_of placed
  pub count : length placed ≡ i
  pub within : i ≤ length js
  pub early : busy placed ≤ D
  pub rest : behind placed (given D (busy placed) (drop i js)) ≡ given D 0 js

module _ (D : ℕ) (js : List Job) where
  pub going_begin : (draft : Draft) → draft ≡ draft_of [] → Going D js draft 0
  going_begin draft e = record { placed = []; held = e; count = refl; within = omega arith; early = omega arith; rest = front (given D 0 js) }
    where
      front : (o : Option (List Chosen)) → behind [] o ≡ o
      front None = refl
      front (Some ds) = refl

  pub going_end : (draft : Draft) (i : ℕ) → length js ≤ i → Going D js draft i
      → Some draft ≡ drafted_of (given D 0 js)
  going_end draft i h g =
      let none_left : drop i js ≡ [] = drop_of_length-le js {i = i} h in
      let all : Some g.placed ≡ given D 0 js = ap Some (sym (append-nil g.placed))
      ∙ ap (λ (l : List Job). behind g.placed (given D (busy g.placed) l)) (sym none_left) ∙ g.rest in
      ap Some g.held ∙ ap drafted_of all

  -- the draft has i steps, and has not passed D
  pub going_room : (draft : Draft) (i : ℕ) → Going D js draft i → (draft.plan.count ≡ i) × (draft.laid.busy ≤ D)
  going_room draft i g = rw g.held (steps_length g.placed ∙ g.count, g.early)

  -- the next job, as it stands in the table
  module _ (draft : Draft) (i : ℕ) (g : Going D js draft i) (more : i < length js) (job : Job) (next : get_or js i no_job ≡ job) where
    onward : drop i js ≡ job ∷ drop (i + 1) js
    onward = rw (add-one, ← next) (drop-cons js i no_job more)

    now : draft.laid.busy ≡ busy g.placed
    now = ap (λ (d : Draft). d.laid.busy) g.held

    pub going_none : None ≡ decision_of (decide D draft.laid.busy job) → None ≡ drafted_of (given D 0 js)
    going_none e =
        ap drafted_of (sym (sym g.rest
        ∙ ap (behind g.placed) (stop (decide D (busy g.placed) job) refl (e ∙ ap (λ (t : ℕ). decision_of (decide D t job)) now))))
      where
        stop : (o : Option Chosen) → decide D (busy g.placed) job ≡ o → None ≡ decision_of o → given D (busy g.placed) (drop i js) ≡ None
        stop None q h =
            rw onward (ap (λ (o : Option Chosen). elim o as (λ (x : Option Chosen). Option (List Chosen))
            [ None ↦ None | Some x ↦ put x (given D (busy g.placed + span x) (drop (i + 1) js)) ]) q)
        stop (Some c) q h = clash (cc)

    pub going_more : (away : Bool) → Some away ≡ decision_of (decide D draft.laid.busy job) → length js ≤ most_jobs
        → Going D js (with_chosen draft (chosen job away)) (i + 1)
    going_more away e few = step (decide D (busy g.placed) job) refl (e ∙ ap (λ (t : ℕ). decision_of (decide D t job)) now)
      where
        new : Chosen
        new = chosen job away

        build : decide D (busy g.placed) job ≡ Some new → Going D js (with_chosen draft new) (i + 1)
        build q =
            let f = decide_fits D (busy g.placed) job new q in
            let b : busy (g.placed ++ (new ∷ [])) ≡ busy g.placed + span new = omega (arith, total_append span g.placed (new ∷ [])) in
            record {
              placed = g.placed ++ (new ∷ []);
              held = ap (λ (d : Draft). with_chosen d new) g.held ∙ draft_more g.placed new (omega (arith, g.count));
              count = omega (arith, length-append g.placed (new ∷ []), g.count);
              within = omega arith;
              early = omega (arith, f.2);
              rest =
                  ap (λ (t : ℕ). behind (g.placed ++ (new ∷ [])) (given D t (drop (i + 1) js))) b
                  ∙ sym (behind_put g.placed new (given D (busy g.placed + span new) (drop (i + 1) js)))
                  ∙ ap (behind g.placed) (sym (given_on D (busy g.placed) job (drop (i + 1) js) new q))
                  ∙ ap (λ (l : List Job). behind g.placed (given D (busy g.placed) l)) (sym onward)
                  ∙ g.rest;
            }

        step : (o : Option Chosen) → decide D (busy g.placed) job ≡ o → Some away ≡ decision_of o → Going D js (with_chosen draft new) (i + 1)
        step None q h = clash (cc)
        step (Some c) q h =
            let s = decide_fits D (busy g.placed) job c q in
            let p : c.job ≡ job = s.0 in
            let w : away ≡ c.away = cc in
            let n : c ≡ new = λ k. record { job = p k; away = (sym w) k } in
            build (q ∙ ap Some n)
