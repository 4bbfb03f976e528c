-- One job more at the end of a draft is the draft of one job more; and a pass that lists the jobs that pass a test.
-- Assumes nothing.
use mathlib.Core.Path.{◌≡◌, refl, ap, sym, ◌∙◌}
use mathlib.Core.Bool.{Bool, true, false, cond}
use mathlib.Core.List.{List, [], ◌∷◌, ◌++◌, append-nil, append_assoc}
use Prim.Native.Nat.{ℕ, ◌+◌, ◌*◌, ◌≤◌, ◌<◌}
use native.Mathlib.Omega.{arith}
use native.Mathlib.Numerals.{add-one}
use lib.ListN.{length, get_or, take, length-append}
use lib.Seq.{take-suc, take_all}
use Rattle.model.specs.Lists.{All, filter}
use Rattle.model.specs.Timetable.{Chosen, span}
use Rattle.model.specs.Laying.{most_busy}
use Rattle.model.specs.FreeOrder.{busy}
use Rattle.model.proofs.Lists.{all_filter, all_take, filter_take}
use Rattle.model.proofs.Permutations.{total_append}
use Rattle.model.proofs.Workable.{filter_append}
use Rattle.model.proofs.Bounds.{spans_short}
use Rattle.model.proofs.Laying.{laid_more}
use Rattle.records.specs.Limits.{most_jobs, largest_time}
use Rattle.plan.specs.Plans.{plan_of, step_of, steps_for}
use Rattle.plan.proofs.Steps.{with_step_of, steps_append, steps_length}
use Rattle.draft.specs.declared.Draft.{Draft}
use Rattle.draft.specs.Drafts.{draft_of, with_chosen}

pub draft_more : (cs : List Chosen) (c : Chosen) → length cs < most_jobs → with_chosen (draft_of cs) c ≡ draft_of (cs ++ (c ∷ []))
draft_more cs c h =
    let p = with_step_of (steps_for cs) (step_of c) (omega (arith, steps_length cs)) ∙ ap plan_of (sym (steps_append cs (c ∷ []))) in
    λ i. record { plan = p i; laid = laid_more cs c i }

abbrev Short : Chosen → Type 0
Short c = span c ≤ largest_time

-- A pass over jobs of which those that pass a test are listed behind others: what it keeps after i of them.
module _ (f : Chosen → Bool) (front cs : List Chosen) where
  abbrev pub listed_to : ℕ → List Chosen
  listed_to i = front ++ filter f (take i cs)

  -- there is room for all of them
  pub record Roomy : Type 0 where
    pub few : length front + length (filter f cs) ≤ most_jobs
    pub short : All (λ (c : Chosen). span c ≤ largest_time) cs
    pub early : busy front ≤ largest_time * length front

  pub record Listing (draft : Draft) (i : ℕ) : Type 0 where
    pub within : i ≤ length cs
    pub held : draft ≡ draft_of (listed_to i)

  pub listing_begin : (draft : Draft) → draft ≡ draft_of front → Listing draft 0
  listing_begin draft e = record { within = omega arith; held = e ∙ ap draft_of (sym (append-nil front)) }

  pub listing_end : (draft : Draft) (i : ℕ) → length cs ≤ i → Listing draft i → draft ≡ draft_of (front ++ filter f cs)
  listing_end draft i h l = l.held ∙ ap (λ (ds : List Chosen). draft_of (front ++ filter f ds)) (take_all i cs h)

  -- one more of them
  grown : (i : ℕ) (d : Chosen) → i < length cs → filter f (take (i + 1) cs) ≡ filter f (take i cs) ++ filter f (get_or cs i d ∷ [])
  grown i d h = rw (add-one, take-suc cs i d h) (filter_append f (take i cs) (get_or cs i d ∷ []))

  module _ (roomy : Roomy) (draft : Draft) (i : ℕ) (l : Listing draft i) (c d : Chosen) (more : i < length cs) (next : get_or cs i d ≡ c) where
    held_few : length (listed_to i) + length (filter f (c ∷ [])) ≤ most_jobs
    held_few =
        let g = rw next at (ap length (grown i d more)) in
        omega (
          arith,
          roomy.few,
          length-append front (filter f (take i cs)),
          length-append (filter f (take i cs)) (filter f (c ∷ [])),
          filter_take f cs (i + 1),
        )

    pub listing_room : f c ≡ true → (draft.plan.count < most_jobs) × (draft.laid.busy ≤ most_busy)
    listing_room e =
        let n : length (filter f (c ∷ [])) ≡ 1 = rw e in
        let b = total_append span front (filter f (take i cs)) in
        let s = spans_short largest_time (filter f (take i cs)) (all_filter Short f (take i cs) (all_take Short cs i roomy.short)) in
        rw l.held (
          omega (arith, steps_length (listed_to i), held_few),
          omega (arith, roomy.early, roomy.few, held_few, length-append front (filter f (take i cs))),
        )

    pub listing_more : Listing (cond (f c) (with_chosen draft c) draft) (i + 1)
    listing_more =
        record { within = omega arith; held = rw l.held (step (f c) refl) }
      where
        behind : listed_to (i + 1) ≡ listed_to i ++ filter f (c ∷ [])
        behind = ap (λ (xs : List Chosen). front ++ xs) (rw next at (grown i d more)) ∙ sym (append_assoc front (filter f (take i cs)) (filter f (c ∷ [])))

        step : (b : Bool) → f c ≡ b → cond b (with_chosen (draft_of (listed_to i)) c) (draft_of (listed_to i)) ≡ draft_of (listed_to (i + 1))
        step true e =
            let n : length (filter f (c ∷ [])) ≡ 1 = rw e in
            let g : listed_to (i + 1) ≡ listed_to i ++ (c ∷ []) = rw e at behind in
            draft_more (listed_to i) c (omega (arith, held_few)) ∙ ap draft_of (sym g)
        step false e =
            let g : listed_to (i + 1) ≡ listed_to i ++ [] = rw e at behind in
            ap draft_of (sym (g ∙ append-nil (listed_to i)))
