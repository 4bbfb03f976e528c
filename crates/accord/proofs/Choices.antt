-- What the planners ask of the prepared jobs, in numbers: 7 exactly when no timetable meets the deadline, or 4,000; else 0 with the best choice's mask,
-- or with the least deadline. Assumes nothing.
use Prim.Native.Nat.{ℕ}
use mathlib.Core.Path.{◌≡◌, refl, sym, ap, subst, ◌∙◌}
use mathlib.Core.Logic.{◌↔◌}
use mathlib.Core.List.{List, [], ◌∷◌}
use Rattle.model.specs.declared.Job.{Job}
use Rattle.model.specs.Timetable.{Met}
use Rattle.model.specs.FreeOrder.{Best, LeastDeadline}
use Rattle.model.specs.Recurrence.{Cell, empty, cell, answer}
use Rattle.model.specs.Positions.{choose}
use Rattle.model.proofs.Lists.{clash}
use Rattle.model.proofs.Best.{none_iff_no_timetable}
use Rattle.model.proofs.Free.{answer_choice}
use Rattle.model.proofs.LeastDeadline.{met_mono, least_unique}
use Rattle.records.specs.Limits.{most_jobs, largest_time}
use Rattle.choice.specs.declared.Prepared.{Prepared}
use Rattle.std.specs.Prelude.{Option, None, Some}
use Rattle.choice.specs.Choices.{SoundJobs, prepared_of, best_mask_of, flags_of, best_mask_says, IsEarliest, earliest_says}
use Rattle.accord.specs.Allows.{BestAllows, EarliestAllows}

module _ (js : List Job) (sound : SoundJobs js) (p : Prepared) (held : p ≡ prepared_of js) where
  module _ (d : ℕ) (r : Option ℕ) (allows : BestAllows d p r) where
    -- what the answer says, by what the recurrence finds
    said : best_mask_says r ≡ best_mask_says (best_mask_of (answer d js))
    said = ap best_mask_says (allows js held)

    pub found_none : (best_mask_says r ≡ 7 ∷ []) ↔ ¬ (Met d js)
    found_none = (
      (λ e. step (answer d js) refl (sym said ∙ e)),
      (λ n. said ∙ ap (λ (c : Cell). best_mask_says (best_mask_of c)) ((none_iff_no_timetable d js).1 n)),
    )
      where
        step : (c : Cell) → answer d js ≡ c → best_mask_says (best_mask_of c) ≡ 7 ∷ [] → ¬ (Met d js)
        step empty e q = (none_iff_no_timetable d js).0 e
        step (cell a m) e q = clash (cc)

    pub found_best : (m : ℕ) → best_mask_says r ≡ 0 ∷ m ∷ [] → Best d js (choose js (flags_of js m))
    found_best m e = step (answer d js) refl (sym said ∙ e)
      where
        step : (c : Cell) → answer d js ≡ c → best_mask_says (best_mask_of c) ≡ 0 ∷ m ∷ [] → Best d js (choose js (flags_of js m))
        step empty e q = clash (cc)
        step (cell a k) e q =
            let same : k ≡ m = cc in
            subst (λ (i : ℕ). Best d js (choose js (flags_of js i))) same (answer_choice most_jobs js sound.few d a k e).0

  module _ (r : Option ℕ) (allows : EarliestAllows p r) where
    pub earliest_none : (earliest_says r ≡ 7 ∷ []) ↔ ¬ (Met largest_time js)
    earliest_none = step r (allows js held)
      where
        step : (q : Option ℕ) → IsEarliest largest_time js q → (earliest_says q ≡ 7 ∷ []) ↔ ¬ (Met largest_time js)
        step (Some d) l = ((λ e. clash (cc)), (λ n. absurd (n (met_mono js d largest_time l.high l.met))))
        step None n = ((λ e. n), (λ k. refl))

    pub earliest_is : (d : ℕ) → (earliest_says r ≡ 0 ∷ d ∷ []) ↔ LeastDeadline largest_time js d
    earliest_is d = step r (allows js held)
      where
        step : (q : Option ℕ) → IsEarliest largest_time js q → (earliest_says q ≡ 0 ∷ d ∷ []) ↔ LeastDeadline largest_time js d
        step (Some c) l = (
          (λ e. let same : c ≡ d = cc in subst (LeastDeadline largest_time js) same l),
          (λ k. ap (λ (n : ℕ). 0 ∷ n ∷ []) (least_unique js largest_time c d l k)),
        )
        step None n = ((λ e. clash (cc)), (λ k. absurd (n (met_mono js d largest_time k.high k.met))))
