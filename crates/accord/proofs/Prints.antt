-- The lister's text is that of the answer and the area that the free-order planner's own contract allows; and it allows one for every table and area.
-- Assumes nothing.
use Prim.Native.Nat.{ℕ, ◌≤◌, ◌<◌}
use native.Mathlib.Omega.{arith}
use mathlib.Core.Path.{◌≡◌, refl, sym, ap, subst, ◌∙◌}
use mathlib.Core.Bool.{Bool, true, false}
use mathlib.Core.List.{List, [], ◌∷◌, ◌++◌}
use Rattle.std.specs.Prelude.{Option, None, Some, Err, Ok}
use lib.ListN.{length, drop}
use lib.Dec.{ltb}
use borrow.Author.Tests.{ltb-true, ltb-false}
use Rattle.model.specs.Lists.{All}
use Rattle.model.specs.Timetable.{Chosen, Met}
use Rattle.model.specs.FreeOrder.{busy, last_from}
use Rattle.model.specs.Positions.{free}
use Rattle.model.proofs.Free.{free_best, free_none_iff}
use Rattle.records.specs.declared.refusal.Refusal.TheVariants as R
use Rattle.records.specs.Limits.{most_jobs, longest_plan}
use Rattle.records.specs.Refusals.{Outcome, accepted, refused}
use Rattle.table.specs.Tables.{JobTable, read_table}
use Rattle.table.proofs.Accepted.{accepted_good}
use Rattle.plan.specs.Plans.{plan_bytes, steps_for}
use Rattle.planner.specs.Answers.{Planned}
use Rattle.planner.specs.Orders.{best_meets, one_best}
use Rattle.planner.specs.Answers.{no_room, bad_table, no_plan, planned, BestPlan, FreeAnswer}
use Rattle.faults.specs.Faults.{Byte}
use Rattle.faults.proofs.Tables.{table_is}
use Rattle.listing.specs.Listing.{plan_text, found_text, outcome_text, text_of, room_for_text, listed_says, Lists, no_room as no_space, text_written}
use Rattle.listing.proofs.Texts.{refused_text_lem}
use Rattle.accord.specs.Allows.{FreeAllows, ListAllows}
use Rattle.accord.specs.Prints.{TextOf, of_refusal, of_plan}
use Rattle.accord.proofs.Plans.{free_of, front}

module _ (s : List ℕ) (t : JobTable) (e : read_table s ≡ accepted t) where
  abbrev found : Option (List Chosen)
  found = free most_jobs t.deadline t.jobs

  few : length t.jobs ≤ most_jobs
  few = (accepted_good s t e).few

  -- what the lister finds is what the contract tells
  finds_best : (xs : List Chosen) → BestPlan t.deadline t.jobs xs → found ≡ Some xs
  finds_best xs p = step found refl
    where
      step : (o : Option (List Chosen)) → found ≡ o → found ≡ Some xs
      step None q = absurd ((free_none_iff most_jobs t.jobs few t.deadline).0 q (best_meets t xs p))
      step (Some ys) q = q ∙ ap Some (one_best t ys xs (free_best most_jobs t.jobs few t.deadline ys q) p)

  text_none : ¬ (Met t.deadline t.jobs) → text_of s ≡ found_text t None
  unfolding text_of
  text_none n = ap outcome_text e ∙ ap (found_text t) ((free_none_iff most_jobs t.jobs few t.deadline).1 n)

  text_plan : (xs : List Chosen) → BestPlan t.deadline t.jobs xs → text_of s ≡ plan_text t xs
  unfolding text_of
  text_plan xs p = ap outcome_text e ∙ ap (found_text t) (finds_best xs p)

module _ (s : List ℕ) (bytes : All Byte s) (before : List ℕ) (r : Planned) (after : List ℕ) (room : longest_plan ≤ length before) where
  text_of_lem : FreeAnswer s before r after → TextOf s r after (text_of s)
  unfolding plan_text
  text_of_lem (no_room short h) = absurd (omega arith)
  text_of_lem (bad_table m f e h) = subst (TextOf s r after) (refused_text_lem s f e) (of_refusal f h.says)
  text_of_lem (no_plan m t e n h) = subst (TextOf s r after) (sym (text_none s t e n)) (of_refusal R.None h.says)
  text_of_lem (planned m t e xs p h) =
      let table = (table_is s bytes (accepted t)).0 e in
      let of = (free_of t xs p).0 in
      subst (TextOf s r after) (sym (text_plan s t e xs p))
      (of_plan t xs (length (plan_bytes (steps_for xs))) (busy xs) (last_from 0 xs) table of h.says (front t table.0 xs of before r after h))

  pub prints : FreeAllows s before r after → (buffer : List ℕ) (q : Option ℕ) (out : List ℕ) → ListAllows s buffer q out → room_for_text ≤ length buffer →
      (text : List ℕ) × TextOf s r after text × (listed_says q ≡ 0 ∷ length text ∷ []) × (out ≡ text ++ drop (length text) buffer)
  prints free buffer q out lists space = go lists
    where
      go : Lists s buffer q out → (text : List ℕ) × TextOf s r after text × (listed_says q ≡ 0 ∷ length text ∷ []) × (out ≡ text ++ drop (length text) buffer)
      go (no_space short e left) = absurd (omega arith)
      go (text_written enough says area) = (text_of s, text_of_lem free, says, area)

-- Without room for the longest text it says 18 and leaves the buffer, whatever the table.
pub prints_room : (s buffer : List ℕ) (q : Option ℕ) (out : List ℕ) → ListAllows s buffer q out → length buffer < room_for_text →
    (listed_says q ≡ 18 ∷ []) × (out ≡ buffer)
prints_room s buffer q out lists short = go lists
  where
    go : Lists s buffer q out → (listed_says q ≡ 18 ∷ []) × (out ≡ buffer)
    go (no_space _ says left) = (says, left)
    go (text_written enough says area) = absurd (omega arith)

-- There is such an answer for every table and area.
pub free_answers : (s before : List ℕ) → (r : Planned) × (after : List ℕ) × FreeAllows s before r after
free_answers s before = fits (ltb (length before) longest_plan) refl
  where
    answers : longest_plan ≤ length before → (t : JobTable) → read_table s ≡ accepted t → (o : Option (List Chosen)) → free most_jobs t.deadline t.jobs ≡ o →
        (r : Planned) × (after : List ℕ) × FreeAnswer s before r after
    answers room t e None q = (
      Err R.None,
      before,
      no_plan room t e ((free_none_iff most_jobs t.jobs (few s t e) t.deadline).0 q) (record { says = refl; left = refl }),
    )
    answers room t e (Some xs) q =
        let bytes = plan_bytes (steps_for xs) in (
          Ok (record { bytes = length bytes; busy = busy xs; last = last_from 0 xs }),
          bytes ++ drop (length bytes) before,
          planned room t e xs (free_best most_jobs t.jobs (few s t e) t.deadline xs q) (record { says = refl; front = refl }),
        )

    reads : longest_plan ≤ length before → (o : Outcome JobTable) → read_table s ≡ o → (r : Planned) × (after : List ℕ) × FreeAnswer s before r after
    reads room (accepted t) e = answers room t e (free most_jobs t.deadline t.jobs) refl
    reads room (refused f) e = (Err f, before, bad_table room f e (record { says = refl; left = refl }))

    fits : (b : Bool) → ltb (length before) longest_plan ≡ b → (r : Planned) × (after : List ℕ) × FreeAnswer s before r after
    fits true e = (Err R.Room, before, no_room (ltb-true _ _ e) (record { says = refl; left = refl }))
    fits false e = reads (ltb-false _ _ e) (read_table s) refl
