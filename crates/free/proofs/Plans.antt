-- The two parts, one behind the other, are the plan of the best choice.
-- Assumes nothing.
use mathlib.Core.Path.{◌≡◌, refl, sym, ap, ◌∙◌}
use mathlib.Core.List.{List, ◌++◌}
use Rattle.std.specs.Prelude.{Some}
use Prim.Native.Nat.{ℕ, ◌≤◌}
use native.Mathlib.Omega.{arith}
use lib.ListN.{length, length-append}
use Rattle.model.specs.declared.Job.{Job}
use Rattle.model.specs.Lists.{filter}
use Rattle.model.specs.Timetable.{Chosen, here, span}
use Rattle.model.specs.FreeOrder.{Choice, is_away, plan, Best}
use Rattle.model.specs.Recurrence.{Cell, empty, cell, answer}
use Rattle.model.specs.Positions.{choose, plan_found, free}
use Rattle.model.proofs.Lists.{clash, all_filter}
use Rattle.model.proofs.Permutations.{length_perm}
use Rattle.model.proofs.PlanOrder.{perm_plan}
use Rattle.model.proofs.Positions.{order_positions}
use Rattle.model.proofs.Free.{answer_choice}
use Rattle.records.specs.Limits.{most_jobs, largest_time}
use Rattle.choice.specs.Choices.{SoundJobs, flags_of, best_mask_of}
use Rattle.draft.specs.declared.Draft.{Draft}
use Rattle.draft.specs.Drafts.{draft_of, drafted_of}
use Rattle.free.specs.Parts.{in_away_order, HereRoom}
use Rattle.free.proofs.Parts.{choose_short, choose_length, away_short}
use Rattle.model.proofs.Bounds.{spans_short}

-- a plan has as many jobs as its choice
pub plan_many : (cs : List Chosen) → (js : List Job) → Choice js cs → length (plan cs) ≡ length cs
plan_many cs js c = length_perm (perm_plan cs c.allowed)

module _ (js : List Job) (sound : SoundJobs js) (D : ℕ) where
  module _ (m : ℕ) (e : Some m ≡ best_mask_of (answer D js)) where
    abbrev cs : List Chosen
    cs = choose js (flags_of js m)

    abbrev sent : List Chosen
    sent = filter is_away (in_away_order js (flags_of js m))

    with_total : (a : ℕ) × (answer D js ≡ cell a m)
    with_total = step (answer D js) refl e
      where
        step : (c : Cell) → answer D js ≡ c → Some m ≡ best_mask_of c → (a : ℕ) × (answer D js ≡ cell a m)
        step empty q f = clash (cc)
        step (cell a n) q f = let s : n ≡ m = cc in (a, q ∙ ap (cell a) s)

    best : Best D js cs
    best = (answer_choice most_jobs js sound.few D with_total.0 m with_total.1).0

    in_parts : plan cs ≡ sent ++ filter here cs
    in_parts = ap (λ (l : List Chosen). filter is_away l ++ filter here cs) (order_positions js cs best.choice)

    pub found_room : (front : Draft) → front ≡ draft_of sent → HereRoom front cs
    found_room front h =
        record {
          before = sent;
          held = h;
          few =
              omega (
                arith,
                sound.few,
                choose_length js (flags_of js m),
                plan_many cs js best.choice,
                ap length in_parts,
                length-append sent (filter here cs),
              );
          short = choose_short js (flags_of js m) sound.times;
          early =
              spans_short largest_time sent (all_filter (λ (c : Chosen). span c ≤ largest_time) is_away (in_away_order js (flags_of js m))
              (away_short js sound (flags_of js m)));
        }

    pub found_plan : (r : Draft) → r ≡ draft_of (sent ++ filter here cs) → Some r ≡ drafted_of (free most_jobs D js)
    found_plan r h =
        ap Some h
        ∙ (ap (λ (xs : List Chosen). drafted_of (Some xs)) (sym in_parts) ∙ ap (λ (c : Cell). drafted_of (plan_found most_jobs js c)) (sym with_total.1))
