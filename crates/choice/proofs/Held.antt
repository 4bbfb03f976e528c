-- What is prepared holds the either jobs in away order and their positions; of a sound table they are few with small times, as the work rows ask.
-- Assumes nothing.
use mathlib.Core.Path.{◌≡◌, refl}
use mathlib.Core.Bool.{Bool, true, false, cond}
use mathlib.Core.List.Permᴰ
use mathlib.Core.List.{List, [], ◌∷◌}
use Prim.Native.Nat.{ℕ, ◌*◌, ◌≤◌, ◌<◌}
use native.Mathlib.Omega.{arith}
use lib.ListN.{length, take}
use lib.Seq.{take_at}
use Rattle.model.specs.declared.Job.{Job}
use Rattle.model.specs.Lists.{All, filter}
use Rattle.model.specs.Timetable.{is_either, return_time}
use Rattle.model.specs.Recurrence.{jobs_in_away_order, base}
use Rattle.model.specs.Positions.{positions}
use Rattle.model.proofs.Lists.{all_map, all_filter}
use Rattle.model.proofs.Positions.{positions_below}
use Rattle.model.proofs.Permutations.{all_perm, perm_falling}
use Rattle.records.specs.Limits.{most_jobs, largest_time}
use Rattle.rows.specs.Rows.{WithinRows}
use Rattle.table.specs.Tables.{TimesOk}
use Rattle.choice.specs.declared.Prepared.{Prepared}
use Rattle.choice.specs.Choices.{here_time, prepared_of, Ready}
use Rattle.choice.proofs.AwayJobs.{as_many, positions_few}

module _ (p : Prepared) (js : List Job) (held : p ≡ prepared_of js) where
  pub held_positions : take p.order.count p.order.positions ≡ positions js
  held_positions = rw held (take_at (positions js) _ (length (positions js)) refl)

  pub held_jobs : take p.order.count p.jobs ≡ jobs_in_away_order js
  held_jobs = rw held (take_at (jobs_in_away_order js) _ (length (positions js)) (as_many js))

here_small : (j : Job) → here_time j ≤ j.local
here_small j = step (is_either j)
  where
    step : (b : Bool) → cond b 0 j.local ≤ j.local
    step true = omega arith
    step false = omega arith

base_small : (js : List Job) → All (TimesOk largest_time) js → base js ≤ largest_time * length js
base_small [] a = omega arith
base_small (j ∷ js) a = omega (arith, here_small j, a.0.local, base_small js a.1)

module _ (p : Prepared) (r : Ready p) where
  pub ready_few : p.order.count ≤ most_jobs
  ready_few = rw r.held (omega (arith, positions_few r.js, r.sound.few))

  -- each position that is held is one of an array of flags
  pub ready_positions : All (λ (i : ℕ). i < most_jobs) (take p.order.count p.order.positions)
  ready_positions =
      rw (held_positions p r.js r.held) (all_map (λ (i : ℕ) (h : i < length r.js). omega (arith, r.sound.few)) (positions r.js) (positions_below r.js))

  -- the work rows can be asked
  pub ready_rows : (d : ℕ) → d ≤ largest_time → WithinRows d p.base (take p.order.count p.jobs)
  ready_rows d h =
      rw (held_jobs p r.js r.held)
      (record {
        deadline = h;
        few = omega (arith, as_many r.js, positions_few r.js, r.sound.few);
        based = rw r.held (omega (arith, base_small r.js r.sound.times, r.sound.few));
        locals = small;
      })
    where
      small : All (λ (j : Job). j.local ≤ largest_time) (jobs_in_away_order r.js)
      small =
          all_perm (λ (j : Job). j.local ≤ largest_time) (Permᴰ.symm (perm_falling return_time (filter is_either r.js)))
          (all_filter (λ (j : Job). j.local ≤ largest_time) is_either r.js
          (all_map (λ (j : Job) (t : TimesOk largest_time j). t.local) r.js r.sound.times))
