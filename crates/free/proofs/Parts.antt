-- The two passes that make a free-order plan, each a listing of the jobs that pass a test: the flagged ones in away order, the others in table order.
-- Assumes nothing.
use mathlib.Core.Path.{◌≡◌, refl, sym, ap, subst, ◌∙◌}
use mathlib.Core.Logic.{◌⊎◌, inl, inr}
use mathlib.Core.Bool.{Bool, true, false, cond, not}
use mathlib.Core.List.{List, [], ◌∷◌, ◌++◌}
use Prim.Native.Nat.{ℕ, ◌+◌, ◌≤◌, ◌<◌}
use native.Mathlib.Omega.{arith}
use lib.ListN.{length, get_or, drop, length-map, get_or-map}
use Rattle.std.proofs.lemmas.List.{drop_more, length-drop}
use Rattle.model.specs.declared.Job.{Job}
use Rattle.model.specs.Lists.{All, filter}
use Rattle.model.specs.Timetable.{Chosen, here, span}
use Rattle.model.specs.FreeOrder.{is_away, busy}
use Rattle.model.specs.Recurrence.{jobs_in_away_order}
use Rattle.model.specs.Laying.{chosen, most_busy}
use Rattle.model.specs.Positions.{no_job, no_choice, positions, choose}
use Rattle.model.proofs.Lists.{all_at, all_map, map_all, at_any, filter_length}
use Rattle.model.proofs.Positions.{positions_below}
use Rattle.model.proofs.Bounds.{span_short}
use Rattle.model.proofs.Flags.{choose_away, choose_jobs}
use Rattle.records.specs.Limits.{largest_time, most_jobs}
use Rattle.table.specs.Tables.{TimesOk}
use Rattle.choice.specs.Choices.{SoundJobs, jobs_at}
use Rattle.choice.proofs.AwayJobs.{order_jobs, as_many, positions_few}
use Rattle.draft.specs.declared.Draft.{Draft}
use Rattle.draft.specs.Drafts.{draft_of, with_chosen}
use Rattle.draft.proofs.Drafts.{listing_begin, Roomy, Listing, listing_end, listing_room, listing_more}
use Rattle.free.specs.Parts.{in_away_order, HereRoom}
use Rattle.plan.proofs.Steps.{steps_length}

-- a draft with one job more, if it is listed
abbrev with_if : Draft → Bool → Chosen → Draft
with_if d listed c = cond listed (with_chosen d c) d

-- where a job is listed only if it is away, or only if it is here, its choice is told by that
pub listed_away : (d : Draft) (b : Bool) (j : Job) → with_if d b (chosen j true) ≡ with_if d b (chosen j b)
listed_away d true j = refl
listed_away d false j = refl

pub listed_here : (d : Draft) (b : Bool) (j : Job) → with_if d (not b) (chosen j false) ≡ with_if d (not b) (chosen j b)
listed_here d true j = refl
listed_here d false j = refl

-- a flagged job, by its position
choose_at : (js : List Job) (flags : List Bool) (i : ℕ) → i < length js →
    get_or (choose js flags) i no_choice ≡ chosen (get_or js i no_job) (get_or flags i false)
choose_at js flags i h =
    let j : (get_or (choose js flags) i no_choice).job ≡ get_or js i no_job = sym (get_or-map (λ (x : Chosen). x.job) (choose js flags) i no_choice)
    ∙ ap (λ (l : List Job). get_or l i no_job) (choose_jobs js flags) in
    let w = choose_away js flags i h in
    λ k. record { job = j k; away = w k }

pub choose_length : (js : List Job) (flags : List Bool) → length (choose js flags) ≡ length js
choose_length js flags = sym (length-map (choose js flags) (λ (x : Chosen). x.job)) ∙ ap length (choose_jobs js flags)

-- spans are no longer than the largest time
pub choose_short : (js : List Job) (flags : List Bool) → All (TimesOk largest_time) js → All (λ (c : Chosen). span c ≤ largest_time) (choose js flags)
choose_short [] flags a = tt
choose_short (j ∷ js) [] a = (span_short largest_time (chosen j false) a.0.local a.0.setup, choose_short js [] a.1)
choose_short (j ∷ js) (f ∷ flags) a = (span_short largest_time (chosen j f) a.0.local a.0.setup, choose_short js flags a.1)

-- what is left of a list after k elements, with its first
module _ {A : Type 0} (xs left rest : List A) (x : A) (k : ℕ) (e : left ≡ drop k xs) (h : left ≡ x ∷ rest) where
  left_more : k < length xs
  left_more = omega (arith, length-drop k xs, ap length (sym e ∙ h))

  parted : (d : A) → get_or xs k d ∷ drop (k + 1) xs ≡ x ∷ rest
  parted d = sym (drop_more xs k d left_more) ∙ (sym e ∙ h)

  left_first : (d : A) → get_or xs k d ≡ x
  left_first d = cc (parted d)

  left_rest : rest ≡ drop (k + 1) xs
  left_rest = cc (parted x)

-- The away jobs.

-- k positions are passed, and these positions and jobs are left
pub record Away (js : List Job) (flags : List Bool) (draft : Draft) (at : List ℕ) (jobs : List Job) (k : ℕ) : Type 0 where
  pub listing : Listing is_away [] (in_away_order js flags) draft k
  pub at_left : at ≡ drop k (positions js)
  pub jobs_left : jobs ≡ drop k (jobs_in_away_order js)

module _ (js : List Job) (sound : SoundJobs js) (flags : List Bool) where
  abbrev cs : List Chosen
  cs = in_away_order js flags

  first : Chosen
  first = get_or (choose js flags) 0 no_choice

  away_count : length cs ≡ length (positions js)
  away_count = length-map (positions js) (λ (i : ℕ). get_or (choose js flags) i no_choice)

  pub away_short : All (λ (c : Chosen). span c ≤ largest_time) cs
  away_short =
      map_all (λ (i : ℕ). get_or (choose js flags) i no_choice) (λ (c : Chosen). span c ≤ largest_time) (positions js)
      (all_map (λ (i : ℕ) (h : i < length js). all_at (λ (c : Chosen). span c ≤ largest_time) (choose js flags) no_choice
      (choose_short js flags sound.times) i (omega (arith, choose_length js flags))) (positions js) (positions_below js))

  away_roomy : Roomy is_away [] cs
  away_roomy =
      record {
        few = omega (arith, filter_length is_away cs, away_count, positions_few js, sound.few);
        short = away_short;
        early = omega arith;
      }

  pub away_start : (draft : Draft) → draft ≡ draft_of [] → Away js flags draft (positions js) (jobs_in_away_order js) 0
  away_start draft e = record { listing = listing_begin is_away [] cs draft e; at_left = refl; jobs_left = refl }

  pub away_end : (draft : Draft) (at : List ℕ) (jobs : List Job) (k : ℕ) → Away js flags draft at jobs k → (length at ≡ 0) ⊎ (length jobs ≡ 0)
      → draft ≡ draft_of (filter is_away cs)
  away_end draft at jobs k a h = listing_end is_away [] cs draft k (done h) a.listing
    where
      done : (length at ≡ 0) ⊎ (length jobs ≡ 0) → length cs ≤ k
      done (inl e) = omega (arith, away_count, length-drop k (positions js), ap length a.at_left)
      done (inr e) = omega (arith, away_count, as_many js, length-drop k (jobs_in_away_order js), ap length a.jobs_left)

  module _ (draft : Draft) (at : List ℕ) (jobs : List Job) (k : ℕ) (a : Away js flags draft at jobs k) (i : ℕ) (is : List ℕ) (j : Job) (os : List Job)
      (p : at ≡ i ∷ is) (q : jobs ≡ j ∷ os) where
    at_more : k < length (positions js)
    at_more = left_more (positions js) at is i k a.at_left p

    this : get_or (positions js) k 0 ≡ i
    this = left_first (positions js) at is i k a.at_left p 0

    below : i < length js
    below = subst (λ (n : ℕ). n < length js) this (all_at (λ (n : ℕ). n < length js) (positions js) 0 (positions_below js) k at_more)

    pub away_here : i < most_jobs
    away_here = omega (arith, below, sound.few)

    -- the job at this position
    job : get_or js i no_job ≡ j
    job =
        ap (λ (n : ℕ). get_or js n no_job) (sym this)
        ∙ (sym (get_or-map (λ (n : ℕ). get_or js n no_job) (positions js) k 0)
        ∙ (sym (at_any (jobs_at js (positions js)) k no_job (get_or js 0 no_job) (rw (length-map (positions js) (λ (n : ℕ). get_or js n no_job)) at_more))
        ∙ (ap (λ (l : List Job). get_or l k no_job) (sym (order_jobs js)) ∙ left_first (jobs_in_away_order js) jobs os j k a.jobs_left q no_job)))

    at_next : get_or cs k first ≡ chosen j (get_or flags i false)
    unfolding first
    at_next =
        get_or-map (λ (n : ℕ). get_or (choose js flags) n no_choice) (positions js) k 0
        ∙ (ap (λ (n : ℕ). get_or (choose js flags) n no_choice) this
        ∙ (choose_at js flags i below ∙ ap (λ (o : Job). chosen o (get_or flags i false)) job))

    pub away_room : get_or flags i false ≡ true → (draft.plan.count < most_jobs) × (draft.laid.busy ≤ most_busy)
    away_room e =
        listing_room is_away [] cs away_roomy draft k a.listing (chosen j (get_or flags i false)) first (omega (arith, away_count, at_more)) at_next e

    pub away_more : (b : Bool) → get_or flags i false ≡ b → (r : Draft) → r ≡ with_if draft b (chosen j true) → Away js flags r is os (k + 1)
    away_more b flag r e =
        record {
          listing =
              rw (e, ← flag, listed_away draft (get_or flags i false) j)
              (listing_more is_away [] cs away_roomy draft k a.listing (chosen j (get_or flags i false)) first (omega (arith, away_count, at_more)) at_next);
          at_left = left_rest (positions js) at is i k a.at_left p;
          jobs_left = left_rest (jobs_in_away_order js) jobs os j k a.jobs_left q;
        }

-- The here jobs, behind those of `front`.

-- k jobs are passed, and these jobs and flags are left
pub record Here (jobs : List Job) (flags : List Bool) (before : List Chosen) (draft : Draft) (left : List Job) (fs : List Bool) (k : ℕ) : Type 0 where
  pub listing : Listing here before (choose jobs flags) draft k
  pub jobs_left : left ≡ drop k jobs
  pub flags_left : fs ≡ drop k flags

module _ (jobs : List Job) (flags : List Bool) (front : Draft) (room : HereRoom front (choose jobs flags)) where
  abbrev hs : List Chosen
  hs = choose jobs flags

  here_many : length hs ≡ length jobs
  here_many = choose_length jobs flags

  module _ (before : List Chosen) (held : front ≡ draft_of before) where
    -- whichever jobs the draft is of, there is room behind them
    here_roomy : Roomy here before hs
    here_roomy =
        let same : draft_of room.before ≡ draft_of before = sym room.held ∙ held in
        let n : length room.before ≡ length before = sym (steps_length room.before) ∙ (ap (λ (d : Draft). d.plan.count) same ∙ steps_length before) in
        let b : busy room.before ≡ busy before = ap (λ (d : Draft). d.laid.busy) same in
        record { few = omega (arith, room.few); short = room.short; early = rw (n, b) at room.early }

    pub here_end : length jobs ≤ length flags → (draft : Draft) (left : List Job) (fs : List Bool) (k : ℕ) → Here jobs flags before draft left fs k
        → (length left ≡ 0) ⊎ (length fs ≡ 0) → draft ≡ draft_of (before ++ filter here hs)
    here_end l draft left fs k h z = listing_end here before hs draft k (done z) h.listing
      where
        done : (length left ≡ 0) ⊎ (length fs ≡ 0) → length hs ≤ k
        done (inl e) = omega (arith, here_many, length-drop k jobs, ap length h.jobs_left)
        done (inr e) = omega (arith, here_many, length-drop k flags, ap length h.flags_left)

    module _ (draft : Draft) (left : List Job) (fs : List Bool) (k : ℕ) (h : Here jobs flags before draft left fs k) (j : Job) (js : List Job) (w : Bool)
        (ws : List Bool) (p : left ≡ j ∷ js) (q : fs ≡ w ∷ ws) where
      more : k < length jobs
      more = left_more jobs left js j k h.jobs_left p

      next : get_or hs k no_choice ≡ chosen j w
      next =
          choose_at jobs flags k more
          ∙ rw (left_first jobs left js j k h.jobs_left p no_job, left_first flags fs ws w k h.flags_left q false) refl

      pub here_room : not w ≡ true → (draft.plan.count < most_jobs) × (draft.laid.busy ≤ most_busy)
      here_room e = listing_room here before hs here_roomy draft k h.listing (chosen j w) no_choice (omega (arith, here_many, more)) next e

      pub here_more : (b : Bool) → not w ≡ b → (r : Draft) → r ≡ with_if draft b (chosen j false) → Here jobs flags before r js ws (k + 1)
      here_more b flag r e =
          record {
            listing =
                rw (e, ← flag, listed_here draft w j)
                (listing_more here before hs here_roomy draft k h.listing (chosen j w) no_choice (omega (arith, here_many, more)) next);
            jobs_left = left_rest jobs left js j k h.jobs_left p;
            flags_left = left_rest flags fs ws w k h.flags_left q;
          }
