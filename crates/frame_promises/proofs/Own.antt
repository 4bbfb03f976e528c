-- Demand 3: "Run such a frame, with finite values and its events and no others reported under its number, in time order, stays in plan
-- order, an answer after its job's stay, all before the close, and each job ends with its own value." Assumes nothing.
use Rattle.std.specs.Prelude.{Err, Ok}
use Prim.Native.Nat.{ℕ, zero, suc, ◌+◌, ◌≤◌, ◌<◌}
use native.Mathlib.Omega.{arith}
use mathlib.Core.Path.{◌≡◌, refl, sym, ◌∙◌, ap, subst}
use mathlib.Core.Logic.{◌⊎◌, inl, inr}
use mathlib.Core.Bool.{Bool, true, false, cond}
use mathlib.Core.List.Permᴰ
use mathlib.Core.List.{List, [], ◌∷◌, ◌++◌, append_assoc, map, Memᴰ}
use lib.ListN.{length, get_or, length-map, get_or-map}
use Rattle.model.specs.declared.Job.{Job}
use Rattle.model.specs.Lists.{All}
use Rattle.model.specs.Timetable.{Chosen}
use Rattle.model.specs.Positions.{no_choice}
use Rattle.model.specs.FreeOrder.{busy, last_from}
use Rattle.model.specs.Run.{Took, RunOf, OnTime}
use Rattle.model.proofs.Lists.{clash, all_at, member_all}
use Rattle.model.proofs.PlanOrder.{job_of as the_job}
use Rattle.records.specs.Refusals.{Outcome, accepted}
use Rattle.table.specs.Tables.{JobTable, read_table}
use Rattle.table.proofs.Accepted.{accepted_good}
use Rattle.records.proofs.Refusals.{says_not_zero}
use Rattle.plan.specs.declared.Step.{Step}
use Rattle.plan.specs.Plans.{no_step, read_plan, step_of, steps_for}
use Rattle.judge.specs.Check.{Checked, pass}
use Rattle.judge.specs.Check.{checked_says, after_plan, check_plan}
use Rattle.judge.proofs.Jobs.{perm_members}
use Rattle.faults.proofs.Tables.{table_read_lem}
use Rattle.faults.proofs.Plans.{plan_read_lem}
use Rattle.faults.proofs.Says.{pass_iff_runs, pass_or_late}
use Rattle.frame_record.specs.Finite.{finite?}
use Rattle.frame_record.specs.Answers.{Reply, says}
use Rattle.frame_begin.specs.Begin.{steps_in}
use Rattle.frame_promises.specs.Call.{Call, begin, event}
use Rattle.frame_record.specs.declared.Event.TheVariants as E
use Rattle.frame_begin.proofs.Passed.{PlanFits, passed}
use Rattle.frame_promises.specs.History.{Turn, Last, History, idle, opened, closed, done, fresh, reply, accepts, is_accepted, told, history}
use Rattle.frame_promises.specs.Runs.{FromIdle}
use Rattle.frame_promises.specs.Own.{MayBegin, PassingPlan, Doing, run_of, no_doing, doing_at, done_job, id_at, value_at, back_time, span_time, span_call}
use Rattle.frame_promises.specs.Own.{back_call, Plays, over, quiet, spans, backs, AllDone, Answers, OwnValues, OnlyReads, EachOwn}
use Rattle.frame_promises.proofs.Replies.{Replied, replied, reply_told}
use Rattle.frame_promises.proofs.Begins.{begin_iff}
use Rattle.frame_promises.proofs.Going.{Going, few_ended, span_goes, back_goes, quiet_goes, Ended, all_ended, own_read, own_close, shut}
use Rattle.frame_promises.proofs.Going.{kept_shut, begun_goes}

member_at : {d : Doing} {ds : List Doing} → Memᴰ d ds → (k : ℕ) × (k < length ds) × (doing_at ds k ≡ d)
member_at (mathlib.Core.List.Memᴰ.head e) = (0, omega arith, sym e)
member_at (mathlib.Core.List.Memᴰ.tail m) = let r = member_at m in (suc r.0, omega (arith, r.1), r.2)

-- ---- what it is to pass

module _ {table plan : List ℕ} {t : JobTable} {cs : List Chosen} (w : PassingPlan table plan t cs) (last busy_total : ℕ)
    (passes : checked_says (check_plan table plan) ≡ 0 ∷ last ∷ busy_total ∷ []) where
  is_pass : (k : Checked) → checked_says k ≡ 0 ∷ last ∷ busy_total ∷ [] → k ≡ pass last busy_total
  is_pass (Ok run) e = let x : run.last ≡ last = cc in let y : run.busy ≡ busy_total = cc in rw (← x, ← y) refl
  is_pass (Err r) e = absurd (says_not_zero r (last ∷ busy_total ∷ []) e)

  read_table_lem : read_table table ≡ accepted t
  read_table_lem = table_read_lem table (accepted t) w.is_table

  read_plan_lem : read_plan plan ≡ accepted (steps_for cs)
  read_plan_lem = plan_read_lem plan (accepted (steps_for cs)) w.is_plan

  -- "exactly when every permitted run is on time"
  on_time : (rs : List Took) → RunOf cs rs → OnTime t.deadline 0 rs
  on_time =
      let one = pass_or_late table plan (check_plan table plan) refl t cs w.is_table w.is_plan w.exactly in
      (pass_iff_runs table plan (check_plan table plan) refl t cs w.is_table w.is_plan w.exactly).0 (said one)
    where
      said :
          (checked_says (check_plan table plan) ≡ 0 ∷ last_from 0 cs ∷ busy cs ∷ []) ⊎ (checked_says (check_plan table plan) ≡ 11 ∷ []) →
          checked_says (check_plan table plan) ≡ 0 ∷ last_from 0 cs ∷ busy cs ∷ []
      said (inl e) = e
      said (inr e) = clash (cc (sym passes ∙ e))

  after_plan_lem : after_plan t (read_plan plan) ≡ pass last busy_total
  unfolding check_plan
  after_plan_lem = rw read_table_lem at (is_pass (check_plan table plan) passes)

  is_passed : PlanFits t (steps_for cs)
  is_passed =
      subst (λ (o : Outcome (List Step)). PlanFits t (steps_in o)) read_plan_lem
      (passed t (accepted_good table t read_table_lem) plan last busy_total after_plan_lem)

  -- the jobs of a run are the plan's
  module _ (ds : List Doing) (run : RunOf cs (run_of ds)) where
    abbrev what : Took → Chosen
    what r = r.what

    count_is : length (steps_for cs) ≡ length ds
    count_is = length-map cs step_of ∙ ap length (sym run.each) ∙ length-map (run_of ds) what ∙ length-map ds (λ (d : Doing). d.took)

    step_is : (k : ℕ) → get_or (steps_for cs) k no_step ≡ step_of (doing_at ds k).took.what
    step_is k =
        let xs : steps_for (map what (run_of ds)) ≡ steps_for cs = ap steps_for run.each in
        let took = get_or-map (λ (d : Doing). d.took) ds k no_doing in
        let chosen = get_or-map what (run_of ds) k no_doing.took ∙ ap what took in
        rw (← xs) (get_or-map step_of (map what (run_of ds)) k no_choice ∙ ap step_of chosen)

    each_job : (j : Job) → Memᴰ j t.jobs → (k : ℕ) × (k < length ds) × (done_job ds k ≡ j)
    each_job j m =
        let listed : Memᴰ j (map the_job cs) = member_all _ (perm_members (Permᴰ.symm w.exactly.each)) m in
        let ran : Memᴰ j (map the_job (map what (run_of ds))) = subst (λ (l : List Chosen). Memᴰ j (map the_job l)) (sym run.each) listed in
        let c = mathlib.Core.List.Memᴰ.of_map the_job (map what (run_of ds)) ran in
        let q = mathlib.Core.List.Memᴰ.of_map what (run_of ds) c.1 in
        let d = mathlib.Core.List.Memᴰ.of_map (λ (d : Doing). d.took) ds q.1 in
        let k = member_at d.1 in
        (k.0, k.1, ap (λ (x : Doing). x.took.what.job) k.2 ∙ ap (λ (r : Took). r.what.job) d.2 ∙ ap the_job q.2 ∙ c.2)

-- a run that is on time: each finish is at most D
finish_fits : (D t : ℕ) (ds : List Doing) → OnTime D t (run_of ds) → (k : ℕ) → k < length ds → t + back_time ds k ≤ D
unfolding span_time
finish_fits D t [] o k h = absurd (omega arith)
finish_fits D t (d ∷ ds) o zero h = omega (arith, o.0)
finish_fits D t (d ∷ ds) o (suc k) h = omega (arith, finish_fits D (t + d.took.spent) ds o.1 k (omega arith))

-- ---- sequences

history_append : (h : History) (xs ys : List Turn) → history h (xs ++ ys) ≡ history (history h xs) ys
unfolding history
history_append h [] ys = refl
history_append h (x ∷ xs) ys = history_append (told h x.call x.said) xs ys

-- reads change nothing
only_reads : (b : Last) (us : List Turn) → OnlyReads us → history (closed b) us ≡ closed b
unfolding history
only_reads b [] r = refl
only_reads b (u ∷ us) r = rw (step u.call r.0.1 (is_accepted u.said)) (only_reads b us r.1)
  where
    step : (c : Call) → c ≡ event (E.Read r.0.0) → (w : Bool) → cond w (accepts (closed b) c) (closed b) ≡ closed b
    step c e true = rw e
    step c e false = refl

-- ---- the frame's turns, one after the other

module _ (number : ℕ) (t : JobTable) (xs : List Step) (p : PlanFits t xs) (ds : List Doing) (counted : length xs ≡ length ds)
    (step_at_lem : (k : ℕ) → get_or xs k no_step ≡ step_of (doing_at ds k).took.what)
    (fits : (k : ℕ) → k < length ds → back_time ds k ≤ t.deadline) (finite : (k : ℕ) → k < length ds → finite? (value_at ds k) ≡ true) where
  abbrev Goes : ℕ → List ℕ → ℕ → Last → Type 0
  Goes = Going number t xs p ds counted step_at_lem

  abbrev Ends : History → Type 0
  Ends idle = ⊥
  Ends (opened b) = Ended number t xs p ds counted step_at_lem b
  Ends (closed b) = ⊥

  -- a turn whose call and answer are known
  next_is : (b : Last) (u : Turn) (c : Call) (s : Reply) → u.call ≡ c → u.said ≡ s → told (opened b) u.call u.said ≡ told (opened b) c s
  next_is b u c s e q = rw (e, q)

  runs :
      {n : ℕ} {home : List ℕ} {now : ℕ} {us : List Turn} (q : Plays number ds n home now us) (b : Last) → Goes n home now b →
      Replied (opened b) us → AllDone q × Ends (history (opened b) us)
  unfolding AllDone history
  runs (over all back) b g r = (tt, all_ended number t xs p ds counted step_at_lem g all back)
  runs (quiet {u = u} {us = us} z q) b g (said, r) =
      let stays = quiet_goes number t xs p ds counted step_at_lem g u said z in
      let w = runs q b g (subst (λ (h : History). Replied h us) stays r) in
      (w.0, subst (λ (h : History). Ends (history h us)) (sym stays) w.1)
  runs {n} (spans {u = u} {us = us} {v = v} is inside later own q) b g (said, r) =
      let k = span_goes number t xs p ds counted step_at_lem g v inside later (omega (arith, fits n inside)) own (finite n inside) in
      let answer : u.said ≡ done = said ∙ ap (reply (opened b)) is ∙ k.0 in
      let e = next_is b u (span_call ds n v) done is answer in
      let w = runs q _ k.1 (subst (λ (h : History). Replied h us) e r) in
      ((answer, w.0), subst (λ (h : History). Ends (history h us)) (sym e) w.1)
  runs (backs {u = u} {us = us} {k = i} is ended away out later q) b g (said, r) =
      let inside : i < length ds = omega (arith, few_ended number t xs p ds counted step_at_lem g) in
      let k = back_goes number t xs p ds counted step_at_lem g i ended away out later (fits i inside) (finite i inside) in
      let answer : u.said ≡ done = said ∙ ap (reply (opened b)) is ∙ k.0 in
      let e = next_is b u (back_call number ds i) done is answer in
      let w = runs q _ k.1 (subst (λ (h : History). Replied h us) e r) in
      ((answer, w.0), subst (λ (h : History). Ends (history h us)) (sym e) w.1)

  -- ---- the readings

  reads_now : (h : History) → Ends h → (k : ℕ) → k < length ds → reply h (event (E.Read (id_at ds k))) ≡ fresh number (value_at ds k)
  reads_now idle w k h = absurd w
  reads_now (opened b) w k h = own_read number t xs p ds counted step_at_lem b w.kept (says (0 ∷ 1 ∷ [])) k h
  reads_now (closed b) w k h = absurd w

  module _ (time : ℕ) (late : t.deadline ≤ time) where
    abbrev shuts : Call
    shuts = event (E.Close time)

    close_now : (h : History) → Ends h → reply h shuts ≡ done
    close_now idle w = absurd w
    close_now (opened b) w = own_close number t xs p ds counted step_at_lem b w time late
    close_now (closed b) w = absurd w

    reads_then :
        (h : History) → Ends h → (us : List Turn) → OnlyReads us → (k : ℕ) → k < length ds →
        reply (history (told h shuts done) us) (event (E.Read (id_at ds k))) ≡ fresh number (value_at ds k)
    reads_then idle w us r k h = absurd w
    reads_then (opened b) w us r k h =
        let l = shut number t xs p ds counted step_at_lem b w time late in
        rw (only_reads l us r)
        (own_read number t xs p ds counted step_at_lem l (kept_shut number t xs p ds counted step_at_lem b w time late) (says (0 ∷ 3 ∷ [])) k h)
    reads_then (closed b) w us r k h = absurd w

  -- of every longer sequence
  module _ (ts : List Turn) (w : Ends (history idle ts)) where
    open_own : OwnValues number ds ts
    open_own k h r rest run = reply_told ts (record { call = event (E.Read (id_at ds k)); said = r }) rest run ∙ reads_now (history idle ts) w k h

    module _ (time : ℕ) (late : t.deadline ≤ time) where
      close_own : Answers ts (event (E.Close time)) done
      close_own r rest run = reply_told ts (record { call = event (E.Close time); said = r }) rest run ∙ close_now time late (history idle ts) w

      closed_own : (s : Reply) (us : List Turn) → OnlyReads us → OwnValues number ds (ts ++ (record { call = event (E.Close time); said = s } ∷ us))
      unfolding history
      closed_own s us only k h r rest run =
          let c : Turn = record { call = event (E.Close time); said = s } in
          let u : Turn = record { call = event (E.Read (id_at ds k)); said = r } in
          let shut_run : FromIdle (ts ++ (c ∷ (us ++ (u ∷ rest)))) = rw (append_assoc ts (c ∷ us) (u ∷ rest)) at run in
          let accepted : s ≡ done = close_own s (us ++ (u ∷ rest)) shut_run in
          let is = reply_told (ts ++ (c ∷ us)) u rest run in
          is ∙ ap (λ (h : History). reply h u.call) (history_append idle ts (c ∷ us)) ∙
          ap (λ (x : Reply). reply (history (told (history idle ts) (event (E.Close time)) x) us) u.call) accepted ∙
          reads_then time late (history idle ts) w us only k h

-- ---- own value

after_begin :
    (before : List Turn) (c : Turn) (us : List Turn) → history idle (before ++ (c ∷ us)) ≡ history (told (history idle before) c.call c.said) us
unfolding history
after_begin before c us = history_append idle before (c ∷ us)

-- the accepted begin opens the frame of its bytes
begun_is :
    {table plan : List ℕ} {t : JobTable} {cs : List Chosen} (w : PassingPlan table plan t cs) (before : List Turn) (number : ℕ) (s : Reply) → s ≡ done →
    told (history idle before) (begin table plan number) s ≡
    opened (record { number = number; table = t; to_come = steps_for cs; out = []; reports = []; clock = 0 })
begun_is {table} {plan} {t} {cs} w before number s e =
    rw (e, table_read_lem table (accepted t) w.is_table, plan_read_lem plan (accepted (steps_for cs)) w.is_plan)

-- No frame is open, the check passes and the number is above the last one begun; the jobs of the plan do what they may, with finite values;
-- and the turns after the begin are the run's events in time order, with quiet turns between them. Then the begin is accepted, every event is
-- accepted, and each job ends with its own value.
pub own_value :
    {table plan : List ℕ} {t : JobTable} {cs : List Chosen} → PassingPlan table plan t cs →
    (before : List Turn) (number : ℕ) → MayBegin before table plan number →
    (ds : List Doing) → RunOf cs (run_of ds) → All (λ (d : Doing). finite? d.value ≡ true) ds →
    (s : Reply) {us : List Turn} (q : Plays number ds 0 [] 0 us) →
    FromIdle (before ++ (record { call = begin table plan number; said = s } ∷ us)) →
    (s ≡ done) × AllDone q × EachOwn number t ds (before ++ (record { call = begin table plan number; said = s } ∷ us))
own_value {table} {plan} {t} {cs} w before number may ds run finite s {us} q turns =
    let c : Turn = record { call = begin table plan number; said = s } in
    let is : s ≡ done = (begin_iff before table plan number s us turns).1 may in
    let last = may.passes.0 in
    let total = may.passes.1 in
    let passes = may.passes.2 in
    let p = is_passed w last total passes in
    let counted = count_is w last total passes ds run in
    let steps = step_is w last total passes ds run in
    let fits : (k : ℕ) → k < length ds → back_time ds k ≤ t.deadline =
    λ k h. omega (arith, finish_fits t.deadline 0 ds (on_time w last total passes (run_of ds) run) k h) in
    let values = all_at (λ (d : Doing). finite? d.value ≡ true) ds no_doing finite in
    let opens = begun_is w before number s is in
    let g = begun_goes number t (steps_for cs) p ds counted steps in
    let r = runs number t (steps_for cs) p ds counted steps fits values q _ g (subst (λ (h : History). Replied h us) opens (replied before (c ∷ us) turns).1) in
    let ends = subst (Ends number t (steps_for cs) p ds counted steps fits values)
    (sym (after_begin before c us ∙ ap (λ (h : History). history h us) opens)) r.1 in
    let ts = before ++ (c ∷ us) in (
      is,
      r.0,
      record {
        each = each_job w last total passes ds run;
        open_reads = open_own number t (steps_for cs) p ds counted steps fits values ts ends;
        closes = close_own number t (steps_for cs) p ds counted steps fits values ts ends;
        closed_reads = closed_own number t (steps_for cs) p ds counted steps fits values ts ends;
      },
    )
