-- What a read says is told exactly by the turns before it: `reads_says`, and of a fresh reading what stands behind it: `safe`.
-- Assumes nothing.
use Prim.Native.Nat.{ℕ, ◌≤◌, ◌<◌}
use native.Mathlib.Omega.{arith}
use mathlib.Core.Path.{◌≡◌, refl, sym, ◌∙◌, ap, subst}
use mathlib.Core.Bool.{Bool, true, false, cond}
use mathlib.Core.Logic.{◌↔◌}
use mathlib.Core.List.Memᴰ
use mathlib.Core.List.{List, [], ◌∷◌, ◌++◌, Memᴰ}
use Rattle.std.specs.Prelude.{Option, Some, None}
use borrow.Author.Tests.{leb-true, leb-false, le-leb, lt-leb, eqb-true, eq-eqb}
use lib.Dec.{leb, eqb}
use lib.Ieee.{Float}
use Rattle.model.specs.declared.Job.{Job}
use Rattle.model.specs.Lists.{All}
use Rattle.model.proofs.Lists.{clash, member_all}
use Rattle.records.specs.Refusals as outcome
use Rattle.table.specs.Tables.{JobTable, read_table}
use Rattle.lookup.specs.Lookup.{job_of, with_key}
use Rattle.plan.specs.declared.Step as plan
use Rattle.plan.specs.Plans.{read_plan}
use Rattle.frame_record.specs.Answers.{Reply, says}
use Rattle.frame_promises.specs.Call.{begin, event}
use Rattle.frame_record.specs.declared.Event.TheVariants as E
use Rattle.frame_promises.specs.History.{Turn, Report, Last, History, idle, opened, closed, fresh, reading, read_in, reads, reply}
use Rattle.frame_promises.specs.History.{is_accepted, history, report_of}
use Rattle.frame_promises.specs.Runs.{FromIdle}
use Rattle.frame_promises.specs.Readings.{NoBegin, LastBegin, Reported, Unreported, Has, ReadSays, never_begun, no_job, is_fresh}
use Rattle.frame_promises.specs.Readings.{is_pending, is_late, is_missing, Behind}
use Rattle.frame_promises.proofs.Since.{Since, Traced}
use Rattle.frame_promises.proofs.Replies.{reads_told, traced}

-- ---- the job of an id

has_job : (js : List Job) (id : ℕ) (j : Job) → job_of js id ≡ Some j → Has js id
unfolding with_key
has_job [] id j e = clash (cc)
has_job (x ∷ js) id j e = step (eqb x.id id) refl e (has_job js id j)
  where
    step : (w : Bool) → eqb x.id id ≡ w → cond w (Some x) (job_of js id) ≡ Some j → (job_of js id ≡ Some j → Has js id) → Has (x ∷ js) id
    step true q e on = (x, Memᴰ.head refl, eqb-true x.id id q)
    step false q e on = let r = on e in (r.0, Memᴰ.tail r.1, r.2)

job_has : (js : List Job) (id : ℕ) (j : Job) → Memᴰ j js → j.id ≡ id → (i : Job) × (job_of js id ≡ Some i)
unfolding with_key
job_has [] id j m is = elim m [ ]
job_has (x ∷ js) id j (Memᴰ.head e) is = (x, rw (eq-eqb x.id id (ap (λ (y : Job). y.id) (sym e) ∙ is)))
job_has (x ∷ js) id j (Memᴰ.tail m) is = step (eqb x.id id) (job_has js id j m is)
  where
    step : (w : Bool) → (i : Job) × (job_of js id ≡ Some i) → (i : Job) × (cond w (Some x) (job_of js id) ≡ Some i)
    step true on = (x, refl)
    step false on = on

-- ---- there is one last accepted begin

record Begins (t : Turn) : Type 0 where
  table : List ℕ
  plan : List ℕ
  number : ℕ
  is_call : t.call ≡ begin table plan number
  accepted : is_accepted t.said ≡ true

begins : {ts since : List Turn} {number : ℕ} {jobs : JobTable} {steps : List plan.Step} (l : LastBegin ts number jobs steps since) → Begins l.turn
begins {number = number} l = record { table = l.table; plan = l.plan; number = number; is_call = l.is_begin; accepted = l.accepted }

no_begins : (t : Turn) → NoBegin t → Begins t → ⊥
no_begins t never b = never b.table b.plan b.number b.is_call b.accepted

behind : (front : List Turn) (t : Turn) (l : List Turn) → All NoBegin (front ++ (t ∷ l)) → Begins t → ⊥
behind front t l all b = no_begins t (member_all NoBegin all (Memᴰ.append_right front (Memᴰ.head refl))) b

one_split :
    (xs ys : List Turn) (t u : Turn) (l m : List Turn) → xs ++ (t ∷ l) ≡ ys ++ (u ∷ m) → All NoBegin l → All NoBegin m → Begins t → Begins u →
    (t ≡ u) × (l ≡ m)
one_split [] [] t u l m e p q b c = (cc, cc)
one_split [] (y ∷ ys) t u l m e p q b c = let z : l ≡ ys ++ (u ∷ m) = cc in absurd (behind ys u m (rw z at p) c)
one_split (x ∷ xs) [] t u l m e p q b c = let z : m ≡ xs ++ (t ∷ l) = cc in absurd (behind xs t l (rw z at q) b)
one_split (x ∷ xs) (y ∷ ys) t u l m e p q b c = one_split xs ys t u l m (cc) p q b c

pub record Same (n m : ℕ) (j k : JobTable) (xs ys : List plan.Step) (l r : List Turn) : Type 0 where
  pub numbers : n ≡ m
  pub tables : j ≡ k
  pub plans : xs ≡ ys
  pub turns : l ≡ r

pub same_begin :
    {ts l r : List Turn} {n m : ℕ} {j k : JobTable} {xs ys : List plan.Step} → LastBegin ts n j xs l → LastBegin ts m k ys r → Same n m j k xs ys l r
same_begin {l = l} {r = r} {n = n} {m = m} p q =
    let w = one_split p.before q.before p.turn q.turn l r (sym p.turns ∙ q.turns) p.last q.last (begins p) (begins q) in
    let calls : begin p.table p.plan n ≡ begin q.table q.plan m = sym p.is_begin ∙ ap (λ (t : Turn). t.call) w.0 ∙ q.is_begin in
    let same_table : p.table ≡ q.table = cc in
    let same_plan : p.plan ≡ q.plan = cc in
    let reads : outcome.accepted _ ≡ outcome.accepted _ = sym p.is_table ∙ ap read_table same_table ∙ q.is_table in
    let steps : outcome.accepted _ ≡ outcome.accepted _ = sym p.is_plan ∙ ap read_plan same_plan ∙ q.is_plan in
    record { numbers = cc; tables = cc; plans = cc; turns = w.1 }

pub never_and_last : {ts since : List Turn} {number : ℕ} {jobs : JobTable} {steps : List plan.Step} → All NoBegin ts → LastBegin ts number jobs steps since → ⊥
never_and_last {since = since} all l = behind l.before l.turn since (rw l.turns at all) (begins l)

-- ---- a frame that was begun

-- what is said of a job of which nothing was heard
abbrev unheard : Bool → Reply
unheard true = says (0 ∷ 3 ∷ [])
unheard false = says (0 ∷ 1 ∷ [])

module _ {ts : List Turn} {b : Last} (id : ℕ) where
  -- ---- what it says holds

  silent : {shut : Bool} (w : Since ts b shut) → report_of b.reports id ≡ None → Unreported w.later w.steps b.number id
  silent w e time v r = let x : Report = record { job = id; time = time; value = v } in let z : None ≡ Some x = sym e ∙ w.heard id time v r in clash (cc)

  unheard_says : (shut : Bool) (w : Since ts b shut) → Has b.table.jobs id → report_of b.reports id ≡ None → ReadSays ts id (unheard shut)
  unheard_says true w has e = is_missing w.begun has (silent w e) w.ended
  unheard_says false w has e = is_pending w.begun has (silent w e) w.ended

  timed_says :
      {shut : Bool} (w : Since ts b shut) → Has b.table.jobs id → (r : Report) → report_of b.reports id ≡ Some r → (q : Bool) →
      leb r.time b.table.deadline ≡ q → ReadSays ts id (cond q (fresh b.number r.value) (says (0 ∷ 2 ∷ [])))
  timed_says w has r e true early = is_fresh w.begun has (w.made id r e) (leb-true _ _ early)
  timed_says w has r e false late = is_late w.begun has (w.made id r e) (omega (arith, leb-false r.time b.table.deadline late))

  reading_says :
      (shut : Bool) (w : Since ts b shut) → Has b.table.jobs id → (o : Option Report) → report_of b.reports id ≡ o →
      ReadSays ts id (reading b (unheard shut) o)
  reading_says shut w has None e = unheard_says shut w has e
  reading_says shut w has (Some r) e = timed_says w has r e (leb r.time b.table.deadline) refl

  in_table_says : (shut : Bool) (w : Since ts b shut) (o : Option Job) → job_of b.table.jobs id ≡ o → ReadSays ts id (read_in b (unheard shut) id o)
  in_table_says shut w None e =
      no_job w.begun (λ h. let j = job_has b.table.jobs id h.0 h.1 h.2 in let z : None ≡ Some j.0 = sym e ∙ j.1 in clash (cc))
  in_table_says shut w (Some j) e = reading_says shut w (has_job b.table.jobs id j e) (report_of b.reports id) refl

  -- ---- and nothing else does

  module _ {n : ℕ} {jobs : JobTable} {steps : List plan.Step} {since : List Turn} {shut : Bool} (w : Since ts b shut)
      (l : LastBegin ts n jobs steps since) where
    same : Same n b.number jobs b.table steps w.steps since w.later
    same = same_begin l w.begun

    its_job : Has jobs.jobs id → (j : Job) × (job_of b.table.jobs id ≡ Some j)
    its_job h = job_has b.table.jobs id h.0 (subst (λ (t : JobTable). Memᴰ h.0 t.jobs) same.tables h.1) h.2

    its_report : (time : ℕ) (v : Float) → Reported since steps n id time v → report_of b.reports id ≡ Some (record { job = id; time = time; value = v })
    its_report time v r =
        w.heard id time v
        (subst (λ (x : List plan.Step). Reported w.later x b.number id time v) same.plans
        (subst (λ (x : ℕ). Reported w.later steps x id time v) same.numbers
        (subst (λ (x : List Turn). Reported x steps n id time v) same.turns r)))

    no_report : Unreported since steps n id → (o : Option Report) → report_of b.reports id ≡ o → o ≡ None
    no_report un None e = refl
    no_report un (Some r) e =
        absurd (un r.time r.value
        (subst (λ (x : List plan.Step). Reported since x n id r.time r.value) (sym same.plans)
        (subst (λ (x : ℕ). Reported since w.steps x id r.time r.value) (sym same.numbers)
        (subst (λ (x : List Turn). Reported x w.steps b.number id r.time r.value) (sym same.turns) (w.made id r e)))))

    not_there : (Has jobs.jobs id → ⊥) → (o : Option Job) → job_of b.table.jobs id ≡ o → o ≡ None
    not_there un None e = refl
    not_there un (Some j) e = absurd (un (subst (λ (t : JobTable). Has t.jobs id) (sym same.tables) (has_job b.table.jobs id j e)))

  only_says : (shut : Bool) (w : Since ts b shut) (q : Reply) → ReadSays ts id q → q ≡ reads b (unheard shut) id
  only_says shut w q (never_begun all) = absurd (never_and_last all w.begun)
  only_says shut w q (no_job l un) = rw (not_there w l un (job_of b.table.jobs id) refl)
  only_says shut w q (is_fresh {number = n} {jobs = jobs} l has {time = time} {v = v} r early) =
      let in_time : time ≤ b.table.deadline = rw (same w l).tables at early in
      rw ((its_job w l has).1, its_report w l time v r, le-leb time b.table.deadline in_time, (same w l).numbers)
  only_says shut w q (is_late {jobs = jobs} l has {time = time} {v = v} r late) =
      let over_time : b.table.deadline < time = rw (same w l).tables at late in
      rw ((its_job w l has).1, its_report w l time v r, lt-leb time b.table.deadline over_time)
  only_says true w q (is_pending l has un open_still) = absurd (open_still (rw (same w l).turns w.ended))
  only_says false w q (is_pending l has un open_still) = rw ((its_job w l has).1, no_report w l un (report_of b.reports id) refl)
  only_says true w q (is_missing l has un shut_then) = rw ((its_job w l has).1, no_report w l un (report_of b.reports id) refl)
  only_says false w q (is_missing l has un shut_then) = absurd (w.ended (rw (same w l).turns at shut_then))

-- ---- every history

said_of : (ts : List Turn) (h : History) → Traced ts h → (id : ℕ) → ReadSays ts id (reply h (event (E.Read id)))
said_of ts idle w id = never_begun w
said_of ts (opened b) w id = in_table_says id false w (job_of b.table.jobs id) refl
said_of ts (closed b) w id = in_table_says id true w (job_of b.table.jobs id) refl

only_of : (ts : List Turn) (h : History) → Traced ts h → (id : ℕ) (q : Reply) → ReadSays ts id q → q ≡ reply h (event (E.Read id))
only_of ts idle w id q (never_begun all) = refl
only_of ts idle w id q (no_job l un) = absurd (never_and_last w l)
only_of ts idle w id q (is_fresh l has r early) = absurd (never_and_last w l)
only_of ts idle w id q (is_late l has r late) = absurd (never_and_last w l)
only_of ts idle w id q (is_pending l has un open_still) = absurd (never_and_last w l)
only_of ts idle w id q (is_missing l has un shut_then) = absurd (never_and_last w l)
only_of ts (opened b) w id q r = only_says id false w q r
only_of ts (closed b) w id q r = only_says id true w q r

-- ---- the promises

module _ (before : List Turn) (id : ℕ) (r : Reply) (after : List Turn)
    (run : FromIdle (before ++ (record { call = event (E.Read id); said = r } ∷ after))) where
  -- a read says exactly what the turns before it tell
  pub reads_says : (q : Reply) → (r ≡ q) ↔ ReadSays before id q
  reads_says q =
      let h = history idle before in
      let w = traced before (record { call = event (E.Read id); said = r } ∷ after) run in
      let is = reads_told before r after id run in
      (λ e. subst (ReadSays before id) (sym is ∙ e) (said_of before h w id), λ s. is ∙ sym (only_of before h w id q s))

stands_behind : (ts : List Turn) (id : ℕ) (q : Reply) → ReadSays ts id q → (number : ℕ) (v : Float) → q ≡ fresh number v → Behind ts id number v
stands_behind ts id q (never_begun all) number v e = let z = ap (λ (s : Reply). s.numbers) e in clash (cc)
stands_behind ts id q (no_job l un) number v e = let z = ap (λ (s : Reply). s.numbers) e in clash (cc)
stands_behind ts id q (is_fresh {number = n} {jobs = js} {steps = xs} {since = on} l has {time = t} {v = u} r early) number v e =
    let z = ap (λ (s : Reply). s.numbers) e in
    let y = ap (λ (s : Reply). s.float) e in
    let numbers : n ≡ number = cc in
    let values : u ≡ v = cc in
    subst (λ (x : ℕ). Behind ts id x v) numbers
    (subst (λ (x : Float). Behind ts id n x) values (record { jobs = js; steps = xs; since = on; begun = l; time = t; reported = r; in_time = early }))
stands_behind ts id q (is_late l has r late) number v e = let z = ap (λ (s : Reply). s.numbers) e in clash (cc)
stands_behind ts id q (is_pending l has un open_still) number v e = let z = ap (λ (s : Reply). s.numbers) e in clash (cc)
stands_behind ts id q (is_missing l has un shut_then) number v e = let z = ap (λ (s : Reply). s.numbers) e in clash (cc)

-- the insurer's sentence: a read that says 0, 0, a number and a value
pub safe :
    (before : List Turn) (id number : ℕ) (v : Float) (after : List Turn) →
    FromIdle (before ++ (record { call = event (E.Read id); said = record { numbers = 0 ∷ 0 ∷ number ∷ []; float = Some v } } ∷ after)) →
    Behind before id number v
safe before id number v after run =
    stands_behind before id (fresh number v) ((reads_says before id (fresh number v) after run (fresh number v)).0 refl) number v refl
