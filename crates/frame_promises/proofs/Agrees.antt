-- What ties the runner's record to the history of its calls: the record of a frame is its begin's, with what was accepted since.
-- Assumes nothing.
use Prim.Native.Nat.{ℕ, ◌+◌, ◌<◌}
use native.Mathlib.Omega.{arith}
use mathlib.Core.Path.{◌≡◌, refl, sym, ◌∙◌, ap}
use mathlib.Core.Bool.{Bool, true, false, cond}
use mathlib.Core.List.{List, [], ◌∷◌}
use Rattle.std.specs.Prelude.{Option, Some, None}
use borrow.Author.Tests.{ltb-true, ltb-false, eqb-true, eqb-false}
use lib.ListN.{length, get_or, set, drop}
use lib.Dec.{leb, ltb, eqb}
use lib.Ieee.{Float}
use Rattle.model.specs.Positions.{no_job}
use Rattle.model.proofs.Lists.{clash}
use Rattle.records.specs.Records.{used}
use Rattle.table.specs.Tables.{JobTable}
use Rattle.plan.specs.declared.Step as plan
use Rattle.plan.specs.Plans.{step_id, no_step}
use Rattle.frame_record.specs.Sound.{entry_at, position_at, entry_id, open?}
use Rattle.frame_record.specs.Listed.{MayStand, plan_entry}
use Rattle.frame_record.specs.Sound.{panel_position, panel_entry}
use Rattle.frame_reports.specs.Reports.{judge, standing, moved}
use Rattle.frame_calls.specs.Calls as calls
use Rattle.frame_begin.specs.Begin.{away_in, away_of, entries_of, positions_of, begun}
use Rattle.frame_record.specs.declared.Phase.TheVariants.{Idle, Open, Closed}
use Rattle.frame_record.specs.declared.Standing.{Standing}
use Rattle.frame_record.specs.declared.Standing.TheVariants.{Waiting, Out, Held, Late}
use Rattle.frame_record.specs.declared.Entry.{Entry}
use Rattle.frame_record.specs.declared.Frame.{Frame}
use Rattle.frame_record.specs.declared.Event.TheVariants as E
use Rattle.lookup.proofs.Lookup.{first_found}
use Rattle.frame_begin.proofs.Passed.{PlanFits}
use Rattle.frame_record.proofs.Sound.{open_parts}
use Rattle.frame_promises.proofs.Reached.{Fine, moved_here, moved_other, moved_id, moved_away, entry_at_lem, position_inside, has_id}
use Rattle.frame_promises.specs.History.{Report, Last, History, idle, opened, closed, since, report_of, happens}
use Rattle.frame_promises.proofs.Laws.{used_head, used_tail, without_gone, without_other, report_same, report_other}

-- what a job stands at, by whether it is out and by its latest report: none, and it waits or is out; else what its time makes of its value
abbrev pub Unheard : Bool → Standing → Type 0
Unheard out Waiting = out ≡ false
Unheard out Out = out ≡ true
Unheard out (Held x) = ⊥
Unheard out Late = ⊥

abbrev pub Stood : ℕ → ℕ → Bool → Option Report → Standing → Type 0
Stood number deadline out None s = Unheard out s
Stood number deadline out (Some r) s = (s ≡ judge r.value number r.time deadline) × (out ≡ false)

pub record Agrees (f : Frame) (b : Last) : Type 0 where
  pub numbered : f.number ≡ b.number
  pub clocked : f.clock ≡ b.clock
  pub due : f.deadline ≡ b.table.deadline
  pub counted : f.count ≡ length b.table.jobs
  pub jobs : (i : ℕ) → i < f.count → (entry_at f.entries i).id ≡ (get_or b.table.jobs i no_job).id
  -- the plan, of which what is to come is left
  pub plan : List plan.Step
  pub planned : f.count ≡ length plan
  pub steps : (k : ℕ) → k < f.count → (plan_entry f k).id ≡ (get_or plan k no_step).id
  pub choices : (k : ℕ) → k < f.count → (plan_entry f k).away ≡ (get_or plan k no_step).away
  pub left : b.to_come ≡ drop f.next plan
  pub stands :
      (i : ℕ) → i < f.count →
      Stood f.number f.deadline (used b.out (entry_at f.entries i).id) (report_of b.reports (entry_at f.entries i).id)
      (entry_at f.entries i).standing
  pub strangers : (id : ℕ) → ((i : ℕ) → i < f.count → (entry_at f.entries i).id ≡ id → ⊥) → used b.out id ≡ false

abbrev pub Tells : Frame → History → Type 0
Tells f idle = f.phase ≡ Idle
Tells f (opened b) = (f.phase ≡ Open) × Agrees f b
Tells f (closed b) = (f.phase ≡ Closed) × Agrees f b

-- ---- a job's new standing

unpassed : (number k : ℕ) (away : Bool) (s : Standing) → MayStand number k k away s → s ≡ Waiting
unpassed number k away Waiting h = refl
unpassed number k away Out h = absurd (omega (arith, h.0))
unpassed number k away (Held x) h = absurd (omega (arith, h.0))
unpassed number k away Late h = absurd (omega arith)

-- a job that waits has not been heard of
unheard_of : (number deadline : ℕ) (out : Bool) (o : Option Report) (s : Standing) → s ≡ Waiting → Stood number deadline out o s → o ≡ None
unheard_of number deadline out None s is w = refl
unheard_of number deadline out (Some r) s is w = step (leb r.time deadline) (sym is ∙ w.0)
  where
    step : (b : Bool) → Waiting ≡ cond b (Held (record { value = r.value; frame = number })) Late → Some r ≡ None
    step true e = clash (cc)
    step false e = clash (cc)

module _ (f : Frame) (fine : Fine f) (o : open? f ≡ true) (b : Last) (a : Agrees f b) where
  module _ (at : ℕ) (inside : at < f.count) (t next : ℕ) (s : Standing) where
    abbrev new : List Entry
    new = set f.entries at (standing (entry_at f.entries at) s)

    abbrev mine : ℕ
    mine = (entry_at f.entries at).id

    here : entry_at new at ≡ standing (entry_at f.entries at) s
    here = moved_here f (open_parts f o) fine.sized at t next s inside

    other : (i : ℕ) → (i ≡ at → ⊥) → entry_at new i ≡ entry_at f.entries i
    other i h = moved_other f (open_parts f o) fine.sized at t next s inside i h

    ids : (i : ℕ) → (entry_at new i).id ≡ (entry_at f.entries i).id
    ids i = moved_id f (open_parts f o) fine.sized at t next s inside i

    other_id : (i : ℕ) → i < f.count → (i ≡ at → ⊥) → mine ≡ (entry_at f.entries i).id → ⊥
    other_id i h apart e = step (ltb i at) refl (ltb at i) refl
      where
        step : (x : Bool) → ltb i at ≡ x → (y : Bool) → ltb at i ≡ y → ⊥
        step true p y q = (open_parts f o).ids_differ i at (ltb-true i at p) inside (sym e)
        step false p true q = (open_parts f o).ids_differ at i (ltb-true at i q) h e
        step false p false q = apart (omega (arith, ltb-false i at p, ltb-false at i q))

    -- one job has a new standing, as is told of it, and what is told of the others is as before
    module _ (xs : List plan.Step) (out : List ℕ) (rs : List Report)
        (left : xs ≡ drop next a.plan) (stood : Stood f.number f.deadline (used out mine) (report_of rs mine) s)
        (heard : (id : ℕ) → (mine ≡ id → ⊥) → report_of rs id ≡ report_of b.reports id)
        (away : (id : ℕ) → (mine ≡ id → ⊥) → used out id ≡ used b.out id) where
      stands_now :
          (i : ℕ) → i < f.count → (w : Bool) → eqb i at ≡ w →
          Stood f.number f.deadline (used out (entry_at new i).id) (report_of rs (entry_at new i).id) (entry_at new i).standing
      stands_now i h true is = rw (eqb-true i at is, here) stood
      stands_now i h false is =
          let apart = other_id i h (eqb-false i at is) in
          rw (other i (eqb-false i at is), heard (entry_at f.entries i).id apart, away (entry_at f.entries i).id apart) (a.stands i h)

      pub moves : Agrees (moved f at t next s) (since b t xs out rs)
      moves = record {
        numbered = a.numbered;
        clocked = refl;
        due = a.due;
        counted = a.counted;
        jobs = λ i h. ids i ∙ a.jobs i h;
        plan = a.plan;
        planned = a.planned;
        steps = λ k h. ids (position_at f.order k) ∙ a.steps k h;
        choices = λ k h. moved_away f (open_parts f o) fine.sized at t next s inside (position_at f.order k) ∙ a.choices k h;
        left = left;
        stands = λ i h. stands_now i h (eqb i at) refl;
        strangers = λ id None.
            away id (λ e. None at inside (ids at ∙ e)) ∙ a.strangers id (λ i h e. None i h (ids i ∙ e));
      }

    -- with a report of that job, which is out no longer
    module _ (xs : List plan.Step) (left : xs ≡ drop next a.plan) (id : ℕ) (is : mine ≡ id) (v : Float) where
      abbrev report : Report
      report = record { job = id; time = t; value = v }

      hears :
          (out : List ℕ) → used out id ≡ false → ((j : ℕ) → (id ≡ j → ⊥) → used out j ≡ used b.out j) →
          s ≡ judge v f.number t f.deadline → Agrees (moved f at t next s) (since b t xs out (report ∷ b.reports))
      hears out gone others made =
          moves xs out (report ∷ b.reports) left
          (rw (is, report_same report b.reports id refl) (made, gone))
          (λ j apart. report_other report b.reports j (λ e. apart (is ∙ e)))
          (λ j apart. others j (λ e. apart (is ∙ e)))

  -- ---- the job on the panel

  module _ (within : f.next < f.count) where
    abbrev position : ℕ
    position = panel_position f

    position_in : position < f.count
    position_in = (open_parts f o).positions f.next within

    waiting : (panel_entry f).standing ≡ Waiting
    waiting = unpassed f.number f.next (panel_entry f).away (panel_entry f).standing ((open_parts f o).stands f.next within)

    abbrev panel_out : Bool
    panel_out = used b.out (panel_entry f).id

    pub silent : report_of b.reports (panel_entry f).id ≡ None
    silent =
        unheard_of f.number f.deadline panel_out (report_of b.reports (panel_entry f).id) (panel_entry f).standing waiting
        (a.stands position position_in)

    not_out : panel_out ≡ false
    not_out = rw (silent, waiting) at (a.stands position position_in)

    -- its span ends: it is out; it has its value
    pub goes_out :
        (t : ℕ) (xs : List plan.Step) → xs ≡ drop (f.next + 1) a.plan → (id : ℕ) → (panel_entry f).id ≡ id →
        Agrees (moved f position t (f.next + 1) Out) (since b t xs (id ∷ b.out) b.reports)
    goes_out t xs left id is =
        moves position position_in t (f.next + 1) Out xs (id ∷ b.out) b.reports left
        (rw silent (used_head id b.out (panel_entry f).id (sym is)))
        (λ j apart. refl) (λ j apart. used_tail id b.out j (λ e. apart (is ∙ e)))

    pub has_value :
        (t : ℕ) (v : Float) (xs : List plan.Step) → xs ≡ drop (f.next + 1) a.plan → (id : ℕ) → (panel_entry f).id ≡ id →
        Agrees (moved f position t (f.next + 1) (judge v f.number t f.deadline))
        (since b t xs b.out (record { job = id; time = t; value = v } ∷ b.reports))
    has_value t v xs left id is =
        hears position position_in t (f.next + 1) (judge v f.number t f.deadline) xs left id is v b.out (rw (← is) not_out) (λ j apart. refl) refl

  -- a job comes back
  pub comes_back :
      f.phase ≡ Open → (i : ℕ) → i < f.count → (n id t : ℕ) (v : Float) → (entry_at f.entries i).id ≡ id →
      Tells (moved f i t f.next (judge v f.number t f.deadline)) (happens b (E.Return n id t v))
  comes_back phase i h n id t v is = (
    phase,
    hears i h t f.next (judge v f.number t f.deadline) b.to_come a.left id is v _
        (without_gone b.out id) (without_other b.out id) refl,
  )

  pub is_closed : (t : ℕ) → Agrees (calls.closed f t) (since b t b.to_come b.out b.reports)
  is_closed t = record {
    numbered = a.numbered;
    clocked = refl;
    due = a.due;
    counted = a.counted;
    jobs = a.jobs;
    plan = a.plan;
    planned = a.planned;
    steps = a.steps;
    choices = a.choices;
    left = a.left;
    stands = a.stands;
    strangers = a.strangers;
  }

-- ---- a frame that opens

module _ (number : ℕ) (t : JobTable) (xs : List plan.Step) (p : PlanFits t xs) where
  abbrev N : ℕ
  N = length t.jobs

  abbrev es : List Entry
  es = entries_of t.jobs xs N

  abbrev order : List ℕ
  order = positions_of t.jobs xs N

  -- the plan's step of a job is found by its id
  sends : (k : ℕ) → k < N → away_in xs N (get_or xs k no_step).id ≡ (get_or xs k no_step).away
  unfolding away_in
  sends k h =
      ap (away_of xs)
      (first_found step_id no_step xs (get_or xs k no_step).id 0 N k (omega arith) (omega arith) refl
      (λ i _ q. p.steps_differ i k q (omega (arith, p.enough))))

  choice : (k : ℕ) → k < N → (entry_at es (position_at order k)).away ≡ (get_or xs k no_step).away
  choice k h =
      let e = entry_at_lem number t xs p (position_at order k) (position_inside number t xs p k h) in
      let id : (get_or t.jobs (position_at order k) no_job).id ≡ (get_or xs k no_step).id = sym (ap entry_id e) ∙ has_id number t xs p k h in
      ap (λ (x : Entry). x.away) e ∙ ap (away_in xs N) id ∙ sends k h

  pub begun_agrees : Agrees (begun number t xs) (record { number = number; table = t; to_come = xs; out = []; reports = []; clock = 0 })
  unfolding begun report_of used
  begun_agrees = record {
    numbered = refl;
    clocked = refl;
    due = refl;
    counted = refl;
    jobs = λ i h. ap entry_id (entry_at_lem number t xs p i h);
    plan = xs;
    planned = p.enough;
    steps = has_id number t xs p;
    choices = choice;
    left = refl;
    stands = λ i h. rw (entry_at_lem number t xs p i h) refl;
    strangers = λ id None. refl;
  }
