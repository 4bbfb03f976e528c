-- "every record reached by calls from idle is sound": a record in which one job has moved on, a closed one and a begun one are as listed, and
-- so each call keeps a record sound. Assumes nothing.
use Rattle.std.specs.Prelude.{Some}
use Prim.Native.Nat.{ℕ, ◌+◌, ◌≤◌, ◌<◌}
use native.Mathlib.Omega.{arith}
use mathlib.Core.Path.{◌≡◌, refl, sym, ◌∙◌, ap, subst}
use mathlib.Core.Bool.{Bool, true, false, cond}
use mathlib.Core.List.{List, [], ◌∷◌}
use borrow.Author.Tests.{ltb-true, ltb-false, eqb-true, eqb-false}
use lib.ListN.{length, get_or, set, length-set, length-replicate}
use lib.Seq.{get_or-set_same, get_or-set_other}
use lib.Dec.{leb, ltb, eqb}
use lib.Ieee.{Float}
use Rattle.model.specs.declared.Job.{Job}
use Rattle.model.specs.Positions.{no_job}
use Rattle.table.specs.Tables.{JobTable, job_id}
use Rattle.plan.specs.declared.Step as plan
use Rattle.plan.specs.Plans.{no_step}
use Rattle.frame_record.specs.Finite.{finite?}
use Rattle.lookup.specs.Lookup.{position_of, indexed}
use Rattle.frame_record.specs.Sound.{none, entry_at, position_at, entry_id, sound?, open?}
use Rattle.frame_record.specs.Listed.{MayStand, plan_entry, Begun, SoundIn}
use Rattle.frame_record.specs.Answers.{idle}
use Rattle.frame_record.specs.Sound.{panel_position, panel_entry}
use Rattle.frame_reports.specs.Reports.{judge, standing, moved}
use Rattle.frame_calls.specs.Calls.{closed}
use Rattle.frame_begin.specs.Begin.{entry_of, entries_of, step_position, positions_of, begun}
use Rattle.frame_promises.specs.Call.{Call, called_of, after, reached}
use Rattle.frame_record.specs.declared.Phase.{Phase}
use Rattle.frame_record.specs.declared.Standing.{Standing}
use Rattle.frame_record.specs.declared.Standing.TheVariants.{Waiting, Out, Held, Late}
use Rattle.frame_record.specs.declared.Entry.{Entry}
use Rattle.frame_record.specs.declared.Frame.{Frame}
use Rattle.frame_record.specs.declared.Called.{Called}
use Rattle.lookup.proofs.Lookup.{first_below, first_has, first_some}
use Rattle.frame_begin.proofs.Passed.{PlanFits, JobFor}
use Rattle.frame_begin.proofs.Filled.{filled_at, filled_length}
use Rattle.frame_record.proofs.Sound.{sound_made, open_phase, open_parts}
use Rattle.frame_promises.proofs.Cases.{every_call}

-- ---- one job moves on

-- a value that is a number, at a job that the plan has passed
judge_stands : (n k next : ℕ) (away : Bool) (v : Float) → finite? v ≡ true → k < next → (b : Bool) →
    MayStand n k next away (cond b (Held (record { value = v; frame = n })) Late)
judge_stands n k next away v num h true = (h, refl, num)
judge_stands n k next away v num h false = h

-- one span more leaves the other jobs on the same side
others_stand : (n k next : ℕ) → (k ≡ next → ⊥) → (away : Bool) (s : Standing) → MayStand n k next away s → MayStand n k (next + 1) away s
others_stand n k next other away Waiting h = omega (arith, other)
others_stand n k next other away Out h = (omega (arith, h.0), h.1)
others_stand n k next other away (Held x) h = (omega (arith, h.0), h.1, h.2)
others_stand n k next other away Late h = omega arith

out_passed : (n k next : ℕ) (away : Bool) (s : Standing) → s ≡ Out → MayStand n k next away s → k < next
out_passed n k next away s is h = (subst (MayStand n k next away) is h).0

module _ (f : Frame) (b : Begun f) where
  -- two jobs of the plan that have one position in the table are one
  pub same_position : (i k : ℕ) → i < f.count → k < f.count → position_at f.order i ≡ position_at f.order k → i ≡ k
  same_position i k p q e = step (ltb i k) refl (ltb k i) refl
    where
      step : (x : Bool) → ltb i k ≡ x → (y : Bool) → ltb k i ≡ y → i ≡ k
      step true x y z = absurd (b.positions_differ i k (ltb-true i k x) q e)
      step false x true z = absurd (b.positions_differ k i (ltb-true k i z) p (sym e))
      step false x false z = omega (arith, ltb-false i k x, ltb-false k i z)

  module _ (sized : length f.entries ≡ 32) (at t next : ℕ) (s : Standing) (inside : at < f.count) where
    abbrev new : List Entry
    new = set f.entries at (standing (entry_at f.entries at) s)

    pub moved_here : entry_at new at ≡ standing (entry_at f.entries at) s
    moved_here = get_or-set_same f.entries at (standing (entry_at f.entries at) s) none (omega (arith, b.room))

    pub moved_other : (i : ℕ) → (i ≡ at → ⊥) → entry_at new i ≡ entry_at f.entries i
    moved_other i h = get_or-set_other f.entries at i (standing (entry_at f.entries at) s) none h

    -- a move leaves ids and choices
    moved_part :
        {A : Type 0} (p : Entry → A) → ((e : Entry) → p (standing e s) ≡ p e) →
        (i : ℕ) (w : Bool) → eqb i at ≡ w → p (entry_at new i) ≡ p (entry_at f.entries i)
    moved_part p stays i true is = rw (eqb-true i at is, moved_here) (stays (entry_at f.entries at))
    moved_part p stays i false is = ap p (moved_other i (eqb-false i at is))

    pub moved_id : (i : ℕ) → (entry_at new i).id ≡ (entry_at f.entries i).id
    moved_id i = moved_part entry_id (λ e. refl) i (eqb i at) refl

    pub moved_away : (i : ℕ) → (entry_at new i).away ≡ (entry_at f.entries i).away
    moved_away i = moved_part (λ (e : Entry). e.away) (λ e. refl) i (eqb i at) refl

    module _
        (up : next ≤ f.count)
        (mine : (k : ℕ) → k < f.count → position_at f.order k ≡ at → MayStand f.number k next (entry_at f.entries at).away s)
        (others :
        (k : ℕ) → k < f.count → (position_at f.order k ≡ at → ⊥) →
        (away : Bool) (x : Standing) → MayStand f.number k f.next away x → MayStand f.number k next away x) where
      stands_after :
          (k : ℕ) → k < f.count → (w : Bool) → eqb (position_at f.order k) at ≡ w →
          MayStand f.number k next (entry_at new (position_at f.order k)).away (entry_at new (position_at f.order k)).standing
      stands_after k h true is = let e = eqb-true (position_at f.order k) at is in rw (e, moved_here) (mine k h e)
      stands_after k h false is =
          let other = eqb-false (position_at f.order k) at is in
          rw (moved_other (position_at f.order k) other) (others k h other (plan_entry f k).away (plan_entry f k).standing (b.stands k h))

      pub moved_sound : Begun (moved f at t next s)
      moved_sound = record {
        room = b.room;
        reached = up;
        low = b.low;
        high = b.high;
        positions = b.positions;
        positions_differ = b.positions_differ;
        ids_differ = λ i k h q e. b.ids_differ i k h q (sym (moved_id i) ∙ e ∙ moved_id k);
        stands = λ k h. stands_after k h (eqb (position_at f.order k) at) refl;
      }

  pub closed_sound : (t : ℕ) → Begun (closed f t)
  closed_sound t = record {
    room = b.room;
    reached = b.reached;
    low = b.low;
    high = b.high;
    positions = b.positions;
    positions_differ = b.positions_differ;
    ids_differ = b.ids_differ;
    stands = b.stands;
  }

-- ---- a frame that opens

module _ (n : ℕ) (t : JobTable) (xs : List plan.Step) (p : PlanFits t xs) where
  abbrev js : List Job
  js = t.jobs

  abbrev count : ℕ
  count = length js

  abbrev es : List Entry
  es = entries_of js xs count

  abbrev order : List ℕ
  order = positions_of js xs count

  pub entry_at_lem : (i : ℕ) → i < count → entry_at es i ≡ entry_of xs count (get_or js i no_job)
  unfolding entries_of
  entry_at_lem i h = filled_at none (λ (k : ℕ). entry_of xs count (get_or js k no_job)) count i p.good.few h

  order_at : (k : ℕ) → k < count → position_at order k ≡ step_position js xs k
  unfolding positions_of
  order_at k h = filled_at 0 (step_position js xs) count k p.good.few h

  -- the k-th step's job is found where the order says
  found_by :
      (k : ℕ) → k < count → (m : ℕ) → position_of js (get_or xs k no_step).id ≡ Some m →
      position_of js (get_or xs k no_step).id ≡ Some (position_at order k)
  found_by k h m e = e ∙ ap Some (sym (order_at k h ∙ ap indexed e))

  found_at : (k : ℕ) → k < count → position_of js (get_or xs k no_step).id ≡ Some (position_at order k)
  found_at k h =
      let j : JobFor js (get_or xs k no_step).id = p.named k (omega (arith, p.enough)) in
      let m = first_some job_id no_job js (get_or xs k no_step).id 0 count j.at (omega arith) (omega (arith, j.inside)) j.same_id in
      found_by k h m.0 m.1

  pub position_inside : (k : ℕ) → k < count → position_at order k < count
  position_inside k h = omega (arith, first_below job_id no_job js (get_or xs k no_step).id 0 count (position_at order k) (found_at k h))

  pub has_id : (k : ℕ) → k < count → (entry_at es (position_at order k)).id ≡ (get_or xs k no_step).id
  has_id k h =
      ap entry_id (entry_at_lem (position_at order k) (position_inside k h)) ∙
      first_has job_id no_job js (get_or xs k no_step).id 0 count (position_at order k) (found_at k h)

  same_step : (i k : ℕ) → i < k → k < count → position_at order i ≡ position_at order k → (get_or xs i no_step).id ≡ (get_or xs k no_step).id
  same_step i k h q e = sym (has_id i (omega arith)) ∙ ap (λ (m : ℕ). (entry_at es m).id) e ∙ has_id k q

  same_job : (i k : ℕ) → i < k → k < count → (entry_at es i).id ≡ (entry_at es k).id → (get_or js i no_job).id ≡ (get_or js k no_job).id
  same_job i k h q e = sym (ap entry_id (entry_at_lem i (omega arith))) ∙ e ∙ ap entry_id (entry_at_lem k q)

  pub begun_sound : Begun (begun n t xs)
  unfolding begun
  begun_sound = record {
    room = p.good.few;
    reached = omega arith;
    low = p.good.low;
    high = p.good.high;
    positions = position_inside;
    positions_differ = λ i k h q e. p.steps_differ i k h (omega (arith, p.enough)) (same_step i k h q e);
    ids_differ = λ i k h q e. p.jobs_differ i k h q (same_job i k h q e);
    stands = λ k h. rw (entry_at_lem (position_at order k) (position_inside k h)) (omega arith);
  }

  begun_test : sound? (begun n t xs) ≡ true
  unfolding begun
  begun_test = sound_made (begun n t xs) begun_sound

  begun_sized : length (begun n t xs).entries ≡ 32
  unfolding begun entries_of
  begun_sized = filled_length none (λ (k : ℕ). entry_of xs count (get_or js k no_job)) count

-- ---- each call

-- a sound record, with the room of its array
pub record Fine (f : Frame) : Type 0 where
  pub sound : sound? f ≡ true
  pub sized : length f.entries ≡ 32

abbrev FineAfter : Called → Type 0
FineAfter s = Fine s.frame

module _ (f : Frame) (fine : Fine f) where
  module _ (o : open? f ≡ true) where
    abbrev b : Begun f
    b = open_parts f o

    moved_fine : (at t next : ℕ) (s : Standing) → Begun (moved f at t next s) → Fine (moved f at t next s)
    moved_fine at t next s g = record {
      sound = sound_made (moved f at t next s) (subst (λ (p : Phase). SoundIn p (moved f at t next s)) (sym (open_phase f o)) g);
      sized = length-set f.entries at (standing (entry_at f.entries at) s) ∙ fine.sized;
    }

    span_fine :
        (t : ℕ) (s : Standing) → f.next < f.count →
        ((k : ℕ) → k < f.next + 1 → MayStand f.number k (f.next + 1) (panel_entry f).away s) →
        Fine (moved f (panel_position f) t (f.next + 1) s)
    span_fine t s h ok =
        moved_fine (panel_position f) t (f.next + 1) s
        (moved_sound f b fine.sized (panel_position f) t (f.next + 1) s (b.positions f.next h) (omega arith)
        (λ k q e. ok k (omega (arith, same_position f b k f.next q h e)))
        (λ k q e. others_stand f.number k f.next (λ is. e (ap (position_at f.order) is))))

    back_fine :
        (i : ℕ) → i < f.count → (entry_at f.entries i).standing ≡ Out → (t : ℕ) (v : Float) → finite? v ≡ true →
        Fine (moved f i t f.next (judge v f.number t f.deadline))
    back_fine i h out t v num =
        moved_fine i t f.next (judge v f.number t f.deadline)
        (moved_sound f b fine.sized i t f.next (judge v f.number t f.deadline) h b.reached
        (λ k q e. judge_stands f.number k f.next (entry_at f.entries i).away v num (was_out k q e) (leb t f.deadline))
        (λ k q e away x w. w))
      where
        was_out : (k : ℕ) → k < f.count → position_at f.order k ≡ i → k < f.next
        was_out k q e = out_passed f.number k f.next (plan_entry f k).away (plan_entry f k).standing (rw e out) (b.stands k q)

  pub call_fine : (c : Call) → FineAfter (called_of c f)
  call_fine = every_call f FineAfter (record {
    refuses = λ r. fine;
    asks = λ a. fine;
    goes_out = λ o h away t. span_fine o t Out h (λ k q. (q, away));
    has_value = λ o h t v num.
        span_fine o t (judge v f.number t f.deadline) h
        (λ k q. judge_stands f.number k (f.next + 1) (panel_entry f).away v num q (leb t f.deadline));
    comes_back = back_fine;
    closes = λ o t. record { sound = sound_made (closed f t) (closed_sound f (open_parts f o) t); sized = fine.sized };
    begins = λ n t xs p. record { sound = begun_test n t xs p; sized = begun_sized n t xs p };
  })

after_fine : (cs : List Call) (f : Frame) → Fine f → Fine (after f cs)
unfolding after
after_fine [] f fine = fine
after_fine (c ∷ cs) f fine = after_fine cs (called_of c f).frame (call_fine f fine c)

pub idle_fine : Fine idle
idle_fine = record { sound = sound_made idle tt; sized = length-replicate 32 none }

-- every record reached by calls from idle is sound
pub reached_sound : (cs : List Call) → sound? (reached cs) ≡ true
reached_sound cs = (after_fine cs idle idle_fine).sound
