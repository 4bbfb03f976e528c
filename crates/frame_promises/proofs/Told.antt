-- The runner answers every call as the calls before it say: one walk over every call, in which the record's tests and the history's agree.
-- Assumes nothing.
use Prim.Native.Nat.{ℕ, ◌+◌, ◌<◌}
use native.Mathlib.Omega.{arith}
use native.Mathlib.Numerals.{add-one}
use mathlib.Core.Path.{◌≡◌, refl, sym, ◌∙◌, ap, subst}
use mathlib.Core.Bool.{Bool, true, false, cond, not, ◌&&◌}
use mathlib.Core.List.{List, [], ◌∷◌}
use Rattle.std.specs.Prelude.{Option, Some, None, Result, Err, Ok}
use borrow.Author.Tests.{ltb-true, ltb-false}
use lib.ListN.{get_or, drop}
use lib.Seq.{drop-cons}
use lib.Dec.{leb, ltb, eqb}
use lib.Ieee.{Float}
use Rattle.model.proofs.Lists.{clash}
use Rattle.records.specs.declared.refusal.Refusal.{Refusal}
use Rattle.records.specs.declared.refusal.Refusal.TheVariants as R
use Rattle.records.specs.Records.{used}
use Rattle.records.specs.Refusals as outcome
use Rattle.records.specs.Refusals.{Outcome, accepted, refusal_says}
use Rattle.table.specs.Tables.{JobTable, read_table}
use Rattle.table.proofs.Accepted.{accepted_good}
use Rattle.plan.specs.declared.Step as plan
use Rattle.plan.specs.Plans.{no_step, read_plan}
use Rattle.judge.specs.Check.{Checked, pass}
use Rattle.judge.specs.Check.{after_plan, after_table, check_plan}
use Rattle.frame_record.specs.Finite.{finite?}
use Rattle.frame_record.specs.Sound as S
use Rattle.frame_record.specs.Sound.{entry_at, entry_id, open?, begun?, ready?}
use Rattle.frame_record.specs.Answers.{Reply, says, answer_says, refused}
use Rattle.frame_record.specs.Sound.{where_is, panel_entry}
use Rattle.frame_reports.specs.Reports.{judge, moved, span_at, span_step, return_at, back_to, back_step}
use Rattle.frame_calls.specs.Calls.{close_step, reading_of, read_at, read_of, next_of}
use Rattle.frame_record.specs.Answers as answers
use Rattle.frame_calls.specs.Calls as calls
use Rattle.frame_begin.specs.Begin.{steps_in, begun, may_open, begin_checked, begin_read, begin_step}
use Rattle.frame_promises.specs.Call.{Call, begin, event, called_of}
use Rattle.frame_record.specs.declared.Phase.{Phase}
use Rattle.frame_record.specs.declared.Phase.TheVariants.{Idle, Open, Closed}
use Rattle.frame_record.specs.declared.Standing.{Standing}
use Rattle.frame_record.specs.declared.Standing.TheVariants as stands
use Rattle.frame_record.specs.declared.Frame.{Frame}
use Rattle.frame_record.specs.declared.Answer.{Answer}
use Rattle.frame_record.specs.declared.Answer.TheVariants.{Panel, Rest, Read}
use Rattle.frame_record.specs.declared.Event.{Event}
use Rattle.frame_record.specs.declared.Event.TheVariants as E
use Rattle.frame_record.specs.declared.Called.{Called}
use Rattle.lookup.proofs.Lookup.{first_below, first_has, first_some}
use Rattle.model.proofs.Tests.{false_true}
use Rattle.frame_begin.proofs.Passed.{PlanFits, passed}
use Rattle.frame_promises.proofs.Reached.{Fine}
use Rattle.frame_promises.specs.History.{Report, Last, History, idle, opened, closed, done, refuse, begins, nexts, on_clock, valued, span_ends}
use Rattle.frame_promises.specs.History.{returns, closes, reading, reads, in_open, in_closed, reply, opens, accepts, is_accepted, told}
use Rattle.frame_promises.specs.History.{report_of}
use Rattle.frame_promises.proofs.Laws.{refused_told, in_table, not_in_table, drop_all}
use Rattle.frame_promises.proofs.Since.{Clear}
use Rattle.frame_promises.proofs.Agrees.{Stood, Agrees, Tells, silent, goes_out, has_value, comes_back, is_closed, begun_agrees}

-- a step fits a reply: it is what the answer says, and the record after it is that of the history after it
abbrev pub Fits : Call → History → Called → Reply → Type 0
Fits c h s r = (answer_says s.answer ≡ r) × Tells s.frame (told h c r)

module _ (c : Call) (h : History) where
  -- the same test of a step and of a reply
  same : (w : Bool) (x y : Called) (p q : Reply) → (w ≡ true → Fits c h x p) → (w ≡ false → Fits c h y q) → Fits c h (cond w x y) (cond w p q)
  same true x y p q f g = f refl
  same false x y p q f g = g refl

  both :
      (w z : Bool) → w ≡ z → (x y : Called) (p q : Reply) → (w ≡ true → Fits c h x p) → (w ≡ false → Fits c h y q) →
      Fits c h (cond w x y) (cond z p q)
  both w z e x y p q f g = rw (← e) (same w x y p q f g)

module _ (f : Frame) (fine : Fine f) where
  -- the tests of a sound record go by its phase
  open_is : (p : Phase) → f.phase ≡ p → open? f ≡ S.is_open p
  unfolding open?
  open_is p e = rw (fine.sound, e)

  begun_is : (p : Phase) → f.phase ≡ p → begun? f ≡ not (S.is_idle p)
  unfolding begun?
  begun_is p e = rw (fine.sound, e)

  ready_is : (p : Phase) → f.phase ≡ p → ready? f ≡ not (S.is_open p)
  unfolding ready?
  ready_is p e = rw (fine.sound, e)

  -- ---- a job by its id

  somewhere : (id i : ℕ) → where_is f id ≡ Some i → (i < f.count) × ((entry_at f.entries i).id ≡ id)
  unfolding where_is
  somewhere id i e =
      (omega (arith, first_below entry_id S.none f.entries id 0 f.count i e), first_has entry_id S.none f.entries id 0 f.count i e)

  nowhere : (id : ℕ) → where_is f id ≡ None → (i : ℕ) → i < f.count → (entry_at f.entries i).id ≡ id → ⊥
  unfolding where_is
  nowhere id e i h is =
      let m = first_some entry_id S.none f.entries id 0 f.count i (omega arith) (omega arith) is in clash (cc m.1)

  -- ---- a read

  module _ (b : Last) (a : Agrees f b) (unreported : Reply) (says_so : answer_says (Ok (Read (calls.unreported f.phase))) ≡ unreported) where
    heard :
        (p : Phase) (x : Report) (w : Bool) →
        answer_says (Ok (Read (reading_of p (cond w (stands.Held (record { value = x.value; frame = b.number })) stands.Late)))) ≡
        cond w (record { numbers = 0 ∷ 0 ∷ b.number ∷ []; float = Some x.value }) (says (0 ∷ 2 ∷ []))
    heard p x true = refl
    heard p x false = refl

    reading_is :
        (out : Bool) (o : Option Report) (s : Standing) → Stood f.number f.deadline out o s →
        answer_says (Ok (Read (reading_of f.phase s))) ≡ reading b unreported o
    reading_is out None stands.Waiting w = says_so
    reading_is out None stands.Out w = says_so
    reading_is out None (stands.Held x) w = absurd w
    reading_is out None stands.Late w = absurd w
    reading_is out (Some r) s w = rw (w.0, a.due, a.numbered) (heard f.phase r (leb r.time b.table.deadline))

    read_at_lem : (id : ℕ) (w : Option ℕ) → where_is f id ≡ w → answer_says (read_at f w) ≡ reads b unreported id
    read_at_lem id (Some i) e =
        let h = somewhere id i e in
        let j = in_table b.table.jobs id i (omega (arith, h.0, a.counted)) (sym (a.jobs i h.0) ∙ h.1) in
        rw j.1
        (reading_is (used b.out id) (report_of b.reports id) (entry_at f.entries i).standing (rw h.1 at (a.stands i h.0)))
    read_at_lem id None e =
        rw (not_in_table b.table.jobs id
        (λ i h is. nowhere id e i (omega (arith, h, a.counted)) (a.jobs i (omega (arith, h, a.counted)) ∙ is)))

    read_is : (id : ℕ) → begun? f ≡ true → answer_says (read_of f id) ≡ reads b unreported id
    unfolding read_of
    read_is id busy = rw busy (read_at_lem id (where_is f id) refl)

  -- ---- an open frame

  module _ (b : Last) (is : f.phase ≡ Open) (a : Agrees f b) where
    abbrev H : History
    H = opened b

    abbrev o : open? f ≡ true
    o = open_is Open is

    refuses : (c : Call) (r : Refusal) → Fits c H (refused r f) (says (refusal_says r))
    refuses c r = (refl, rw (refused_told H c r) (is, a))

    clock : (c : Call) (t : ℕ) (x : Called) (p : Reply) → Fits c H x p → Fits c H (answers.on_clock f t x) (on_clock b t p)
    clock c t x p e = both c H (ltb t f.clock) (ltb t b.clock) (ap (ltb t) a.clocked) _ _ _ _ (λ _. refuses c R.Clock) (λ _. e)

    -- a call that only asks changes nothing, whatever it is answered
    unchanged : (c : Call) → accepts H c ≡ H → (r : Reply) (w : Bool) → is_accepted r ≡ w → Tells f (cond w (accepts H c) H)
    unchanged c e r true q = rw e (is, a)
    unchanged c e r false q = (is, a)

    asked : (g : Result Answer Refusal) (r : Reply) → answer_says g ≡ r → (e : Event) → accepts H (event e) ≡ H → Fits (event e) H (calls.asked f g) r
    asked g r said e stays = (said, unchanged (event e) stays r (is_accepted r) refl)

    -- what is to come, by whether a job is on the panel
    now : f.next < f.count → b.to_come ≡ get_or a.plan f.next no_step ∷ drop (f.next + 1) a.plan
    now h = a.left ∙ rw (add-one) (drop-cons a.plan f.next no_step (omega (arith, a.planned)))

    over : ltb f.next f.count ≡ false → b.to_come ≡ []
    over e = a.left ∙ drop_all a.plan f.next (omega (arith, ltb-false f.next f.count e, a.planned))

    next_said : answer_says (next_of f) ≡ nexts b.to_come
    unfolding next_of
    next_said = rw o (at (ltb f.next f.count) refl)
      where
        at :
            (w : Bool) → ltb f.next f.count ≡ w →
            answer_says (cond w (Ok (Panel (panel_entry f).id (panel_entry f).away)) (Ok Rest)) ≡ nexts b.to_come
        at true e = let h : f.next < f.count = ltb-true _ _ e in rw (now h, a.steps f.next h, a.choices f.next h)
        at false e = rw (over e)

    -- a span's end
    module _ (id t : ℕ) (v : Float) where
      abbrev C : Call
      C = event (E.SpanEnd id t v)

      -- the job on the panel, whose step is x
      module _ (h : f.next < f.count) (x : plan.Step) (xs : List plan.Step) (e : b.to_come ≡ x ∷ xs)
          (rest : xs ≡ drop (f.next + 1) a.plan) (named : (panel_entry f).id ≡ x.id) where
        span_at_lem :
            (away : Bool) → x.away ≡ away →
            Fits C H (span_at f t v away) (cond x.away done (valued v))
        span_at_lem true w = rw w (refl, rw (e, w) (is, goes_out f fine o b a h t xs rest x.id named))
        span_at_lem false w =
            rw w
            (same C H (finite? v) _ _ _ _
            (λ _. (refl, rw (e, w) (is, has_value f fine o b a h t v xs rest x.id named)))
            (λ _. refuses C R.Value))

        on_it :
            (panel_entry f).away ≡ x.away →
            Fits C H (cond (eqb (panel_entry f).id id) (span_at f t v (panel_entry f).away) (refused R.Who f)) (span_ends (x ∷ xs) id v)
        on_it away =
            both C H (eqb (panel_entry f).id id) (eqb x.id id) (ap (λ (i : ℕ). eqb i id) named) _ _ _ _
            (λ _. span_at_lem (panel_entry f).away (sym away)) (λ _. refuses C R.Who)

      on_panel :
          (w : Bool) → ltb f.next f.count ≡ w →
          Fits C H (cond (w && eqb (panel_entry f).id id) (span_at f t v (panel_entry f).away) (refused R.Who f)) (span_ends b.to_come id v)
      on_panel true e =
          let h : f.next < f.count = ltb-true _ _ e in
          subst (λ (l : List plan.Step). Fits C H (cond (eqb (panel_entry f).id id) (span_at f t v (panel_entry f).away) (refused R.Who f)) (span_ends l id v))
          (sym (now h)) (on_it h (get_or a.plan f.next no_step) (drop (f.next + 1) a.plan) (now h) refl (a.steps f.next h) (a.choices f.next h))
      on_panel false e =
          subst (λ (l : List plan.Step). Fits C H (refused R.Who f) (span_ends l id v)) (sym (over e)) (refuses C R.Who)

      span_fits : Fits C H (span_step f id t v) (on_clock b t (span_ends b.to_come id v))
      unfolding span_step
      span_fits = rw o (clock C t _ _ (on_panel (ltb f.next f.count) refl))

    -- a return
    module _ (n id t : ℕ) (v : Float) where
      abbrev B : Call
      B = event (E.Return n id t v)

      taken :
          (i : ℕ) → i < f.count → (entry_at f.entries i).id ≡ id →
          Fits B H (answers.done (moved f i t f.next (judge v f.number t f.deadline))) done
      taken i h named = (refl, comes_back f fine o b a is i h n id t v named)

      -- one that is not out is refused WHO
      heard_of :
          (i : ℕ) (r : Report) (q : Bool) →
          Fits B H (return_at f i t v (cond q (stands.Held (record { value = r.value; frame = f.number })) stands.Late)) (refuse 15)
      heard_of i r true = refuses B R.Who
      heard_of i r false = refuses B R.Who

      abbrev back_reply : Reply
      back_reply = cond (used b.out id) (valued v) (refuse 15)

      back_at :
          (i : ℕ) → i < f.count → (entry_at f.entries i).id ≡ id → (p : Option Report) (s : Standing) →
          Stood f.number f.deadline (used b.out id) p s → Fits B H (return_at f i t v s) back_reply
      back_at i h named None stands.Waiting w = rw w (refuses B R.Who)
      back_at i h named None stands.Out w =
          rw w (same B H (finite? v) _ _ _ _ (λ _. taken i h named) (λ _. refuses B R.Value))
      back_at i h named None (stands.Held x) w = absurd w
      back_at i h named None stands.Late w = absurd w
      back_at i h named (Some r) s w =
          subst (λ (x : Standing). Fits B H (return_at f i t v x) back_reply) (sym w.0) (rw w.1 (heard_of i r (leb r.time f.deadline)))

      back_to_lem : (w : Option ℕ) → where_is f id ≡ w → Fits B H (back_to f t v w) back_reply
      back_to_lem (Some i) e =
          let w = somewhere id i e in
          back_at i w.0 w.1 (report_of b.reports id) (entry_at f.entries i).standing (rw w.1 at (a.stands i w.0))
      back_to_lem None e = rw (a.strangers id (nowhere id e)) (refuses B R.Who)

      back_fits : Fits B H (back_step f n id t v) (returns b n id t v)
      unfolding back_step
      back_fits =
          rw o
          (both B H (eqb n f.number) (eqb n b.number) (ap (eqb n) a.numbered) _ _ _ _
          (λ _. clock B t _ _ (back_to_lem (where_is f id) refl)) (λ _. refuses B R.Number))

    shut : (t : ℕ) → Fits (event (E.Close t)) H (answers.done (calls.closed f t)) done
    shut t = (refl, (refl, is_closed f fine o b a t))

    close_fits : (t : ℕ) → Fits (event (E.Close t)) H (close_step f t) (closes b t)
    unfolding close_step
    close_fits t =
        let c = event (E.Close t) in
        rw o
        (clock c t _ _ (both c H (ltb t f.deadline) (ltb t b.table.deadline) (ap (ltb t) a.due) _ _ _ _
        (λ _. refuses c R.Early) (λ _. shut t)))

    open_fits : (e : Event) → Fits (event e) H (calls.event_step f e) (in_open b e)
    open_fits E.Next = asked (next_of f) (nexts b.to_come) next_said E.Next refl
    open_fits (E.SpanEnd id t v) = span_fits id t v
    open_fits (E.Return n id t v) = back_fits n id t v
    open_fits (E.Close t) = close_fits t
    open_fits (E.Read id) = asked (read_of f id) _ (read_is b a _ (rw is) id (begun_is Open is)) (E.Read id) refl

    -- of no job that is to come or out has anything been heard
    next_silent : (x : plan.Step) (xs : List plan.Step) → b.to_come ≡ x ∷ xs → report_of b.reports x.id ≡ None
    next_silent x xs e = at (ltb f.next f.count) refl
      where
        at : (w : Bool) → ltb f.next f.count ≡ w → report_of b.reports x.id ≡ None
        at true q =
            let h : f.next < f.count = ltb-true _ _ q in
            let same : get_or a.plan f.next no_step ≡ x = let z = sym (now h) ∙ e in cc in
            rw (a.steps f.next h, same) at (silent f fine o b a h)
        at false q = let z : [] ≡ x ∷ xs = sym (over q) ∙ e in clash (cc)

    stood_silent :
        (out : Bool) → out ≡ true → (p : Option Report) (s : Standing) → Stood f.number f.deadline out p s → p ≡ None
    stood_silent out is None s w = refl
    stood_silent out is (Some r) s w = absurd (false_true (sym w.1 ∙ is))

    out_silent : (id : ℕ) → used b.out id ≡ true → report_of b.reports id ≡ None
    out_silent id e = at (where_is f id) refl
      where
        at : (w : Option ℕ) → where_is f id ≡ w → report_of b.reports id ≡ None
        at (Some i) q =
            let w = somewhere id i q in
            stood_silent (used b.out id) e (report_of b.reports id) (entry_at f.entries i).standing (rw w.1 at (a.stands i w.0))
        at None q = absurd (false_true (sym (a.strangers id (nowhere id q)) ∙ e))

  pub clear : (h : History) → Tells f h → Clear h
  clear idle a = tt
  clear (opened b) a = record { next_silent = next_silent b a.0 a.1; out_silent = out_silent b a.0 a.1 }
  clear (closed b) a = tt

  -- ---- a frame that is not open

  -- every call but begin and read is refused PHASE
  module _ (h : History) (a : Tells f h) (shut : open? f ≡ false) where
    phase : (c : Call) → Fits c h (refused R.Phase f) (refuse 12)
    phase c = (refl, a)

    next_shut : Fits (event E.Next) h (calls.asked f (next_of f)) (refuse 12)
    unfolding next_of
    next_shut = rw shut (phase (event E.Next))

    span_shut : (id t : ℕ) (v : Float) → Fits (event (E.SpanEnd id t v)) h (span_step f id t v) (refuse 12)
    unfolding span_step
    span_shut id t v = rw shut (phase (event (E.SpanEnd id t v)))

    back_shut : (n id t : ℕ) (v : Float) → Fits (event (E.Return n id t v)) h (back_step f n id t v) (refuse 12)
    unfolding back_step
    back_shut n id t v = rw shut (phase (event (E.Return n id t v)))

    close_shut : (t : ℕ) → Fits (event (E.Close t)) h (close_step f t) (refuse 12)
    unfolding close_step
    close_shut t = rw shut (phase (event (E.Close t)))

  idle_read : f.phase ≡ Idle → (id : ℕ) → Fits (event (E.Read id)) idle (calls.asked f (read_of f id)) (refuse 12)
  unfolding read_of
  idle_read a id = rw (begun_is Idle a) (refl, a)

  idle_fits : f.phase ≡ Idle → (e : Event) → Fits (event e) idle (calls.event_step f e) (refuse 12)
  idle_fits a E.Next = next_shut idle a (open_is Idle a)
  idle_fits a (E.SpanEnd id t v) = span_shut idle a (open_is Idle a) id t v
  idle_fits a (E.Return n id t v) = back_shut idle a (open_is Idle a) n id t v
  idle_fits a (E.Close t) = close_shut idle a (open_is Idle a) t
  idle_fits a (E.Read id) = idle_read a id

  module _ (b : Last) (a : Tells f (closed b)) where
    abbrev no : open? f ≡ false
    no = open_is Closed a.0

    closed_read : (r : Reply) (w : Bool) → is_accepted r ≡ w → Tells f (cond w (closed b) (closed b))
    closed_read r true e = a
    closed_read r false e = a

    closed_fits : (e : Event) → Fits (event e) (closed b) (calls.event_step f e) (in_closed b e)
    closed_fits E.Next = next_shut (closed b) a no
    closed_fits (E.SpanEnd id t v) = span_shut (closed b) a no id t v
    closed_fits (E.Return n id t v) = back_shut (closed b) a no n id t v
    closed_fits (E.Close t) = close_shut (closed b) a no t
    closed_fits (E.Read id) =
        let r = reads b (says (0 ∷ 3 ∷ [])) id in
        (read_is b a.1 (says (0 ∷ 3 ∷ [])) (rw a.0) id (begun_is Closed a.0), closed_read r (is_accepted r) refl)

  -- ---- a begin

  module _ (h : History) (a : Tells f h) (table s : List ℕ) (number : ℕ) (above : Bool) (may : may_open f number ≡ above) where
    abbrev N : Call
    N = begin table s number

    refused_begin : (r : Refusal) → Fits N h (refused r f) (says (refusal_says r))
    refused_begin r = (refl, rw (refused_told h N r) a)

    -- one that is accepted opens the frame of its bytes
    opened_by :
        (t : JobTable) → read_table table ≡ accepted t → (p : Outcome (List plan.Step)) → read_plan s ≡ p → (last busy : ℕ) →
        after_plan t p ≡ pass last busy → Tells (begun number t (steps_in p)) (opens number (accepted t) p h)
    unfolding begun
    opened_by t e (accepted xs) q last busy ok =
        let pass = passed t (accepted_good table t e) s last busy (ap (after_plan t) q ∙ ok) in
        (refl, begun_agrees number t xs (subst (λ (z : Outcome (List plan.Step)). PlanFits t (steps_in z)) q pass))
    opened_by t e (outcome.refused r) q last busy ok = clash (cc)

    begun_fits :
        (t : JobTable) → read_table table ≡ accepted t → (last busy : ℕ) → after_plan t (read_plan s) ≡ pass last busy →
        Fits N h (answers.done (begun number t (steps_in (read_plan s)))) done
    begun_fits t e last busy ok = (refl, rw e (opened_by t e (read_plan s) refl last busy ok))

    checked_fits :
        (t : JobTable) → read_table table ≡ accepted t → (k : Checked) → after_plan t (read_plan s) ≡ k →
        Fits N h (begin_checked f number (begun number t (steps_in (read_plan s))) k) (begins k above)
    checked_fits t e (Ok run) ok =
        both N h (may_open f number) above may _ _ _ _ (λ _. begun_fits t e run.last run.busy ok) (λ _. refused_begin R.Number)
    checked_fits t e (Err r) ok = refused_begin r

    read_fits : (p : Outcome JobTable) → read_table table ≡ p → Fits N h (begin_read f number s p) (begins (after_table s p) above)
    read_fits (accepted t) e = checked_fits t e (after_plan t (read_plan s)) refl
    read_fits (outcome.refused r) e = refused_begin r

    begin_fits : ready? f ≡ true → Fits N h (begin_step f table s number) (begins (check_plan table s) above)
    unfolding begin_step check_plan
    begin_fits ready = rw ready (read_fits (read_table table) refl)

  open_begin : (b : Last) → Tells f (opened b) → (table s : List ℕ) (n : ℕ) → Fits (begin table s n) (opened b) (begin_step f table s n) (refuse 12)
  unfolding begin_step
  open_begin b a table s n = rw (ready_is Open a.0) (refl, a)

  -- ---- every call

  pub fits : (h : History) → Tells f h → (c : Call) → Fits c h (called_of c f) (reply h c)
  fits idle a (begin table s n) = begin_fits idle a table s n true (rw a) (ready_is Idle a)
  fits idle a (event e) = idle_fits a e
  fits (opened b) a (begin table s n) = open_begin b a table s n
  fits (opened b) a (event e) = open_fits b a.0 a.1 e
  fits (closed b) a (begin table s n) =
      begin_fits (closed b) a table s n _ (rw (a.0, a.1.numbered)) (ready_is Closed a.0)
  fits (closed b) a (event e) = closed_fits b a e
