-- What a history has of the turns that it was told of: the last accepted begin, and of each job the report accepted since, if there is one.
-- Assumes nothing.
use Prim.Native.Nat.{ℕ}
use mathlib.Core.Path.{◌≡◌, refl, sym, ◌∙◌, ap, subst}
use mathlib.Core.Bool.{Bool, true, false, cond}
use mathlib.Core.Logic.{◌⊎◌, inl, inr, ⊎_elim}
use mathlib.Core.List.Memᴰ
use mathlib.Core.List.{List, [], ◌∷◌, ◌++◌, append_assoc, Memᴰ}
use mathlib.Core.List.Permᴰ
use Rattle.std.specs.Prelude.{Some, None}
use borrow.Author.Tests.{eqb-true, eqb-false}
use lib.Dec.{ltb, eqb}
use lib.Ieee.{Float}
use Rattle.model.specs.Lists.{All, Pairwise}
use Rattle.model.proofs.Lists.{clash, all_append, member_all}
use Rattle.records.specs.Records.{used}
use Rattle.records.specs.declared.refusal.Refusal.{Refusal}
use Rattle.records.specs.Refusals as outcome
use Rattle.records.specs.Refusals.{Outcome, accepted, refusal_says}
use Rattle.table.specs.Tables.{JobTable, read_table}
use Rattle.plan.specs.declared.Step as plan
use Rattle.plan.specs.Plans.{step_id, read_plan}
use Rattle.plan.proofs.Plans.{accepted_plan}
use Rattle.judge.specs.Check.{after_plan, after_table, check_plan}
use Rattle.judge.proofs.Jobs.{perm_members}
use Rattle.frame_record.specs.Answers.{Reply, says}
use Rattle.frame_promises.specs.Call.{Call, begin, event}
use Rattle.frame_record.specs.declared.Event.{Event}
use Rattle.frame_record.specs.declared.Event.TheVariants as E
use Rattle.model.proofs.Tests.{false_true}
use Rattle.frame_promises.specs.History.{Turn, Report, Last, History, idle, opened, closed, refuse, begins, on_clock, span_ends, returns}
use Rattle.frame_promises.specs.History.{reply}
use Rattle.frame_promises.specs.History.{opens, since, span_ended, happens, accepts, is_accepted, told, report_of}
use Rattle.frame_promises.specs.Readings.{Did, NoBegin, LastBegin, Reported, by_return, by_span, IsClosed}
use Rattle.frame_promises.proofs.Laws.{refused_not, report_same, report_other}

-- ---- turns and what was done in them

did_cases : {c : Call} (xs ys : List Turn) → Did c (xs ++ ys) → Did c xs ⊎ Did c ys
did_cases xs ys d = elim (Memᴰ.append_cases xs d.among) [
  | inl m ↦ inl (record { turn = d.turn; among = m; is_call = d.is_call; accepted = d.accepted })
  | inr m ↦ inr (record { turn = d.turn; among = m; is_call = d.is_call; accepted = d.accepted })
]

did_left : {c : Call} {xs : List Turn} (ys : List Turn) → Did c xs → Did c (xs ++ ys)
did_left ys d = record { turn = d.turn; among = Memᴰ.append_left ys d.among; is_call = d.is_call; accepted = d.accepted }

did_right : {c : Call} (xs : List Turn) {ys : List Turn} → Did c ys → Did c (xs ++ ys)
did_right xs d = record { turn = d.turn; among = Memᴰ.append_right xs d.among; is_call = d.is_call; accepted = d.accepted }

did_now : {c : Call} (xs : List Turn) (t : Turn) → t.call ≡ c → is_accepted t.said ≡ true → Did c (xs ++ (t ∷ []))
did_now xs t e a = record { turn = t; among = Memᴰ.append_right xs (Memᴰ.head refl); is_call = e; accepted = a }

-- of one turn
did_one : {c : Call} (t : Turn) → Did c (t ∷ []) → (t.call ≡ c) × (is_accepted t.said ≡ true)
did_one t d = let e : d.turn ≡ t = Memᴰ.eq_of_singleton d.among in rw (← e) (d.is_call, d.accepted)

module _ {steps : List plan.Step} {number id time : ℕ} {v : Float} where
  reported_cases : (xs ys : List Turn) → Reported (xs ++ ys) steps number id time v → Reported xs steps number id time v ⊎ Reported ys steps number id time v
  reported_cases xs ys (by_return d) = ⊎_elim (λ x. inl (by_return x)) (λ y. inr (by_return y)) (did_cases xs ys d)
  reported_cases xs ys (by_span m d) = ⊎_elim (λ x. inl (by_span m x)) (λ y. inr (by_span m y)) (did_cases xs ys d)

  reported_left : {xs : List Turn} (ys : List Turn) → Reported xs steps number id time v → Reported (xs ++ ys) steps number id time v
  reported_left ys (by_return d) = by_return (did_left ys d)
  reported_left ys (by_span m d) = by_span m (did_left ys d)

  reported_right : (xs : List Turn) {ys : List Turn} → Reported ys steps number id time v → Reported (xs ++ ys) steps number id time v
  reported_right xs (by_return d) = by_return (did_right xs d)
  reported_right xs (by_span m d) = by_span m (did_right xs d)

  reported_none : Reported [] steps number id time v → ⊥
  reported_none (by_return d) = Memᴰ.not-nil d.among
  reported_none (by_span m d) = Memᴰ.not-nil d.among

-- ---- the invariant

abbrev Ended : Bool → List Turn → Type 0
Ended true ts = IsClosed ts
Ended false ts = IsClosed ts → ⊥

pub record Since (ts : List Turn) (b : Last) (shut : Bool) : Type 0 where
  pub steps : List plan.Step
  pub later : List Turn
  pub begun : LastBegin ts b.number b.table steps later
  pub ahead : All (λ (x : plan.Step). Memᴰ x steps) b.to_come
  pub heard :
      (id time : ℕ) (v : Float) → Reported later steps b.number id time v →
      report_of b.reports id ≡ Some (record { job = id; time = time; value = v })
  pub made : (id : ℕ) (r : Report) → report_of b.reports id ≡ Some r → Reported later steps b.number id r.time r.value
  pub ended : Ended shut later

abbrev pub Traced : List Turn → History → Type 0
Traced ts idle = All NoBegin ts
Traced ts (opened b) = Since ts b false
Traced ts (closed b) = Since ts b true

-- one turn more since the begin
begun_on : {ts later : List Turn} {number : ℕ} {jobs : JobTable} {steps : List plan.Step} (t : Turn) → NoBegin t →
    LastBegin ts number jobs steps later → LastBegin (ts ++ (t ∷ [])) number jobs steps (later ++ (t ∷ []))
begun_on {later = later} t quiet l = record {
  before = l.before;
  turn = l.turn;
  table = l.table;
  plan = l.plan;
  turns = ap (λ (us : List Turn). us ++ (t ∷ [])) l.turns ∙ append_assoc l.before (l.turn ∷ later) (t ∷ []);
  is_begin = l.is_begin;
  accepted = l.accepted;
  is_table = l.is_table;
  is_plan = l.is_plan;
  last = all_append NoBegin later (t ∷ []) l.last (quiet, tt);
}

no_begin : (t : Turn) (e : Event) → t.call ≡ event e → NoBegin t
no_begin t e is table s number q a = let z : event e ≡ begin table s number = sym is ∙ q in clash (cc)

not_accepted : (t : Turn) → is_accepted t.said ≡ false → NoBegin t
not_accepted t un table s number q a = false_true (sym un ∙ a)

-- a turn that reports nothing and closes nothing
record Idle (t : Turn) : Type 0 where
  no_first : NoBegin t
  reports_not : {steps : List plan.Step} {number id time : ℕ} {v : Float} → Reported (t ∷ []) steps number id time v → ⊥
  closes_not : (time : ℕ) → Did (event (E.Close time)) (t ∷ []) → ⊥

refused_idle : (t : Turn) → is_accepted t.said ≡ false → Idle t
refused_idle t un = record {
  no_first = not_accepted t un;
  reports_not = λ r. elim r [ by_return d ↦ false_true (sym un ∙ (did_one t d).1) | by_span m d ↦ false_true (sym un ∙ (did_one t d).1) ];
  closes_not = λ time d. false_true (sym un ∙ (did_one t d).1);
}

next_idle : (t : Turn) → t.call ≡ event E.Next → Idle t
next_idle t is = record {
  no_first = no_begin t E.Next is;
  reports_not = λ {steps} {number} {id} {time} {v} r. elim r [
    | by_return d ↦ let z : event E.Next ≡ event (E.Return number id time v) = sym is ∙ (did_one t d).0 in clash (cc)
    | by_span m d ↦ let z : event E.Next ≡ event (E.SpanEnd id time v) = sym is ∙ (did_one t d).0 in clash (cc)
  ];
  closes_not = λ time d. let z : event E.Next ≡ event (E.Close time) = sym is ∙ (did_one t d).0 in clash (cc);
}

read_idle : (t : Turn) (i : ℕ) → t.call ≡ event (E.Read i) → Idle t
read_idle t i is = record {
  no_first = no_begin t (E.Read i) is;
  reports_not = λ {steps} {number} {id} {time} {v} r. elim r [
    | by_return d ↦ let z : event (E.Read i) ≡ event (E.Return number id time v) = sym is ∙ (did_one t d).0 in clash (cc)
    | by_span m d ↦ let z : event (E.Read i) ≡ event (E.SpanEnd id time v) = sym is ∙ (did_one t d).0 in clash (cc)
  ];
  closes_not = λ time d. let z : event (E.Read i) ≡ event (E.Close time) = sym is ∙ (did_one t d).0 in clash (cc);
}

ended_still :
    (shut : Bool) (later : List Turn) (t : Turn) → ((time : ℕ) → Did (event (E.Close time)) (t ∷ []) → ⊥) → Ended shut later →
    Ended shut (later ++ (t ∷ []))
ended_still true later t never (time, d) = (time, did_left (t ∷ []) d)
ended_still false later t never e = λ w. ⊎_elim (λ d. e (w.0, d)) (λ d. never w.0 d) (did_cases later (t ∷ []) w.1)

-- no job that is to come or out has been heard of
pub record OneReport (b : Last) : Type 0 where
  pub next_silent : (x : plan.Step) (xs : List plan.Step) → b.to_come ≡ x ∷ xs → report_of b.reports x.id ≡ None
  pub out_silent : (id : ℕ) → used b.out id ≡ true → report_of b.reports id ≡ None

abbrev pub Clear : History → Type 0
Clear idle = Unit {0}
Clear (opened b) = OneReport b
Clear (closed b) = Unit {0}

module _ {ts : List Turn} {b : Last} {shut : Bool} (w : Since ts b shut) (t : Turn) (quiet : NoBegin t)
    (closes_not : (time : ℕ) → Did (event (E.Close time)) (t ∷ []) → ⊥) where
  -- a turn that reports nothing
  module _ (reports_not : (id time : ℕ) (v : Float) → Reported (t ∷ []) w.steps b.number id time v → ⊥) where
    still :
        (clock : ℕ) (xs : List plan.Step) → All (λ (x : plan.Step). Memᴰ x w.steps) xs → (out : List ℕ) →
        Since (ts ++ (t ∷ [])) (since b clock xs out b.reports) shut
    still clock xs ahead out = record {
      steps = w.steps;
      later = w.later ++ (t ∷ []);
      begun = begun_on t quiet w.begun;
      ahead = ahead;
      heard = λ id time v r. ⊎_elim (w.heard id time v) (λ n. absurd (reports_not id time v n)) (reported_cases w.later (t ∷ []) r);
      made = λ id r e. reported_left (t ∷ []) (w.made id r e);
      ended = ended_still shut w.later t closes_not w.ended;
    }

  -- a turn that reports a job of which nothing was heard
  module _ (job time : ℕ) (v : Float) (silent : report_of b.reports job ≡ None)
      (reports : Reported (t ∷ []) w.steps b.number job time v)
      (only : (i s : ℕ) (u : Float) → Reported (t ∷ []) w.steps b.number i s u → (job ≡ i) × (time ≡ s) × (v ≡ u)) where
    abbrev report : Report
    report = record { job = job; time = time; value = v }

    old_heard : (i : ℕ) (r : Report) → report_of b.reports i ≡ Some r → report_of (report ∷ b.reports) i ≡ Some r
    old_heard i r e = report_other report b.reports i (λ same. let z : None ≡ Some r = sym silent ∙ ap (report_of b.reports) same ∙ e in clash (cc)) ∙ e

    new_heard : (i s : ℕ) (u : Float) → (job ≡ i) × (time ≡ s) × (v ≡ u) → report_of (report ∷ b.reports) i ≡ Some (record { job = i; time = s; value = u })
    new_heard i s u (p, q, r) = report_same report b.reports i p ∙ (λ k. Some (record { job = p k; time = q k; value = r k }))

    new_made :
        (i : ℕ) (r : Report) → report_of (report ∷ b.reports) i ≡ Some r → (c : Bool) → eqb job i ≡ c →
        Reported (w.later ++ (t ∷ [])) w.steps b.number i r.time r.value
    new_made i r e true is =
        let same : report ≡ r = let z : Some report ≡ Some r = sym (report_same report b.reports i (eqb-true job i is)) ∙ e in cc in
        let now : Reported (w.later ++ (t ∷ [])) w.steps b.number job time v = reported_right w.later reports in
        subst (λ (x : Report). Reported (w.later ++ (t ∷ [])) w.steps b.number i x.time x.value) same (rw (eqb-true job i is) at now)
    new_made i r e false is =
        reported_left (t ∷ []) (w.made i r (sym (report_other report b.reports i (eqb-false job i is)) ∙ e))

    more :
        (clock : ℕ) (xs : List plan.Step) → All (λ (x : plan.Step). Memᴰ x w.steps) xs → (out : List ℕ) →
        Since (ts ++ (t ∷ [])) (since b clock xs out (report ∷ b.reports)) shut
    more clock xs ahead out = record {
      steps = w.steps;
      later = w.later ++ (t ∷ []);
      begun = begun_on t quiet w.begun;
      ahead = ahead;
      heard = λ i s u r. ⊎_elim (λ o. old_heard i _ (w.heard i s u o)) (λ n. new_heard i s u (only i s u n)) (reported_cases w.later (t ∷ []) r);
      made = λ i r e. new_made i r e (eqb job i) refl;
      ended = ended_still shut w.later t closes_not w.ended;
    }

-- ---- what an accepted call shows

pub refused_else : (w : Bool) (p q : Reply) → is_accepted q ≡ false → is_accepted (cond w p q) ≡ true → (w ≡ true) × (is_accepted p ≡ true)
refused_else true p q un a = (refl, a)
refused_else false p q un a = absurd (false_true (sym un ∙ a))

else_only : (w : Bool) (p q : Reply) → is_accepted p ≡ false → is_accepted (cond w p q) ≡ true → is_accepted q ≡ true
else_only true p q un a = absurd (false_true (sym un ∙ a))
else_only false p q un a = a

-- the job on the panel
pub record OnPanel (xs : List plan.Step) (id : ℕ) : Type 0 where
  pub first : plan.Step
  pub rest : List plan.Step
  pub are : xs ≡ first ∷ rest
  pub named : first.id ≡ id

pub span_accepted : (b : Last) (id t : ℕ) (v : Float) (xs : List plan.Step) → is_accepted (on_clock b t (span_ends xs id v)) ≡ true → OnPanel xs id
span_accepted b id t v [] a = absurd (false_true (else_only (ltb t b.clock) (refuse 14) (refuse 15) refl a))
span_accepted b id t v (x ∷ xs) a =
    let w = refused_else (eqb x.id id) _ _ refl (else_only (ltb t b.clock) (refuse 14) _ refl a) in
    record { first = x; rest = xs; are = refl; named = eqb-true x.id id w.0 }

return_accepted : (b : Last) (n id t : ℕ) (v : Float) → is_accepted (returns b n id t v) ≡ true → (n ≡ b.number) × (used b.out id ≡ true)
return_accepted b n id t v a =
    let w = refused_else (eqb n b.number) _ _ refl a in
    let u = refused_else (used b.out id) _ _ refl (else_only (ltb t b.clock) (refuse 14) _ refl w.1) in
    (eqb-true n b.number w.0, u.0)

-- two steps of a plan that have one id are one
one_step :
    (xs : List plan.Step) → Pairwise (λ (x y : plan.Step). ¬ (x.id ≡ y.id)) xs → {x y : plan.Step} → Memᴰ x xs → Memᴰ y xs →
    x.id ≡ y.id → x ≡ y
one_step [] d {y = y} m _ e = elim m [ ]
one_step (z ∷ zs) d (Memᴰ.head p) (Memᴰ.head q) e = p ∙ sym q
one_step (z ∷ zs) d (Memᴰ.head p) (Memᴰ.tail n) e = absurd (member_all _ d.0 n (sym (ap step_id p) ∙ e))
one_step (z ∷ zs) d (Memᴰ.tail m) (Memᴰ.head q) e = absurd (member_all _ d.0 m (sym (ap step_id q) ∙ sym e))
one_step (z ∷ zs) d (Memᴰ.tail m) (Memᴰ.tail n) e = one_step zs d.1 m n e

-- ---- each call of an open frame

module _ {ts : List Turn} {b : Last} (w : Since ts b false) (one : OneReport b) (t : Turn) (a : is_accepted t.said ≡ true) where
  abbrev Then : History → Type 0
  Then h = Traced (ts ++ (t ∷ [])) h

  -- not a close; not a report
  other_close : (e : Event) → t.call ≡ event e → ((time : ℕ) → E.Close time ≡ e → ⊥) → (time : ℕ) → Did (event (E.Close time)) (t ∷ []) → ⊥
  other_close e is apart time d = let z : event e ≡ event (E.Close time) = sym is ∙ (did_one t d).0 in apart time (cc)

  asked_on : (e : Event) → t.call ≡ event e → Idle t → Then (opened b)
  asked_on e is q = still w t q.no_first q.closes_not (λ id time v r. q.reports_not r) b.clock b.to_come w.ahead b.out

  return_on : (n id time : ℕ) (v : Float) → t.call ≡ event (E.Return n id time v) → t.said ≡ returns b n id time v → Then (happens b (E.Return n id time v))
  return_on n id time v is said =
      let k = return_accepted b n id time v (rw (← said) a) in
      let c : t.call ≡ event (E.Return b.number id time v) = rw (← k.0) is in
      more w t (no_begin t (E.Return n id time v) is) (other_close (E.Return n id time v) is (λ s z. clash (cc))) id time v
      (one.out_silent id k.1) (by_return (did_now [] t c a)) (only c) time b.to_come w.ahead _
    where
      only :
          t.call ≡ event (E.Return b.number id time v) →
          (i s : ℕ) (u : Float) → Reported (t ∷ []) w.steps b.number i s u → (id ≡ i) × (time ≡ s) × (v ≡ u)
      only c i s u (by_return d) =
          let z : event (E.Return b.number id time v) ≡ event (E.Return b.number i s u) = sym c ∙ (did_one t d).0 in (cc, cc, cc)
      only c i s u (by_span m d) =
          let z : event (E.Return b.number id time v) ≡ event (E.SpanEnd i s u) = sym c ∙ (did_one t d).0 in clash (cc)

  module _ (id time : ℕ) (v : Float) (is : t.call ≡ event (E.SpanEnd id time v)) (x : plan.Step) (xs : List plan.Step) (e : b.to_come ≡ x ∷ xs)
      (named : x.id ≡ id) where
    ahead : Memᴰ x w.steps × All (λ (y : plan.Step). Memᴰ y w.steps) xs
    ahead = subst (All (λ (y : plan.Step). Memᴰ y w.steps)) e w.ahead

    differ : Pairwise (λ (y z : plan.Step). ¬ (y.id ≡ z.id)) w.steps
    differ = (accepted_plan w.begun.plan w.steps w.begun.is_plan).1

    -- the turn reports no job but the one on the panel, and that only where it is here
    only : (i s : ℕ) (u : Float) → Reported (t ∷ []) w.steps b.number i s u → ((x.id ≡ i) × (time ≡ s) × (v ≡ u)) × (x.away ≡ false)
    only i s u (by_return d) =
        let z : event (E.SpanEnd id time v) ≡ event (E.Return b.number i s u) = sym is ∙ (did_one t d).0 in clash (cc)
    only i s u (by_span m d) =
        let z : event (E.SpanEnd id time v) ≡ event (E.SpanEnd i s u) = sym is ∙ (did_one t d).0 in
        let same : x.id ≡ i = let q : id ≡ i = cc in named ∙ q in
        ((same, cc, cc), ap (λ (y : plan.Step). y.away) (one_step w.steps differ ahead.0 m same))

    span_on : (away : Bool) → x.away ≡ away → Since (ts ++ (t ∷ [])) (span_ended b time v (x ∷ xs)) false
    span_on true q =
        rw q
        (still w t (no_begin t (E.SpanEnd id time v) is) (other_close (E.SpanEnd id time v) is (λ s z. clash (cc)))
        (λ i s u r. false_true (sym (only i s u r).1 ∙ q)) time xs ahead.1 (x.id ∷ b.out))
    span_on false q =
        rw q
        (more w t (no_begin t (E.SpanEnd id time v) is) (other_close (E.SpanEnd id time v) is (λ s z. clash (cc))) x.id time v
        (one.next_silent x xs e) (by_span here (did_now [] t (rw named is) a)) (λ i s u r. (only i s u r).0) time xs ahead.1 b.out)
      where
        here : Memᴰ (record { id = x.id; away = false }) w.steps
        here = subst (λ (y : plan.Step). Memᴰ y w.steps) (λ i. record { id = x.id; away = q i }) ahead.0

  close_on : (time : ℕ) → t.call ≡ event (E.Close time) → Then (happens b (E.Close time))
  close_on time is = record {
    steps = w.steps;
    later = w.later ++ (t ∷ []);
    begun = begun_on t (no_begin t (E.Close time) is) w.begun;
    ahead = w.ahead;
    heard = λ id s v r. ⊎_elim (w.heard id s v) (λ n. absurd (silent id s v n)) (reported_cases w.later (t ∷ []) r);
    made = λ id r e. reported_left (t ∷ []) (w.made id r e);
    ended = (time, did_now w.later t is a);
  }
    where
      silent : (id s : ℕ) (v : Float) → Reported (t ∷ []) w.steps b.number id s v → ⊥
      silent id s v (by_return d) = let z : event (E.Close time) ≡ event (E.Return b.number id s v) = sym is ∙ (did_one t d).0 in clash (cc)
      silent id s v (by_span m d) = let z : event (E.Close time) ≡ event (E.SpanEnd id s v) = sym is ∙ (did_one t d).0 in clash (cc)

  event_on : (e : Event) → t.call ≡ event e → t.said ≡ reply (opened b) (event e) → Then (happens b e)
  event_on E.Next is said = asked_on E.Next is (next_idle t is)
  event_on (E.SpanEnd id time v) is said =
      let p = span_accepted b id time v b.to_come (rw (← said) a) in
      subst (λ (l : List plan.Step). Since (ts ++ (t ∷ [])) (span_ended b time v l) false) (sym p.are)
      (span_on id time v is p.first p.rest p.are p.named p.first.away refl)
  event_on (E.Return n id time v) is said = return_on n id time v is said
  event_on (E.Close time) is said = close_on time is
  event_on (E.Read id) is said = asked_on (E.Read id) is (read_idle t id is)

-- ---- a begin that is accepted has bytes that read

pub record Bytes (table s : List ℕ) : Type 0 where
  pub jobs : JobTable
  pub is_table : read_table table ≡ accepted jobs
  pub steps : List plan.Step
  pub is_plan : read_plan s ≡ accepted steps

module _ (table s : List ℕ) (above : Bool) where
  fails : {P : Type 0} (r : Refusal) → is_accepted (says (refusal_says r)) ≡ true → P
  fails r a = absurd (refused_not r a)

  plan_bytes :
      (j : JobTable) → read_table table ≡ accepted j → (o : Outcome (List plan.Step)) → read_plan s ≡ o →
      is_accepted (begins (after_plan j o) above) ≡ true → Bytes table s
  plan_bytes j e (accepted xs) q a = record { jobs = j; is_table = e; steps = xs; is_plan = q }
  plan_bytes j e (outcome.refused r) q a = fails r a

  table_bytes : (o : Outcome JobTable) → read_table table ≡ o → is_accepted (begins (after_table s o) above) ≡ true → Bytes table s
  table_bytes (accepted j) e a = plan_bytes j e (read_plan s) refl a
  table_bytes (outcome.refused r) e a = fails r a

  pub begin_bytes : is_accepted (begins (check_plan table s) above) ≡ true → Bytes table s
  unfolding check_plan
  begin_bytes = table_bytes (read_table table) refl

module _ (ts : List Turn) (h : History) (t : Turn) (table s : List ℕ) (number : ℕ) (is : t.call ≡ begin table s number)
    (a : is_accepted t.said ≡ true) where
  opens_on : Bytes table s → Traced (ts ++ (t ∷ [])) (opens number (read_table table) (read_plan s) h)
  unfolding report_of
  opens_on w =
      rw (w.is_table, w.is_plan)
      (record {
        steps = w.steps;
        later = [];
        begun = record {
          before = ts;
          turn = t;
          table = table;
          plan = s;
          turns = refl;
          is_begin = is;
          accepted = a;
          is_table = w.is_table;
          is_plan = w.is_plan;
          last = tt;
        };
        ahead = perm_members (Permᴰ.refl w.steps);
        heard = λ id time v r. absurd (reported_none r);
        made = λ id r e. clash (cc);
        ended = λ c. Memᴰ.not-nil c.1.among;
      })

-- ---- every turn

module _ (ts : List Turn) where
  refused_on : (h : History) → Traced ts h → (t : Turn) → is_accepted t.said ≡ false → Traced (ts ++ (t ∷ [])) h
  refused_on idle w t un = all_append NoBegin ts (t ∷ []) w (not_accepted t un, tt)
  refused_on (opened b) w t un =
      let q = refused_idle t un in
      still w t q.no_first q.closes_not (λ id time v r. q.reports_not r) b.clock b.to_come w.ahead b.out
  refused_on (closed b) w t un =
      let q = refused_idle t un in
      still w t q.no_first q.closes_not (λ id time v r. q.reports_not r) b.clock b.to_come w.ahead b.out

  -- once closed, only a read is accepted
  closed_on :
      (b : Last) → Since ts b true → (t : Turn) (e : Event) → t.call ≡ event e → t.said ≡ reply (closed b) (event e) → is_accepted t.said ≡ true →
      Since (ts ++ (t ∷ [])) b true
  closed_on b w t E.Next is said a = absurd (false_true (ap is_accepted (sym said) ∙ a))
  closed_on b w t (E.SpanEnd id time v) is said a = absurd (false_true (ap is_accepted (sym said) ∙ a))
  closed_on b w t (E.Return n id time v) is said a = absurd (false_true (ap is_accepted (sym said) ∙ a))
  closed_on b w t (E.Close time) is said a = absurd (false_true (ap is_accepted (sym said) ∙ a))
  closed_on b w t (E.Read id) is said a =
      let q = read_idle t id is in
      still w t q.no_first q.closes_not (λ i time v r. q.reports_not r) b.clock b.to_come w.ahead b.out

  accepted_on :
      (h : History) → Traced ts h → Clear h → (t : Turn) (c : Call) → t.call ≡ c → t.said ≡ reply h c → is_accepted t.said ≡ true →
      Traced (ts ++ (t ∷ [])) (accepts h c)
  accepted_on idle w one t (begin table s n) is said a = opens_on ts idle t table s n is a (begin_bytes table s true (rw (← said) a))
  accepted_on idle w one t (event e) is said a = absurd (false_true (ap is_accepted (sym said) ∙ a))
  accepted_on (opened b) w one t (begin table s n) is said a = absurd (false_true (ap is_accepted (sym said) ∙ a))
  accepted_on (opened b) w one t (event e) is said a = event_on w one t a e is said
  accepted_on (closed b) w one t (begin table s n) is said a = opens_on ts (closed b) t table s n is a (begin_bytes table s _ (ap is_accepted (sym said) ∙ a))
  accepted_on (closed b) w one t (event e) is said a = closed_on b w t e is said a

  pub turn_on : (h : History) → Traced ts h → Clear h → (t : Turn) → t.said ≡ reply h t.call → Traced (ts ++ (t ∷ [])) (told h t.call t.said)
  turn_on h w one t said = step (is_accepted t.said) refl
    where
      step : (q : Bool) → is_accepted t.said ≡ q → Traced (ts ++ (t ∷ [])) (cond q (accepts h t.call) h)
      step true a = accepted_on h w one t t.call refl said a
      step false un = refused_on h w t un
