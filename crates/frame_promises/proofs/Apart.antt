-- One job's values reach no other answer: "two sequences of the same calls that differ only in one job's finite values give the same
-- answers but for that job's fresh readings". Assumes nothing.
use Prim.Native.Nat.{ℕ}
use mathlib.Core.Path.{◌≡◌, refl, sym, ◌∙◌, ap, subst}
use mathlib.Core.Bool.{Bool, true, false, cond}
use mathlib.Core.Logic.{◌⊎◌, inl, inr}
use mathlib.Core.List.{List, [], ◌∷◌}
use Rattle.std.specs.Prelude.{Option, Some, None}
use borrow.Author.Tests.{eqb-true}
use lib.Dec.{leb, eqb}
use lib.Ieee.{Float}
use Rattle.model.specs.declared.Job.{Job}
use Rattle.records.specs.Refusals as outcome
use Rattle.records.specs.Refusals.{Outcome, accepted}
use Rattle.table.specs.Tables.{JobTable, read_table}
use Rattle.lookup.specs.Lookup.{job_of}
use Rattle.plan.specs.declared.Step as plan
use Rattle.plan.specs.Plans.{step_id, read_plan}
use Rattle.frame_record.specs.Finite.{finite?}
use Rattle.frame_record.specs.Answers.{Reply, says}
use Rattle.frame_promises.specs.Call.{Call, begin, event}
use Rattle.frame_record.specs.declared.Event.{Event}
use Rattle.frame_record.specs.declared.Event.TheVariants as E
use Rattle.frame_promises.specs.History.{Turn, Report, Last, History, idle, opened, closed, fresh, on_clock, valued, span_ends, returns, reading}
use Rattle.frame_promises.specs.History.{read_in, reply}
use Rattle.frame_promises.specs.History.{opens, since, span_ended, without, happens, accepts, is_accepted, told, report_of}
use Rattle.frame_promises.specs.Runs.{FromIdle}
use Rattle.frame_promises.specs.Sequences.{Alike, same_call, other_span, other_back, SameBut, same_answer, other_value}
use Rattle.frame_promises.specs.Sequences as words
use Rattle.frame_promises.specs.Sequences.{AllAlike, AllSameBut}
use Rattle.frame_promises.proofs.Since.{OnPanel, span_accepted}
use Rattle.frame_promises.proofs.Replies.{Replied, replied_all}

module _ (job : ℕ) where
  -- ---- histories that differ at most in the values of one job's reports

  record Twin (r q : Report) : Type 0 where
    jobs : r.job ≡ q.job
    times : r.time ≡ q.time
    values : (r.value ≡ q.value) ⊎ (r.job ≡ job)

  abbrev Twins : List Report → List Report → Type 0
  Twins [] [] = Unit {0}
  Twins [] (q ∷ qs) = ⊥
  Twins (r ∷ rs) [] = ⊥
  Twins (r ∷ rs) (q ∷ qs) = Twin r q × Twins rs qs

  twins_self : (rs : List Report) → Twins rs rs
  twins_self [] = tt
  twins_self (r ∷ rs) = (record { jobs = refl; times = refl; values = inl refl }, twins_self rs)

  abbrev other : Last → List Report → Last
  other b rs = since b b.clock b.to_come b.out rs

  data Pair : History → History → Type 0 where
    both_idle : Pair idle idle
    both_open : (b : Last) (rs : List Report) → Twins b.reports rs → Pair (opened b) (opened (other b rs))
    both_closed : (b : Last) (rs : List Report) → Twins b.reports rs → Pair (closed b) (closed (other b rs))

  self : (h : History) → Pair h h
  self idle = both_idle
  self (opened b) = both_open b b.reports (twins_self b.reports)
  self (closed b) = both_closed b b.reports (twins_self b.reports)

  -- ---- a read

  data Heard (id : ℕ) : Option Report → Option Report → Type 0 where
    not_heard : Heard id None None
    heard : (r q : Report) → Twin r q → r.job ≡ id → Heard id (Some r) (Some q)

  report_pair : (rs qs : List Report) → Twins rs qs → (id : ℕ) → Heard id (report_of rs id) (report_of qs id)
  unfolding report_of
  report_pair [] [] t id = not_heard
  report_pair [] (q ∷ qs) t id = absurd t
  report_pair (r ∷ rs) [] t id = absurd t
  report_pair (r ∷ rs) (q ∷ qs) t id =
      subst (λ (i : ℕ). Heard id (cond (eqb r.job id) (Some r) (report_of rs id)) (cond (eqb i id) (Some q) (report_of qs id))) t.0.jobs
      (step (eqb r.job id) refl (report_pair rs qs t.1 id))
    where
      step :
          (w : Bool) → eqb r.job id ≡ w → Heard id (report_of rs id) (report_of qs id) →
          Heard id (cond w (Some r) (report_of rs id)) (cond w (Some q) (report_of qs id))
      step true e on = heard r q t.0 (eqb-true r.job id e)
      step false e on = on

  module _ (b : Last) (unheard : Reply) (id : ℕ) where
    abbrev in_time : Bool → Float → Reply
    in_time w v = cond w (fresh b.number v) (says (0 ∷ 2 ∷ []))

    abbrev timed_says : ℕ → Float → Reply
    timed_says t v = in_time (leb t b.table.deadline) v

    timed : (r q : Report) → Twin r q → r.job ≡ id → (w : Bool) → SameBut job (event (E.Read id)) (in_time w r.value) (in_time w q.value)
    timed r q t is false = same_answer
    timed r q t is true = step t.values
      where
        step : (r.value ≡ q.value) ⊎ (r.job ≡ job) → SameBut job (event (E.Read id)) (fresh b.number r.value) (fresh b.number q.value)
        step (inl e) = subst (λ (v : Float). SameBut job (event (E.Read id)) (fresh b.number r.value) (fresh b.number v)) e same_answer
        step (inr e) = subst (λ (i : ℕ). SameBut job (event (E.Read i)) (fresh b.number r.value) (fresh b.number q.value)) (sym e ∙ is) other_value

    reading_pair :
        (rs : List Report) (o p : Option Report) → Heard id o p →
        SameBut job (event (E.Read id)) (reading b unheard o) (reading (other b rs) unheard p)
    reading_pair rs o p not_heard = same_answer
    reading_pair rs o p (heard r q t is) =
        subst (λ (i : ℕ). SameBut job (event (E.Read id)) (reading b unheard (Some r)) (timed_says i q.value))
        t.times (timed r q t is (leb r.time b.table.deadline))

    read_in_lem :
        (rs : List Report) → Twins b.reports rs → (o : Option Job) →
        SameBut job (event (E.Read id)) (read_in b unheard id o) (read_in (other b rs) unheard id o)
    read_in_lem rs t None = same_answer
    read_in_lem rs t (Some j) = reading_pair rs (report_of b.reports id) (report_of rs id) (report_pair b.reports rs t id)

  -- ---- one call

  -- the second answer, and the history after it
  record Goes (c d : Call) (h g : History) : Type 0 where
    answers : SameBut job c (reply h c) (reply g d)
    after : Pair (told h c (reply h c)) (told g d (reply g d))

  unchanged : (h g : History) → Pair h g → (w z : Bool) → Pair (cond w h h) (cond z g g)
  unchanged h g p true true = p
  unchanged h g p true false = p
  unchanged h g p false true = p
  unchanged h g p false false = p

  read_after : (h g : History) → Pair h g → (c d : Call) → Pair (cond (is_accepted (reply h c)) h h) (cond (is_accepted (reply g d)) g g)
  read_after h g p c d = unchanged h g p (is_accepted (reply h c)) (is_accepted (reply g d))

  -- where the answers are the same
  as_answered :
      (c d : Call) (h g : History) → Pair h g → reply h c ≡ reply g d → (is_accepted (reply h c) ≡ true → Pair (accepts h c) (accepts g d)) →
      Goes c d h g
  as_answered c d h g p e q = record {
    answers = subst (SameBut job c (reply h c)) e same_answer;
    after = subst (λ (s : Reply). Pair (told h c (reply h c)) (told g d s)) e (step (is_accepted (reply h c)) refl);
  }
    where
      step : (w : Bool) → is_accepted (reply h c) ≡ w → Pair (cond w (accepts h c) h) (cond w (accepts g d) g)
      step true a = q a
      step false a = p

  opens_pair : (n : ℕ) (o : Outcome JobTable) (p : Outcome (List plan.Step)) (h g : History) → Pair h g → Pair (opens n o p h) (opens n o p g)
  opens_pair n (accepted t) (accepted xs) h g w = self _
  opens_pair n (accepted t) (outcome.refused r) h g w = w
  opens_pair n (outcome.refused r) p h g w = w

  report_twin : (i t : ℕ) (v w : Float) → (v ≡ w) ⊎ (i ≡ job) → Twin (record { job = i; time = t; value = v }) (record { job = i; time = t; value = w })
  report_twin i t v w e = record { jobs = refl; times = refl; values = e }

  module _ (b : Last) (rs : List Report) (t : Twins b.reports rs) where
    abbrev ended_by : plan.Step → ℕ → List plan.Step → Bool → Float → List Report → Last
    ended_by x time xs away u qs =
        since b time xs (cond away (x.id ∷ b.out) b.out) (cond away qs (record { job = x.id; time = time; value = u } ∷ qs))

    -- the job on the panel reports v, or w
    span_pair :
        (time : ℕ) (v w : Float) (xs : List plan.Step) → ((x : plan.Step) (ys : List plan.Step) → xs ≡ x ∷ ys → (v ≡ w) ⊎ (x.id ≡ job)) →
        Pair (opened (span_ended b time v xs)) (opened (span_ended (other b rs) time w xs))
    span_pair time v w [] e = both_open b rs t
    span_pair time v w (x ∷ xs) e = step x.away
      where
        step : (away : Bool) → Pair (opened (ended_by x time xs away v b.reports)) (opened (ended_by x time xs away w rs))
        step true = both_open (ended_by x time xs true v b.reports) rs t
        step false =
            both_open (ended_by x time xs false v b.reports) (record { job = x.id; time = time; value = w } ∷ rs)
            (report_twin x.id time v w (e x xs refl), t)

    back_pair : (n id time : ℕ) (v w : Float) → (v ≡ w) ⊎ (id ≡ job) → Pair (happens b (E.Return n id time v)) (happens (other b rs) (E.Return n id time w))
    back_pair n id time v w e =
        both_open (since b time b.to_come (without b.out id) (record { job = id; time = time; value = v } ∷ b.reports))
        (record { job = id; time = time; value = w } ∷ rs)
        (report_twin id time v w e, t)

    -- the same call
    open_same : (e : Event) → Goes (event e) (event e) (opened b) (opened (other b rs))
    open_same E.Next = as_answered (event E.Next) (event E.Next) _ _ (both_open b rs t) refl (λ _. both_open b rs t)
    open_same (E.SpanEnd id time v) =
        as_answered (event (E.SpanEnd id time v)) (event (E.SpanEnd id time v)) _ _ (both_open b rs t) refl
        (λ _. span_pair time v v b.to_come (λ x ys e. inl refl))
    open_same (E.Return n id time v) =
        as_answered (event (E.Return n id time v)) (event (E.Return n id time v)) _ _ (both_open b rs t) refl (λ _. back_pair n id time v v (inl refl))
    open_same (E.Close time) =
        as_answered (event (E.Close time)) (event (E.Close time)) _ _ (both_open b rs t) refl
        (λ _. both_closed (since b time b.to_come b.out b.reports) rs t)
    open_same (E.Read id) = record {
      answers = read_in_lem b (says (0 ∷ 1 ∷ [])) id rs t (job_of b.table.jobs id);
      after = read_after (opened b) (opened (other b rs)) (both_open b rs t) (event (E.Read id)) (event (E.Read id));
    }

    closed_same : (e : Event) → Goes (event e) (event e) (closed b) (closed (other b rs))
    closed_same E.Next = as_answered (event E.Next) (event E.Next) _ _ (both_closed b rs t) refl (λ _. both_closed b rs t)
    closed_same (E.SpanEnd id time v) =
        as_answered (event (E.SpanEnd id time v)) (event (E.SpanEnd id time v)) _ _ (both_closed b rs t) refl (λ _. both_closed b rs t)
    closed_same (E.Return n id time v) =
        as_answered (event (E.Return n id time v)) (event (E.Return n id time v)) _ _ (both_closed b rs t) refl (λ _. both_closed b rs t)
    closed_same (E.Close time) = as_answered (event (E.Close time)) (event (E.Close time)) _ _ (both_closed b rs t) refl (λ _. both_closed b rs t)
    closed_same (E.Read id) = record {
      answers = read_in_lem b (says (0 ∷ 3 ∷ [])) id rs t (job_of b.table.jobs id);
      after = read_after (closed b) (closed (other b rs)) (both_closed b rs t) (event (E.Read id)) (event (E.Read id));
    }

  begin_same :
      (h g : History) → Pair h g → (table s : List ℕ) (n : ℕ) → reply h (begin table s n) ≡ reply g (begin table s n) →
      Goes (begin table s n) (begin table s n) h g
  begin_same h g p table s n e = as_answered (begin table s n) (begin table s n) h g p e (λ _. opens_pair n (read_table table) (read_plan s) h g p)

  same_goes : (c : Call) (h g : History) → Pair h g → Goes c c h g
  same_goes (begin table s n) h g both_idle = begin_same idle idle both_idle table s n refl
  same_goes (begin table s n) h g (both_open b rs t) = begin_same (opened b) (opened (other b rs)) (both_open b rs t) table s n refl
  same_goes (begin table s n) h g (both_closed b rs t) = begin_same (closed b) (closed (other b rs)) (both_closed b rs t) table s n refl
  same_goes (event e) h g both_idle = as_answered (event e) (event e) idle idle both_idle refl (λ _. both_idle)
  same_goes (event e) h g (both_open b rs t) = open_same b rs t e
  same_goes (event e) h g (both_closed b rs t) = closed_same b rs t e

  -- two finite values are taken alike
  module _ (v w : Float) (p : finite? v ≡ true) (q : finite? w ≡ true) where
    same_valued : valued v ≡ valued w
    same_valued = rw (p, q)

    same_span : (xs : List plan.Step) (id : ℕ) → span_ends xs id v ≡ span_ends xs id w
    same_span [] id = refl
    same_span (x ∷ xs) id = rw same_valued

    same_back : (b : Last) (n id t : ℕ) → returns b n id t v ≡ returns b n id t w
    same_back b n id t = rw same_valued

    span_goes : (t : ℕ) (h g : History) → Pair h g → Goes (event (E.SpanEnd job t v)) (event (E.SpanEnd job t w)) h g
    span_goes t h g both_idle = as_answered _ _ idle idle both_idle refl (λ _. both_idle)
    span_goes t h g (both_open b rs z) =
        as_answered (event (E.SpanEnd job t v)) (event (E.SpanEnd job t w)) (opened b) (opened (other b rs)) (both_open b rs z)
        (ap (on_clock b t) (same_span b.to_come job))
        (λ a. span_pair b rs z t v w b.to_come (on_panel (span_accepted b job t v b.to_come a)))
      where
        on_panel : OnPanel b.to_come job → (x : plan.Step) (ys : List plan.Step) → b.to_come ≡ x ∷ ys → (v ≡ w) ⊎ (x.id ≡ job)
        on_panel o x ys e = let same : o.first ≡ x = let y = sym o.are ∙ e in cc in inr (ap step_id (sym same) ∙ o.named)
    span_goes t h g (both_closed b rs z) = as_answered _ _ (closed b) (closed (other b rs)) (both_closed b rs z) refl (λ _. both_closed b rs z)

    back_goes : (n t : ℕ) (h g : History) → Pair h g → Goes (event (E.Return n job t v)) (event (E.Return n job t w)) h g
    back_goes n t h g both_idle = as_answered _ _ idle idle both_idle refl (λ _. both_idle)
    back_goes n t h g (both_open b rs z) =
        as_answered (event (E.Return n job t v)) (event (E.Return n job t w)) (opened b) (opened (other b rs)) (both_open b rs z)
        (same_back b n job t) (λ _. back_pair b rs z n job t v w (inr refl))
    back_goes n t h g (both_closed b rs z) = as_answered _ _ (closed b) (closed (other b rs)) (both_closed b rs z) refl (λ _. both_closed b rs z)

  goes : {c d : Call} → Alike job c d → (h g : History) → Pair h g → Goes c d h g
  goes {c} same_call h g p = same_goes c h g p
  goes (other_span {t = t} {v = v} {w = w} x y) h g p = span_goes v w x y t h g p
  goes (other_back {n = n} {t = t} {v = v} {w = w} x y) h g p = back_goes v w x y n t h g p

  -- ---- all of them

  all_goes : {ts us : List Turn} → AllAlike job ts us → (h g : History) → Pair h g → Replied h ts → Replied g us → AllSameBut job ts us
  all_goes words.no_turns h g p r q = words.no_turns
  all_goes (words.and_turn {t = t} {u = u} a all) h g p (said, r) (told_u, q) =
      let w = goes a h g p in
      words.and_turn
      (subst (λ (x : Reply). SameBut job t.call x u.said) (sym said)
      (subst (λ (x : Reply). SameBut job t.call (reply h t.call) x) (sym told_u) w.answers))
      (all_goes all (told h t.call t.said) (told g u.call u.said) (rw (said, told_u) w.after) r q)

-- the promise
pub apart : (job : ℕ) (ts us : List Turn) → FromIdle ts → FromIdle us → AllAlike job ts us → AllSameBut job ts us
apart job ts us r q a = all_goes job a idle idle (both_idle) (replied_all ts r) (replied_all us q)
