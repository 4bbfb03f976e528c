-- Every sequence of calls is answered; and whatever the jobs of a plan do, their events come in time order in some way, so that `own_value`
-- speaks of every run. Assumes nothing.
use Prim.Native.Nat.{ℕ, zero, suc, ◌+◌, ◌≤◌, ◌<◌}
use native.Mathlib.Omega.{arith}
use native.Mathlib.Nat.{eq-or-lt_of_le}
use native.Mathlib.Numerals.{add-one}
use mathlib.Core.Path.{◌≡◌, refl, sym, ap, subst}
use mathlib.Core.Bool.{Bool, true, false}
use mathlib.Core.Logic.{◌⊎◌, inl, inr, ⊎_elim}
use mathlib.Core.List.Memᴰ
use mathlib.Core.List.{List, [], ◌∷◌, ◌++◌, map, Memᴰ}
use mathlib.Core.List.Permᴰ
use mathlib.Core.List.{Permᴰ}
use borrow.Author.Tests.{leb-true, leb-false, ltb-true, ltb-false}
use lib.ListN.{length}
use lib.Dec.{leb, ltb}
use Rattle.model.specs.Lists.{All, Pairwise}
use Rattle.model.proofs.Lists.{clash, all_map, all_zip, member_all}
use Rattle.model.proofs.Permutations.{all_perm, pairwise_perm, length_perm}
use Rattle.judge.proofs.Jobs.{perm_members}
use Rattle.frame_record.specs.Answers.{Reply, answer_says}
use Rattle.frame_promises.specs.Call.{Call, begin, event, called_of}
use Rattle.frame_record.specs.declared.Frame.{Frame}
use Rattle.frame_record.specs.declared.Called.{Called}
use Rattle.frame_promises.specs.History.{Turn, done}
use Rattle.frame_promises.specs.Runs.{Allows, Runs, FromIdle}
use Rattle.frame_promises.specs.Own.{MayBegin, Doing, away_at, value_at, span_time, back_time, span_call, back_call, Plays, over, spans, backs}
use Rattle.frame_promises.proofs.Begins.{begin_iff}

abbrev calls_of : List Turn → List Call
calls_of ts = map (λ (t : Turn). t.call) ts

-- ---- every sequence of calls is answered

is_allowed : (f : Frame) (c : Call) → Allows f c (called_of c f)
is_allowed f (begin table plan n) = refl
is_allowed f (event e) = refl

goes_on : (before : List Turn) (f : Frame) → Runs Allows f before → (cs : List Call) → (us : List Turn) × Runs Allows f (before ++ us) × (calls_of us ≡ cs)
goes_on [] f r [] = ([], tt, refl)
goes_on [] f r (c ∷ cs) =
    let s : Called = called_of c f in
    let w = goes_on [] s.frame tt cs in
    (record { call = c; said = answer_says s.answer } ∷ w.0, (s, is_allowed f c, refl, w.1), ap (λ (l : List Call). c ∷ l) w.2)
goes_on (t ∷ before) f (s, may, said, r) cs = let w = goes_on before s.frame r cs in (w.0, (s, may, said, w.1), w.2)

-- after any turns from idle, any calls
pub every_sequence : (before : List Turn) → FromIdle before → (cs : List Call) → (us : List Turn) × FromIdle (before ++ us) × (calls_of us ≡ cs)
every_sequence before (f, starts, r) cs = let w = goes_on before f r cs in (w.0, (f, starts, w.1), w.2)

-- turns whose first call is known
first_turn :
    (P : List Turn → Type 0) (us : List Turn) (c : Call) (cs : List Call) → calls_of us ≡ c ∷ cs →
    ((v : Turn) (vs : List Turn) → v.call ≡ c → calls_of vs ≡ cs → P (v ∷ vs)) → P us
first_turn P [] c cs e on = clash (cc)
first_turn P (v ∷ vs) c cs e on = on v vs (cc) (cc)

no_turns : (P : List Turn → Type 0) (us : List Turn) → calls_of us ≡ [] → P [] → P us
no_turns P [] e p = p
no_turns P (v ∷ vs) e p = clash (cc)

-- ---- the events of a run, in time order

-- a span ends no sooner than the one before
spans_rise : (ds : List Doing) (k : ℕ) → span_time ds k ≤ span_time ds (suc k)
unfolding span_time
spans_rise [] k = omega arith
spans_rise (d ∷ ds) zero = omega arith
spans_rise (d ∷ ds) (suc k) = omega (arith, spans_rise ds k)

module _ (number : ℕ) (ds : List Doing) where
  -- one whose return is the first
  record First (x : ℕ) (xs : List ℕ) : Type 0 where
    at : ℕ
    others : List ℕ
    same : Permᴰ (x ∷ xs) (at ∷ others)
    least : All (λ (k : ℕ). back_time ds at ≤ back_time ds k) others

  first_back : (x : ℕ) (xs : List ℕ) → First x xs
  first_back x [] = record { at = x; others = []; same = Permᴰ.refl _; least = tt }
  first_back x (y ∷ ys) = let r = first_back y ys in step r (leb (back_time ds x) (back_time ds r.at)) refl
    where
      step : (r : First y ys) (b : Bool) → leb (back_time ds x) (back_time ds r.at) ≡ b → First x (y ∷ ys)
      step r true e =
          let low : back_time ds x ≤ back_time ds r.at = leb-true _ _ e in
          record {
            at = x;
            others = y ∷ ys;
            same = Permᴰ.refl _;
            least = all_perm (λ (k : ℕ). back_time ds x ≤ back_time ds k) (Permᴰ.symm r.same) (low, all_map (λ k h. omega arith) r.others r.least);
          }
      step r false e =
          let high : back_time ds r.at < back_time ds x = leb-false _ _ e in
          record {
            at = r.at;
            others = x ∷ r.others;
            same = Permᴰ.trans (Permᴰ.cons refl r.same) (Permᴰ.swap refl refl);
            least = (omega arith, r.least);
          }

  -- n spans have ended, `home` are back and `out` are away, and nothing that is to come is before t
  record Due (n : ℕ) (home : List ℕ) (t : ℕ) (k : ℕ) : Type 0 where
    ended : k < n
    away : away_at ds k ≡ true
    not_back : Memᴰ k home → ⊥
    later : t ≤ back_time ds k

  record Coming (n : ℕ) (home : List ℕ) (t : ℕ) (out : List ℕ) : Type 0 where
    due : All (Due n home t) out
    differ : Pairwise (λ (i k : ℕ). i ≡ k → ⊥) out
    all : (k : ℕ) → k < n → away_at ds k ≡ true → Memᴰ k home ⊎ Memᴰ k out
    next : n < length ds → t ≤ span_time ds n
    passed : (k : ℕ) → Memᴰ k home → k < n

  abbrev Played : ℕ → List ℕ → ℕ → Type 0
  Played n home t = (calls : List Call) × ((us : List Turn) → calls_of us ≡ calls → Plays number ds n home t us)

  -- the next span ends
  module _ {n : ℕ} {home : List ℕ} {t : ℕ} {out : List ℕ} (r : Coming n home t out) (inside : n < length ds)
      (soon : All (λ (k : ℕ). span_time ds n ≤ back_time ds k) out) where
    still : All (Due (n + 1) home (span_time ds n)) out
    still =
        all_map (λ k w. record { ended = omega (arith, w.0.ended); away = w.0.away; not_back = w.0.not_back; later = w.1 }) out
        (all_zip _ _ out r.due soon)

    rising : span_time ds n ≤ span_time ds (n + 1)
    rising = rw add-one (spans_rise ds n)

    was : (k : ℕ) → k < n + 1 → (k ≡ n) ⊎ (k < n)
    was k h = eq-or-lt_of_le (omega arith)

    goes_out : away_at ds n ≡ true → Coming (n + 1) home (span_time ds n) (n ∷ out)
    goes_out away = record {
      due = (record { ended = omega arith; away = away; not_back = λ m. omega (arith, r.passed n m); later = omega arith }, still);
      differ = (all_map (λ k d e. omega (arith, d.ended)) out r.due, r.differ);
      all = λ k h a. elim (was k h) [
        | inl e ↦ inr (Memᴰ.head e)
        | inr q ↦ ⊎_elim (λ m. inl m) (λ m. inr (Memᴰ.tail m)) (r.all k q a)
      ];
      next = λ h. rising;
      passed = λ k m. omega (arith, r.passed k m);
    }

    stays : away_at ds n ≡ false → Coming (n + 1) home (span_time ds n) out
    stays here = record {
      due = still;
      differ = r.differ;
      all = λ k h a. elim (was k h) [
        | inl e ↦ let away : away_at ds n ≡ true = rw (← e) a in clash (cc)
        | inr q ↦ r.all k q a
      ];
      next = λ h. rising;
      passed = λ k m. omega (arith, r.passed k m);
    }

    span_played : ((out : List ℕ) → Coming (n + 1) home (span_time ds n) out → Played (n + 1) home (span_time ds n)) → Played n home t
    span_played on = step (away_at ds n) refl
      where
        go : Played (n + 1) home (span_time ds n) → Played n home t
        go p = (
          span_call ds n (value_at ds n) ∷ p.0,
          λ us e. first_turn (Plays number ds n home t) us (span_call ds n (value_at ds n)) p.0 e
              (λ v vs is rest. spans is inside (r.next inside) (λ e. refl) (p.1 vs rest)),
        )

        step : (away : Bool) → away_at ds n ≡ away → Played n home t
        step true e = go (on (n ∷ out) (goes_out e))
        step false e = go (on out (stays e))

  -- the first of those that are away comes back
  module _ {n : ℕ} {home : List ℕ} {t : ℕ} {x : ℕ} {xs : List ℕ} (r : Coming n home t (x ∷ xs)) (w : First x xs)
      (soon : n < length ds → back_time ds w.at ≤ span_time ds n) where
    due_first : All (Due n home t) (w.at ∷ w.others)
    due_first = all_perm (Due n home t) w.same r.due

    differ_first : Pairwise (λ (i k : ℕ). i ≡ k → ⊥) (w.at ∷ w.others)
    differ_first = pairwise_perm (λ (i k : ℕ). i ≡ k → ⊥) (λ i k o e. o (sym e)) w.same r.differ

    is_home : Coming n (w.at ∷ home) (back_time ds w.at) w.others
    is_home = record {
      due = all_map (λ k h. record {
        ended = h.0.ended;
        away = h.0.away;
        not_back = λ m. ⊎_elim (λ e. h.1.0 (sym e)) h.0.not_back (Memᴰ.cases_cons m);
        later = h.1.1;
      }) w.others (all_zip _ _ w.others due_first.1 (all_zip _ _ w.others differ_first.0 w.least));
      differ = differ_first.1;
      all = λ k h a. elim (r.all k h a) [
        | inl m ↦ inl (Memᴰ.tail m)
        | inr m ↦ ⊎_elim (λ e. inl (Memᴰ.head e)) (λ q. inr q) (Memᴰ.cases_cons (member_all _ (perm_members w.same) m))
      ];
      next = soon;
      passed = λ k m. elim (Memᴰ.cases_cons m) [ inl e ↦ rw e due_first.0.ended | inr q ↦ r.passed k q ];
    }

    back_played : Played n (w.at ∷ home) (back_time ds w.at) → Played n home t
    back_played p =
        let d = due_first.0 in (
          back_call number ds w.at ∷ p.0,
          λ us e. first_turn (Plays number ds n home t) us (back_call number ds w.at) p.0 e
              (λ v vs is rest. backs is d.ended d.away d.not_back d.later (p.1 vs rest)),
        )

  -- returns while they come first, then the next span
  module _ (n : ℕ) (few : n ≤ length ds) (on : n < length ds → (home : List ℕ) (t : ℕ) (out : List ℕ) → Coming (n + 1) home t out → Played (n + 1) home t) where
    soonest :
        (home : List ℕ) (t : ℕ) (out : List ℕ) → Coming n home t out →
        ((back : List ℕ) (u : ℕ) (left : List ℕ) → length left < length out → Coming n back u left → Played n back u) → Played n home t
    soonest home t [] r back = step (ltb n (length ds)) refl
      where
        step : (b : Bool) → ltb n (length ds) ≡ b → Played n home t
        step true q = let h : n < length ds = ltb-true _ _ q in span_played r h tt (on h home (span_time ds n))
        step false q =
            let all : n ≡ length ds = omega (arith, ltb-false n (length ds) q) in
            let home_all : (k : ℕ) → k < length ds → away_at ds k ≡ true → Memᴰ k home =
            λ k h a. ⊎_elim (λ m. m) (λ m. absurd (Memᴰ.not-nil m)) (r.all k (omega arith) a) in
            ([], λ us e. no_turns (Plays number ds n home t) us e (over all home_all))
    soonest home t (x ∷ xs) r back = let w = first_back x xs in step w (ltb n (length ds)) refl (leb (back_time ds w.at) (span_time ds n)) refl
      where
        comes : (w : First x xs) → (n < length ds → back_time ds w.at ≤ span_time ds n) → Played n home t
        comes w soon = back_played r w soon (back (w.at ∷ home) (back_time ds w.at) w.others (omega (arith, length_perm w.same)) (is_home r w soon))

        step : (w : First x xs) (b : Bool) → ltb n (length ds) ≡ b → (c : Bool) → leb (back_time ds w.at) (span_time ds n) ≡ c → Played n home t
        step w false p c q = comes w (λ h. absurd (omega (arith, ltb-false n (length ds) p)))
        step w true p true q = comes w (λ h. leb-true _ _ q)
        step w true p false q =
            let h : n < length ds = ltb-true _ _ p in
            let high : span_time ds n < back_time ds w.at = leb-false _ _ q in
            span_played r h
            (all_perm (λ (k : ℕ). span_time ds n ≤ back_time ds k) (Permᴰ.symm w.same) (omega arith, all_map (λ k l. omega arith) w.others w.least))
            (on h home (span_time ds n))

    till_span : (most : ℕ) (home : List ℕ) (t : ℕ) (out : List ℕ) → length out ≤ most → Coming n home t out → Played n home t
    till_span zero home t out e r = soonest home t out r (λ back u left less. absurd (omega arith))
    till_span (suc most) home t out e r = soonest home t out r (λ back u left less. till_span most back u left (omega arith))

  from : (left n : ℕ) → n + left ≡ length ds → (home : List ℕ) (t : ℕ) (out : List ℕ) → Coming n home t out → Played n home t
  from zero n e home t out = till_span n (omega arith) (λ h. absurd (omega arith)) (length out) home t out (omega arith)
  from (suc left) n e home t out = till_span n (omega arith) (λ h. from left (n + 1) (omega arith)) (length out) home t out (omega arith)

  in_order : Played 0 [] 0
  in_order =
      from (length ds) 0 (omega arith) [] 0 []
      (record {
        due = tt;
        differ = tt;
        all = λ k h a. absurd (omega arith);
        next = λ h. omega arith;
        passed = λ k m. absurd (Memᴰ.not-nil m);
      })

-- ---- and so with the begin

-- after any turns from idle where the begin may be accepted, whatever the jobs do: turns that report it, from the accepted begin on
pub played :
    (before : List Turn) → FromIdle before → (table plan : List ℕ) (number : ℕ) → MayBegin before table plan number → (ds : List Doing) →
    (us : List Turn) × Plays number ds 0 [] 0 us × FromIdle (before ++ (record { call = begin table plan number; said = done } ∷ us))
played before run table plan number may ds =
    let order = in_order number ds in
    let w = every_sequence before run (begin table plan number ∷ order.0) in
    begun_turns w.0 w.2 w.1
  where
    begun_turns :
        (vs : List Turn) → calls_of vs ≡ begin table plan number ∷ (in_order number ds).0 → FromIdle (before ++ vs) →
        (us : List Turn) × Plays number ds 0 [] 0 us × FromIdle (before ++ (record { call = begin table plan number; said = done } ∷ us))
    begun_turns [] e r = clash (cc)
    begun_turns (v ∷ vs) e r =
        let call : v.call ≡ begin table plan number = cc in
        let run : FromIdle (before ++ (record { call = begin table plan number; said = v.said } ∷ vs)) =
        subst (λ (c : Call). FromIdle (before ++ (record { call = c; said = v.said } ∷ vs))) call r in
        let is = (begin_iff before table plan number v.said vs run).1 may in
        (vs, (in_order number ds).1 vs (cc), subst (λ (s : Reply). FromIdle (before ++ (record { call = begin table plan number; said = s } ∷ vs))) is run)
